use Rattle.journal_laws.proofs.Whole.{by_lines}
use Rattle.journal_laws.proofs.laws.texts_determine_histories.Goals as goal

pub returns-clause-lines : goal.returns-clause-lines
returns-clause-lines c = by_lines (record {
  kind = c.lines_tell_entries.ensures.kind;
  job = c.lines_tell_entries.ensures.job;
  decided = c.lines_tell_entries.ensures.decided;
  count = c.texts_are_lines.ensures.count;
  lines = c.texts_are_lines.ensures.lines;
  names = c.names_are_unbroken.ensures;
  step = c.legal_steps.ensures.step;
  whole = c.histories_are_determined.ensures.whole;
})

pub returns-clause-texts : goal.returns-clause-texts
returns-clause-texts c = λ commands budget h g m n legal legally runs run few i j same. by_lines (record {
  kind = c.lines_tell_entries.ensures.kind;
  job = c.lines_tell_entries.ensures.job;
  decided = c.lines_tell_entries.ensures.decided;
  count = c.texts_are_lines.ensures.count;
  lines = c.texts_are_lines.ensures.lines;
  names = c.names_are_unbroken.ensures;
  step = c.legal_steps.ensures.step;
  whole = c.histories_are_determined.ensures.whole;
}) commands budget h g legal legally runs run few i j (c.texts_are_lines.ensures.summaries h g m n same)
