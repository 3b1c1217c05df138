use Rattle.journal_laws.proofs.Texts.{commands_same, count_same, lines_alone, texts_same}
use Rattle.journal_laws.proofs.laws.texts_are_lines.Goals as goal

pub returns-clause-count : goal.returns-clause-count
returns-clause-count c = λ n h g same. count_same n h g (lines_alone n h g same)

pub returns-clause-lines : goal.returns-clause-lines
returns-clause-lines c = lines_alone

pub returns-clause-summaries : goal.returns-clause-summaries
returns-clause-summaries c = texts_same

pub returns-clause-commands : goal.returns-clause-commands
returns-clause-commands c = commands_same
