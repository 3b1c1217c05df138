use Rattle.std.proofs.Common.{◌∙◌, length, sym}
use Rattle.std.proofs.lemmas.Bool.{eqb-true}
use Rattle.std.proofs.lemmas.List.{nil_from_length}
use Rattle.journal_text.proofs.Unsat.{all_unsat}
use Rattle.journal_text.proofs.worded.push_some.Goals as goal

pub returns-then-is_empty : goal.returns-then-is_empty
returns-then-is_empty c =
    all_unsat c.push_all_unsat.result c.args.out.now.items c.push_all_unsat.new.out.items c.args.first.now c.args.rest.now c.args.causes.now (nil_from_length c.args.causes.now (eqb-true (length c.args.causes.now) 0 (sym c.is_empty.ensures ∙ c.if-is_empty.true))) c.push_all_unsat.ensures
