use Rattle.std.proofs.Common.{◌++◌}
use Rattle.std.specs.Prelude.{codes, decimal}
use Rattle.object_fields.specs.Keys.{key_text}
use Rattle.journal_text.proofs.Rows.{then}
use Rattle.journal_text.proofs.failure.FailureWorded.push_to.Goals as goal

pub returns-in_ok-push_after-in-Constraint : goal.returns-in_ok-push_after-in-Constraint
returns-in_ok-push_after-in-Constraint c =
    rw c.in-Constraint.is
    (then _ c.args.out.now.items _ _ (codes "Constraint:" ++ key_text c.in-Constraint.claim) (codes ":") (decimal c.in-Constraint.index)
    c.in_ok-push_after-in-Constraint.ensures c.push_after-in-Constraint-2.ensures)
