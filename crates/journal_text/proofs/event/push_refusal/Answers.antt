use Rattle.std.proofs.Common.{◌++◌}
use Rattle.std.specs.Prelude.{codes, decimal}
use Rattle.journal_text.proofs.Rows.{then}
use Rattle.journal_text.proofs.event.push_refusal.Goals as goal

pub returns-in_ok-push_after-in-Conflict : goal.returns-in_ok-push_after-in-Conflict
returns-in_ok-push_after-in-Conflict g c =
    rw c.in-Conflict.is
    (then _ c.args.out.now.items _ _ (codes "denied Conflict had=" ++ decimal c.in-Conflict.had) (codes " now=") (decimal c.in-Conflict.now)
    c.in_ok-push_after-in-Conflict.ensures c.push_after-in-Conflict-2.ensures)
