use Rattle.std.proofs.Common.{sym}
use Rattle.ledger_core.proofs.Rows.{at_one_set, below_set}
use Rattle.ledger_core.proofs.room.JobStates.set.Goals as goal

pub invariant_of-self : goal.invariant_of-self
invariant_of-self c =
    let rows = c.self.inside.rows in
    let row = c.in-Some.row.now in
    let is = sym c.in-Some.ensures.value in
    (below_set rows c.self.inside.most c.args.job row c.args.state c.self.invariant.0 is, at_one_set rows c.args.job row c.args.state is)
