use Rattle.cluster.specs.declared.entry.JobState.TheVariants.{Fresh}
use Rattle.ledger_core.proofs.Rows.{at_inserted, below_inserted}
use Rattle.ledger_core.proofs.room.JobStates.add_row.Goals as goal

pub invariant_of-self-2 : goal.invariant_of-self-2
invariant_of-self-2 c =
    let rows = c.self.inside.rows in
    rw c.in_ok-insert.ensures.ok (
      below_inserted rows c.self.inside.most c.higher-most.result c.args.job Fresh c.self.invariant.0 c.higher-most.ensures.first c.higher-most.ensures.second,
      at_inserted rows c.args.job Fresh,
    )
