use Rattle.allocations.proofs.GrowthHeld.{adopted_keeps, applied_keeps, bound_keeps, reserved_keeps, written_keeps}
use Rattle.allocations.proofs.growth.changes_keep_held.Goals as goal

pub returns-clause-applied : goal.returns-clause-applied
returns-clause-applied c = applied_keeps

pub returns-clause-reserved : goal.returns-clause-reserved
returns-clause-reserved c = reserved_keeps

pub returns-clause-written : goal.returns-clause-written
returns-clause-written c = written_keeps

pub returns-clause-bound : goal.returns-clause-bound
returns-clause-bound c = bound_keeps

pub returns-clause-adopted : goal.returns-clause-adopted
returns-clause-adopted c = adopted_keeps
