use Rattle.allocations.proofs.Changes.{once_applied, once_bound, once_deleted, once_empty, once_written}
use Rattle.allocations.proofs.Freed.{unused_once}
use Rattle.allocations.proofs.holders.changes_hold_once.Goals as goal

pub returns-clause-empty : goal.returns-clause-empty
returns-clause-empty c = once_empty

pub returns-clause-applied : goal.returns-clause-applied
returns-clause-applied c = once_applied

pub returns-clause-deleted : goal.returns-clause-deleted
returns-clause-deleted c = once_deleted

pub returns-clause-unreserved : goal.returns-clause-unreserved
returns-clause-unreserved c = unused_once

pub returns-clause-released : goal.returns-clause-released
returns-clause-released c = unused_once

pub returns-clause-written : goal.returns-clause-written
returns-clause-written c = once_written

pub returns-clause-bound : goal.returns-clause-bound
returns-clause-bound c = once_bound
