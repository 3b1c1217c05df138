-- A verdict that a pod can't be scheduled.
use Rattle.std.specs.Prelude.{ℕ, List, Bool, true, false}
use Rattle.std.specs.List.{list_any}
use Rattle.cluster.specs.declared.entry.JobState.{JobState}
use Rattle.cluster.specs.declared.entry.JobState.TheVariants as job_state
use Rattle.cluster.specs.declared.plan.Cause.{Cause}
use Rattle.cluster.specs.declared.plan.Cause.TheVariants as cause
use Rattle.cluster.specs.declared.plan.Passed.{Passed}
use Rattle.cluster.specs.declared.state.State.{State}

-- nothing changes
abbrev pub with_verdict : State → State
with_verdict s = s

-- its job is ended
abbrev pub judged_leaves : ℕ → JobState
judged_leaves index = job_state.Ended index

abbrev pub is_fault : Cause → Bool
is_fault cause.Unsat = false
is_fault (cause.Fault fault) = true
is_fault (cause.Budget steps) = false
is_fault (cause.Other claim) = false

abbrev pub is_budget : Cause → Bool
is_budget cause.Unsat = false
is_budget (cause.Fault fault) = false
is_budget (cause.Budget steps) = true
is_budget (cause.Other claim) = false

-- one of the nodes has a selector's error
abbrev pub has_fault : List Passed → Bool
has_fault nodes = list_any (λ p. is_fault p.cause) nodes

-- the search of one of the nodes ended with its budget
abbrev pub has_budget : List Passed → Bool
has_budget nodes = list_any (λ p. is_budget p.cause) nodes
