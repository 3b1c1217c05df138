-- A bound pod releases its claims.
use Rattle.std.specs.Prelude.{ℕ}
use Rattle.object_fields.specs.declared.key.Key.{Key}
use Rattle.cluster.specs.declared.entry.JobState.{JobState}
use Rattle.cluster.specs.declared.entry.JobState.TheVariants as job_state
use Rattle.cluster.specs.declared.state.State.{State}
use Rattle.cluster.specs.Freed.{without_uses}

-- the pod's uses, which are all written, are taken away, and it is Idle
abbrev pub with_released : ℕ → Key → State → State
with_released index pod s = without_uses index pod s

-- its job is ended
abbrev pub released_leaves : ℕ → JobState
released_leaves index = job_state.Ended index
