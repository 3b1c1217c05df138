-- A job gives up what it reserved.
use Rattle.std.specs.Prelude.{ℕ, ◌+◌}
use Rattle.object_fields.specs.declared.key.Key.{Key}
use Rattle.cluster.specs.declared.entry.JobState.{JobState}
use Rattle.cluster.specs.declared.entry.JobState.TheVariants as job_state
use Rattle.cluster.specs.declared.state.State.{State}
use Rattle.cluster.specs.Freed.{without_uses}
use Rattle.cluster.specs.JobState.{failures}

-- the pod's uses are taken away, and it is Idle
abbrev pub with_unreserved : ℕ → Key → State → State
with_unreserved place pod s = without_uses place pod s

-- one more attempt of its job has failed
abbrev pub unreserved_leaves : JobState → JobState
unreserved_leaves st = job_state.Failed (failures st + 1)
