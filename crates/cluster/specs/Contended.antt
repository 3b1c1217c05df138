-- As many attempts of a job have failed as it may make.
use Rattle.std.specs.Prelude.{ℕ}
use Rattle.cluster.specs.declared.entry.JobState.{JobState}
use Rattle.cluster.specs.declared.entry.JobState.TheVariants as job_state
use Rattle.cluster.specs.declared.state.State.{State}

-- nothing changes
abbrev pub with_contention : State → State
with_contention s = s

-- its job is ended
abbrev pub contended_leaves : ℕ → JobState
contended_leaves index = job_state.Ended index
