-- A claim has another version than the one that a job assumed.
use Rattle.cluster.specs.declared.entry.JobState.{JobState}
use Rattle.cluster.specs.declared.entry.JobState.TheVariants as job_state
use Rattle.cluster.specs.declared.state.State.{State}
use Rattle.cluster.specs.JobState.{failures}

-- nothing changes
abbrev pub with_conflict : State → State
with_conflict s = s

-- its job has found another version, after as many failed attempts
abbrev pub conflict_leaves : JobState → JobState
conflict_leaves st = job_state.Conflicted (failures st)
