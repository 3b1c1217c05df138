-- A plan's grants can't be made.
use Rattle.std.specs.Prelude.{◌+◌}
use Rattle.cluster.specs.declared.entry.JobState.{JobState}
use Rattle.cluster.specs.declared.entry.JobState.TheVariants as job_state
use Rattle.cluster.specs.declared.state.State.{State}
use Rattle.cluster.specs.JobState.{failures}

-- nothing changes
abbrev pub with_refusal : State → State
with_refusal s = s

-- one more attempt of its job has failed
abbrev pub refused_leaves : JobState → JobState
refused_leaves st = job_state.Failed (failures st + 1)
