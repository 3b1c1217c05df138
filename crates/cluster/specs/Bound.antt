-- A pod is bound to a node.
use Rattle.std.specs.Prelude.{ℕ, List}
use Rattle.object_fields.specs.declared.key.Key.{Key}
use Rattle.cluster.specs.declared.entry.JobState.{JobState}
use Rattle.cluster.specs.declared.entry.JobState.TheVariants as job_state
use Rattle.cluster.specs.declared.state.Phase.TheVariants as phase
use Rattle.cluster.specs.declared.state.State.{State}
use Rattle.cluster.specs.Tables.{with_phase}

abbrev pub with_bound : Key → List ℕ → State → State
with_bound pod node s = record s { pods = with_phase pod (phase.Bound node) s.pods }

-- its job is ended
abbrev pub bound_leaves : ℕ → JobState
bound_leaves index = job_state.Ended index
