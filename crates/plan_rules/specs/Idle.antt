-- Whether a pod may be scheduled.
use Rattle.std.specs.Prelude.{Bool, false, Option, None, Some}
use Rattle.object_fields.specs.declared.key.Key.{Key}
use Rattle.pool_view.specs.Names.{at_key}
use Rattle.cluster.specs.declared.state.PodState.{PodState}
use Rattle.cluster.specs.declared.state.State.{State}
use Rattle.cluster.specs.State.{is_idle}

abbrev pub is_idle_by : Option PodState → Bool
is_idle_by None = false
is_idle_by (Some p) = is_idle p.phase

-- the pod is there, and Idle
abbrev pub is_idle_pod : State → Key → Bool
is_idle_pod s pod = is_idle_by (at_key s.pods pod)
