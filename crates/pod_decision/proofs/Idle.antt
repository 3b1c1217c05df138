-- A pod that is there and Idle.
use Rattle.std.proofs.Common.{◌≡◌, ◌∙◌, true, Some, refl, sym, ap}
use Rattle.object_fields.specs.declared.key.Key.{Key}
use Rattle.pool_view.specs.Names.{at_key}
use Rattle.cluster.specs.declared.state.Phase.{Phase}
use Rattle.cluster.specs.declared.state.Phase.TheVariants as phase
use Rattle.cluster.specs.declared.state.PodState.{PodState}
use Rattle.cluster.specs.declared.state.State.{State}
use Rattle.cluster.specs.State.{is_idle}
use Rattle.plan_rules.specs.Idle.{is_idle_by, is_idle_pod}
use Rattle.plan_rules.specs.Plans.{IsIdle}

idle_phase : (p : Phase) → is_idle p ≡ true → p ≡ phase.Idle
idle_phase phase.Idle e = refl
idle_phase (phase.Taken job node) e = absurd (cc)
idle_phase (phase.Bound node) e = absurd (cc)

pub idle_there : (s : State) (pod : Key) (p : PodState) → Some p ≡ at_key s.pods pod → is_idle_pod s pod ≡ true → IsIdle s pod p
idle_there s pod p is idle = record { there = sym is; idle = idle_phase p.phase (ap is_idle_by is ∙ idle) }
