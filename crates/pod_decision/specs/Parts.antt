-- What a decision is put together from.
use Rattle.std.specs.Prelude.{ℕ, List, not, Option, None, Some, find, is_none}
use Rattle.object_fields.specs.declared.key.Key.{Key}
use Rattle.pool_view.specs.Names.{at_key}
use Rattle.cluster.specs.declared.plan.Passed.{Passed}
use Rattle.cluster.specs.declared.plan.Plan.{Plan}
use Rattle.cluster.specs.declared.plan.Reason.{Reason}
use Rattle.cluster.specs.declared.plan.Reason.TheVariants as reason
use Rattle.cluster.specs.declared.state.PodState.{PodState}
use Rattle.cluster.specs.declared.state.State.{State}
use Rattle.cluster.specs.Claims.{known_of}
use Rattle.cluster.specs.State.{may_use}
use Rattle.allocations.specs.Claims.{is_elsewhere, joined}
use Rattle.engine_ports.specs.declared.decision.Decision.{Decision}
use Rattle.engine_ports.specs.declared.decision.Decision.TheVariants.{Reserve, Judge}
use Rattle.pod_decision.specs.declared.nodes.Taken.{Taken}

-- the first of the claims that isn't there
abbrev pub first_missing : State → List Key → Option Key
first_missing s ks = find (λ k. is_none (at_key s.claims k)) ks

-- the first of the claims without room for the pod
abbrev pub first_full : State → Key → List Key → Option Key
first_full s pod ks = find (λ k. not (may_use pod (at_key s.claims k))) ks

-- the first of the claims whose grant is on another node
abbrev pub first_elsewhere : State → List ℕ → List Key → Option Key
first_elsewhere s node ks = find (λ k. is_elsewhere node (at_key s.claims k)) ks

abbrev pub unready_by : Option Key → Option Key → Option Reason
unready_by (Some k) full = Some (reason.Missing k)
unready_by None (Some k) = Some (reason.Users k)
unready_by None None = None

-- why no search is made for the pod: a claim that is missing, or else one without room
abbrev pub unready : State → Key → List Key → Option Reason
unready s pod ks = unready_by (first_missing s ks) (first_full s pod ks)

-- the plan that takes a node
abbrev pub plan_by : State → PodState → ℕ → List Passed → Taken → Plan
plan_by s p at passed taken = record {
  at = at;
  node = taken.node;
  passed = passed;
  grants = taken.grants;
  joins = joined s p.pod.object;
  known = known_of s p;
}

-- the plan that takes the node that was found, or the verdict that there is none
abbrev pub decision_by : State → PodState → ℕ → List Passed → Option Taken → Decision
decision_by s p at passed None = Judge (record { at = at; reason = reason.Nodes passed })
decision_by s p at passed (Some taken) = Reserve (plan_by s p at passed taken)
