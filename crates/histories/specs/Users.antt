-- The users of claims.
use Rattle.std.specs.Prelude.{ℕ, ◌≡◌, true, List, Some, Contains, is_some}
use Rattle.std.specs.List.{list_all}
use Rattle.api_claim.specs.Limits.{EachOf}
use Rattle.object_fields.specs.declared.key.Key.{Key}
use Rattle.pool_view.specs.Names.{at_key}
use Rattle.cluster.specs.declared.state.ClaimState.{ClaimState}
use Rattle.cluster.specs.declared.state.PodState.{PodState}
use Rattle.cluster.specs.declared.state.State.{State}
use Rattle.cluster.specs.declared.state.Phase.TheVariants.{Bound}
use Rattle.cluster.specs.Denied.{is_busy}
use Rattle.cluster.specs.State.{claims_of, has_written, use_in}

-- the pod is there, is taken or bound, and names the claim
pub record IsUserOf (pods : List (Key × PodState)) (claim pod : Key) : Type 0 where
  pub state : PodState
  pub there : at_key pods pod ≡ Some state
  pub busy : is_busy (Some state) ≡ true
  pub named : Contains (claims_of state) claim

-- each user of the claim is one of these pods, is taken or bound, and names the claim
abbrev pub HasBusyUsers : List (Key × PodState) → Key → ClaimState → Type 0
HasBusyUsers pods claim c = (pod : Key) → is_some (at_key c.users pod) ≡ true → IsUserOf pods claim pod

-- each user of a claim is a pod that is taken or bound, and names the claim
pub record UsersAreBusy (s : State) : Type 0 where
  pub each : EachOf (λ e. HasBusyUsers s.pods e.0 e.1) s.claims

-- the pod is at its own key; where it is taken or bound, each of its claims has it as a user, and where it is
-- bound, each of its uses is written
pub record UsesItsClaims (s : State) (key : Key) (pod : PodState) : Type 0 where
  pub own : pod.pod.object.key ≡ key
  pub used : is_busy (Some pod) ≡ true → list_all (λ k. is_some (use_in key (at_key s.claims k))) (claims_of pod) ≡ true
  pub written : (node : List ℕ) → pod.phase ≡ Bound node → list_all (λ k. has_written s key k) (claims_of pod) ≡ true

pub record PodsUseClaims (s : State) : Type 0 where
  pub each : (key : Key) (pod : PodState) → at_key s.pods key ≡ Some pod → UsesItsClaims s key pod
