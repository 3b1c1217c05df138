-- The grants of claims that pods use.
use Rattle.std.specs.Prelude.{ℕ, ◌≡◌, List, [], Option, None, Some, Contains}
use Rattle.object_fields.specs.declared.key.Key.{Key}
use Rattle.pool_view.specs.Names.{at_key}
use Rattle.cluster.specs.declared.state.ClaimState.{ClaimState}
use Rattle.cluster.specs.declared.state.Granted.{Granted}
use Rattle.cluster.specs.declared.state.Phase.{Phase}
use Rattle.cluster.specs.declared.state.Phase.TheVariants as phase
use Rattle.cluster.specs.declared.state.PodState.{PodState}
use Rattle.cluster.specs.declared.state.State.{State}
use Rattle.cluster.specs.State.{claims_of}

-- the node that a pod is taken for, or bound to
abbrev pub node_of : Phase → Option (List ℕ)
node_of phase.Idle = None
node_of (phase.Taken job node) = Some node
node_of (phase.Bound node) = Some node

-- the claim is there, and has its grant on the node
pub record HasGrantOn (s : State) (node : List ℕ) (claim : Key) : Type 0 where
  pub state : ClaimState
  pub there : at_key s.claims claim ≡ Some state
  pub grant : Granted
  pub granted : state.grant ≡ Some grant
  pub on : grant.node ≡ node

-- a claim with a user has a grant, and a pod that is taken for a node, or bound to it, has the grants of all its claims there
pub record UsersAreGranted (s : State) : Type 0 where
  pub unused : (key : Key) (claim : ClaimState) → at_key s.claims key ≡ Some claim → claim.grant ≡ None → claim.users ≡ []
  pub on_one : (key : Key) (pod : PodState) (node : List ℕ) (claim : Key) →
      at_key s.pods key ≡ Some pod → node_of pod.phase ≡ Some node → Contains (claims_of pod) claim → HasGrantOn s node claim
