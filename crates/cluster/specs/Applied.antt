-- An object is created or updated.
use Rattle.std.specs.Prelude.{ℕ, [], None}
use Rattle.api_claim.specs.declared.types.ResourceClaim.{ResourceClaim}
use Rattle.api_cluster.specs.declared.types.Pod.{Pod}
use Rattle.pool_view.specs.Inventory.{created, updated, with_named, with_node, with_slice}
use Rattle.cluster.specs.declared.entry.JobState.{JobState}
use Rattle.cluster.specs.declared.entry.JobState.TheVariants as job_state
use Rattle.cluster.specs.declared.object.Object.{Object}
use Rattle.cluster.specs.declared.object.Object.TheVariants as object
use Rattle.cluster.specs.declared.state.ClaimState.{ClaimState}
use Rattle.cluster.specs.declared.state.PodState.{PodState}
use Rattle.cluster.specs.declared.state.Phase.TheVariants.{Idle}
use Rattle.cluster.specs.declared.state.State.{State}
use Rattle.cluster.specs.Tables.{changed_or_new}

-- a claim that the entry at an index creates
abbrev pub new_claim : ℕ → ResourceClaim → ClaimState
new_claim index x = record { claim = created index x; grant = None; users = [] }

-- a claim that the entry at an index updates, with its grant and its users
abbrev pub updated_claim : ℕ → ResourceClaim → ClaimState → ClaimState
updated_claim index x c = record c { claim = updated index x c.claim }

-- a pod that the entry at an index creates
abbrev pub new_pod : ℕ → Pod → PodState
new_pod index x = record { pod = created index x; phase = Idle }

-- a pod that the entry at an index updates, as far as it has come
abbrev pub updated_pod : ℕ → Pod → PodState → PodState
updated_pod index x p = record p { pod = updated index x p.pod }

-- the state with an object that the entry at the index creates, or updates if one of its kind and name is there
abbrev pub with_object : ℕ → Object → State → State
with_object index (object.Node x) s = record s { inventory = with_node index x s.inventory }
with_object index (object.Slice x) s = record s { inventory = with_slice index x s.inventory }
with_object index (object.Class x) s = record s { classes = with_named index x.name x s.classes }
with_object index (object.Claim x) s = record s { claims = changed_or_new x.key (new_claim index x) (updated_claim index x) s.claims }
with_object index (object.Pod x) s = record s { pods = changed_or_new x.key (new_pod index x) (updated_pod index x) s.pods }

-- its job is ended
abbrev pub applied_leaves : ℕ → JobState
applied_leaves index = job_state.Ended index
