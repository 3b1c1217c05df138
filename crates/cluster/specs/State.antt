-- What a state has at its keys.
use Rattle.std.specs.Prelude.{ℕ, ◌≡◌, List, [], Bool, true, false, Option, None, Some, length, nat_lt, is_some, ◌||◌}
use Rattle.object_fields.specs.declared.key.Key.{Key}
use Rattle.pool_view.specs.Inventory.{empty_inventory, has_room_for}
use Rattle.pool_view.specs.Names.{at_key, at_name}
use Rattle.cluster.specs.declared.object.Object.{Object}
use Rattle.cluster.specs.declared.object.Object.TheVariants as object
use Rattle.cluster.specs.declared.state.State.{State}
use Rattle.cluster.specs.declared.state.ClaimState.{ClaimState}
use Rattle.cluster.specs.declared.state.PodState.{PodState}
use Rattle.cluster.specs.declared.state.Phase.{Phase}
use Rattle.cluster.specs.declared.state.Phase.TheVariants as phase
use Rattle.cluster.specs.declared.state.Use.{Use}
use Rattle.cluster.specs.declared.state.Use.TheVariants.{Assumed, Written}
use Rattle.cluster.specs.Claims.{claim_keys, first_places}

-- nothing
abbrev pub empty_state : State
empty_state = record { inventory = empty_inventory; classes = []; claims = []; pods = [] }

-- no object of this kind and name is there
abbrev pub IsAbsent : State → Object → Type 0
IsAbsent s (object.Node x) = at_name s.inventory.nodes x.name ≡ None
IsAbsent s (object.Slice x) = at_name s.inventory.slices x.name ≡ None
IsAbsent s (object.Class x) = at_name s.classes x.name ≡ None
IsAbsent s (object.Claim x) = at_key s.claims x.key ≡ None
IsAbsent s (object.Pod x) = at_key s.pods x.key ≡ None

-- an object of this kind and name is there
abbrev pub is_there : State → Object → Bool
is_there s (object.Node x) = is_some (at_name s.inventory.nodes x.name)
is_there s (object.Slice x) = is_some (at_name s.inventory.slices x.name)
is_there s (object.Class x) = is_some (at_name s.classes x.name)
is_there s (object.Claim x) = is_some (at_key s.claims x.key)
is_there s (object.Pod x) = is_some (at_key s.pods x.key)

-- all slices with the object have at most the devices that they may have, where a slice replaces
-- the one of its name
abbrev pub has_room : State → Object → Bool
has_room s (object.Node x) = true
has_room s (object.Slice x) = has_room_for s.inventory.slices x
has_room s (object.Class x) = true
has_room s (object.Claim x) = true
has_room s (object.Pod x) = true

-- the most users that a claim has
abbrev pub most_users : ℕ
most_users = 256

abbrev pub is_idle : Phase → Bool
is_idle phase.Idle = true
is_idle (phase.Taken job node) = false
is_idle (phase.Bound node) = false

-- the claim has fewer users than it may have, or the pod is one of them
abbrev pub may_use : Key → Option ClaimState → Bool
may_use pod None = true
may_use pod (Some c) = is_some (at_key c.users pod) || nat_lt (length c.users) most_users

-- how a pod uses a claim
abbrev pub use_in : Key → Option ClaimState → Option Use
use_in pod None = None
use_in pod (Some c) = at_key c.users pod

abbrev pub is_written : Option Use → Bool
is_written None = false
is_written (Some (Assumed seen)) = false
is_written (Some Written) = true

-- whether the pod's use of the claim is written
abbrev pub has_written : State → Key → Key → Bool
has_written s pod claim = is_written (use_in pod (at_key s.claims claim))

-- the pod's claims, each at its first occurrence
abbrev pub claims_of : PodState → List Key
claims_of p = first_places [] (claim_keys p.pod.object)

abbrev pub version_by : Option ClaimState → ℕ
version_by None = 0
version_by (Some c) = c.claim.version

-- the version of a claim that is there
abbrev pub version_of : State → Key → ℕ
version_of s claim = version_by (at_key s.claims claim)

abbrev pub node_by_phase : Phase → List ℕ
node_by_phase phase.Idle = []
node_by_phase (phase.Taken job node) = node
node_by_phase (phase.Bound node) = []

abbrev pub node_by : Option PodState → List ℕ
node_by None = []
node_by (Some p) = node_by_phase p.phase

-- the node that a pod is taken for
abbrev pub taken_node : State → Key → List ℕ
taken_node s pod = node_by (at_key s.pods pod)
