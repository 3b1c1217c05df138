-- A command is refused.
use Rattle.std.specs.Prelude.{ℕ, ◌==◌, Bool, false, not, ◌||◌, Option, None, Some, is_some, length, option_map, if◌then◌else◌}
use Rattle.std.specs.List.{list_any}
use Rattle.object_fields.specs.declared.key.Key.{Key}
use Rattle.api_claim.specs.declared.types.ClaimStatus.{ClaimStatus}
use Rattle.api_claim.specs.declared.types.ResourceClaim.{ResourceClaim}
use Rattle.api_cluster.specs.declared.types.Pod.{Pod}
use Rattle.pool_view.specs.Names.{at_key, at_name}
use Rattle.cluster.specs.declared.entry.Command.{Command}
use Rattle.cluster.specs.declared.entry.Command.TheVariants as command
use Rattle.cluster.specs.declared.entry.Mode.{Mode}
use Rattle.cluster.specs.declared.entry.Mode.TheVariants as mode
use Rattle.cluster.specs.declared.entry.Refusal.{Refusal}
use Rattle.cluster.specs.declared.entry.Refusal.TheVariants as refusal
use Rattle.cluster.specs.declared.entry.JobState.{JobState}
use Rattle.cluster.specs.declared.entry.JobState.TheVariants as job_state
use Rattle.cluster.specs.declared.object.Object.{Object}
use Rattle.cluster.specs.declared.object.Object.TheVariants as object
use Rattle.cluster.specs.declared.object.Target.{Target}
use Rattle.cluster.specs.declared.object.Target.TheVariants as target
use Rattle.cluster.specs.declared.state.ClaimState.{ClaimState}
use Rattle.cluster.specs.declared.state.Phase.{Phase}
use Rattle.cluster.specs.declared.state.Phase.TheVariants as phase
use Rattle.cluster.specs.declared.state.PodState.{PodState}
use Rattle.cluster.specs.declared.state.State.{State}
use Rattle.cluster.specs.Same.{same_pod_claims, same_spec}
use Rattle.cluster.specs.State.{has_room, is_idle, is_there}

-- the refusal, if it holds
abbrev pub when : Bool → Refusal → Option Refusal
when holds r = if holds then Some r else None

-- the first refusal, or else the one after it
abbrev pub or_else : Option Refusal → Option Refusal → Option Refusal
or_else None later = later
or_else (Some r) later = Some r

-- ---- versions

-- the version of the object of this kind and name that is there
abbrev pub version_at : State → Object → Option ℕ
version_at s (object.Node x) = option_map (λ e. e.version) (at_name s.inventory.nodes x.name)
version_at s (object.Slice x) = option_map (λ e. e.version) (at_name s.inventory.slices x.name)
version_at s (object.Class x) = option_map (λ e. e.version) (at_name s.classes x.name)
version_at s (object.Claim x) = option_map (λ c. c.claim.version) (at_key s.claims x.key)
version_at s (object.Pod x) = option_map (λ p. p.pod.version) (at_key s.pods x.key)

-- the `metadata.resourceVersion` that an object carries
abbrev pub carried_version : Object → Option ℕ
carried_version (object.Node x) = x.version
carried_version (object.Slice x) = x.version
carried_version (object.Class x) = x.version
carried_version (object.Claim x) = x.version
carried_version (object.Pod x) = x.version

abbrev pub conflict_of : Option ℕ → Option ℕ → Option Refusal
conflict_of None present = None
conflict_of (Some had) None = None
conflict_of (Some had) (Some now) = when (not (had == now)) (refusal.Conflict had now)

-- the object carries a version that isn't the present one
abbrev pub conflict : State → Object → Option Refusal
conflict s x = conflict_of (carried_version x) (version_at s x)

-- ---- what an update may not change

abbrev pub is_claim_changed : ResourceClaim → Option ClaimState → Bool
is_claim_changed x None = false
is_claim_changed x (Some c) = not (same_spec c.claim.object x)

abbrev pub is_pod_changed : Pod → Option PodState → Bool
is_pod_changed x None = false
is_pod_changed x (Some p) = not (same_pod_claims p.pod.object x)

-- the spec of a claim, or the list of claims of a pod, isn't that of the one that is there
abbrev pub is_changed : State → Object → Bool
is_changed s (object.Node x) = false
is_changed s (object.Slice x) = false
is_changed s (object.Class x) = false
is_changed s (object.Claim x) = is_claim_changed x (at_key s.claims x.key)
is_changed s (object.Pod x) = is_pod_changed x (at_key s.pods x.key)

-- ---- what may not be taken away

-- an object of this kind and name is there
abbrev pub is_found : State → Target → Bool
is_found s (target.Node name) = is_some (at_name s.inventory.nodes name)
is_found s (target.Slice name) = is_some (at_name s.inventory.slices name)
is_found s (target.Class name) = is_some (at_name s.classes name)
is_found s (target.Claim key) = is_some (at_key s.claims key)
is_found s (target.Pod key) = is_some (at_key s.pods key)

abbrev pub has_user : Option ClaimState → Bool
has_user None = false
has_user (Some c) = not (length c.users == 0)

-- the pod is taken or bound
abbrev pub is_busy : Option PodState → Bool
is_busy None = false
is_busy (Some p) = not (is_idle p.phase)

-- the pod is a user of a claim
abbrev pub is_user : State → Key → Bool
is_user s pod = list_any (λ e. is_some (at_key e.1.users pod)) s.claims

-- a claim that has a user, or a pod that is taken, bound or a user of a claim
abbrev pub is_in_use : State → Target → Bool
is_in_use s (target.Node name) = false
is_in_use s (target.Slice name) = false
is_in_use s (target.Class name) = false
is_in_use s (target.Claim key) = has_user (at_key s.claims key)
is_in_use s (target.Pod key) = is_busy (at_key s.pods key) || is_user s key

-- ---- the refusals of each command, in the order in which they are looked at

-- all slices with the object would have too many devices
abbrev pub no_room : State → Object → Option Refusal
no_room s x = when (not (has_room s x)) refusal.Devices

abbrev pub create_refusal : State → Object → Option Refusal
create_refusal s x = or_else (when (is_there s x) refusal.Exists) (no_room s x)

abbrev pub update_refusal : State → Object → Option Refusal
update_refusal s x = or_else (when (not (is_there s x)) refusal.NotFound) (or_else (conflict s x) (or_else (when (is_changed s x) refusal.Immutable) (no_room s x)))

abbrev pub apply_refusal : State → Object → Mode → Option Refusal
apply_refusal s x mode.Create = create_refusal s x
apply_refusal s x mode.Update = update_refusal s x
apply_refusal s x mode.Apply = if is_there s x then update_refusal s x else create_refusal s x

abbrev pub delete_refusal : State → Target → Option Refusal
delete_refusal s t = or_else (when (not (is_found s t)) refusal.NotFound) (when (is_in_use s t) refusal.InUse)

abbrev pub phase_refusal : Phase → Option Refusal
phase_refusal phase.Idle = None
phase_refusal (phase.Taken job node) = Some (refusal.Busy job)
phase_refusal (phase.Bound node) = Some (refusal.Bound node)

abbrev pub schedule_refusal : Option PodState → Option Refusal
schedule_refusal None = Some refusal.NotFound
schedule_refusal (Some p) = phase_refusal p.phase

abbrev pub unbound_refusal : Phase → Option Refusal
unbound_refusal phase.Idle = Some refusal.NotBound
unbound_refusal (phase.Taken job node) = Some (refusal.Busy job)
unbound_refusal (phase.Bound node) = None

abbrev pub release_refusal : Option PodState → Option Refusal
release_refusal None = Some refusal.NotFound
release_refusal (Some p) = unbound_refusal p.phase

-- the refusals of a status write before what its grant is looked at
abbrev pub status_refusal : ClaimStatus → Option ClaimState → Option Refusal
status_refusal status None = Some refusal.NotFound
status_refusal status (Some c) = or_else (conflict_of status.version (Some c.claim.version)) (when (is_some c.grant) refusal.Exists)

-- The first refusal of a command that holds. Whether the grant of a status write is an allocation isn't looked at here.
abbrev pub first_refusal : State → Command → Option Refusal
first_refusal s (command.Invalid error) = Some refusal.Invalid
first_refusal s (command.Apply x m) = apply_refusal s x m
first_refusal s (command.Delete t) = delete_refusal s t
first_refusal s (command.Schedule pod) = schedule_refusal (at_key s.pods pod)
first_refusal s (command.Release pod) = release_refusal (at_key s.pods pod)
first_refusal s (command.Adopt claim status) = status_refusal status (at_key s.claims claim)

-- nothing changes
abbrev pub with_denial : State → State
with_denial s = s

-- its job is ended
abbrev pub denied_leaves : ℕ → JobState
denied_leaves index = job_state.Ended index
