-- A pod's uses of its claims are taken away.
use Rattle.std.specs.Prelude.{ℕ, List, [], ◌∷◌, Option, None, Some}
use Rattle.std.specs.BTreeMap.{is_at}
use Rattle.std.specs.Map.{remove_entry}
use Rattle.object_fields.specs.declared.key.Key.{Key}
use Rattle.pool_view.specs.Names.{at_key, key_cmp}
use Rattle.cluster.specs.declared.state.ClaimState.{ClaimState}
use Rattle.cluster.specs.declared.state.Granted.{Granted}
use Rattle.cluster.specs.declared.state.Phase.TheVariants.{Idle}
use Rattle.cluster.specs.declared.state.PodState.{PodState}
use Rattle.cluster.specs.declared.state.State.{State}
use Rattle.cluster.specs.declared.state.Use.{Use}
use Rattle.cluster.specs.declared.state.Use.TheVariants.{Assumed, Written}
use Rattle.cluster.specs.State.{claims_of}
use Rattle.cluster.specs.Tables.{changed_at, with_phase}

-- a claim whose written use goes gets the index as its version
abbrev pub freed_version : ℕ → Use → ℕ → ℕ
freed_version index (Assumed seen) version = version
freed_version index Written version = index

-- a claim without users loses its grant
abbrev pub grant_left : List (Key × Use) → Option Granted → Option Granted
grant_left [] grant = None
grant_left (u ∷ us) grant = grant

abbrev pub without_user : Key → List (Key × Use) → List (Key × Use)
without_user pod users = remove_entry (is_at (key_cmp pod)) users

abbrev pub freed_by : ℕ → Key → Option Use → ClaimState → ClaimState
freed_by index pod None c = c
freed_by index pod (Some use_of) c =
    record c { claim = record c.claim { version = freed_version index use_of c.claim.version }; grant = grant_left (without_user pod c.users) c.grant; users = without_user pod c.users }

-- the claim without the pod's use, if it has one
abbrev pub freed : ℕ → Key → ClaimState → ClaimState
freed index pod c = freed_by index pod (at_key c.users pod) c

-- each of these claims without the pod's use
abbrev pub with_freed : ℕ → Key → List Key → List (Key × ClaimState) → List (Key × ClaimState)
with_freed index pod [] claims = claims
with_freed index pod (k ∷ ks) claims = with_freed index pod ks (changed_at k (freed index pod) claims)

abbrev pub claims_by : Option PodState → List Key
claims_by None = []
claims_by (Some p) = claims_of p

-- the state without the pod's uses, in which the pod is Idle
abbrev pub without_uses : ℕ → Key → State → State
without_uses index pod s = record s { claims = with_freed index pod (claims_by (at_key s.pods pod)) s.claims; pods = with_phase pod Idle s.pods }
