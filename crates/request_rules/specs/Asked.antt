-- What a choice asks for.
use Rattle.std.specs.Prelude.{ℕ, zero, suc, ◌+◌, List, [], ◌∷◌, ◌++◌, Bool, true, false, Option, None, Some, option_map, map, filter, length, slice_get}
use Rattle.std.specs.List.{flat_map}
use Rattle.walk.specs.Lists.{numbers}
use Rattle.object_fields.specs.declared.key.Key.{Key}
use Rattle.api_claim.specs.declared.types.AllocationMode.{AllocationMode}
use Rattle.api_claim.specs.declared.types.AllocationMode.TheVariants.{ExactCount, All}
use Rattle.api_claim.specs.declared.types.DeviceAsk.{DeviceAsk}
use Rattle.api_claim.specs.declared.types.DeviceConstraint.{DeviceConstraint}
use Rattle.api_claim.specs.declared.types.DeviceRequest.{DeviceRequest}
use Rattle.api_claim.specs.declared.types.DeviceSubRequest.{DeviceSubRequest}
use Rattle.api_claim.specs.declared.types.RequestKind.{RequestKind}
use Rattle.api_claim.specs.declared.types.RequestKind.TheVariants.{Exactly, FirstAvailable}
use Rattle.api_claim.specs.declared.types.ResourceClaim.{ResourceClaim}
use Rattle.pool_view.specs.declared.matching.Match.{Match}
use Rattle.pool_view.specs.declared.matching.Match.TheVariants.{Yes, No, Fault}
use Rattle.device_taints.specs.Tolerating.{are_tolerated}
use Rattle.pool_view.specs.Pools.{Offered}
use Rattle.request_rules.specs.Lists.{add_some}
use Rattle.request_rules.specs.Names.{Label}
use Rattle.request_rules.specs.Input.{SearchInput}

-- ---- requests

-- a request, with its claim and the claim's index
pub record Wish : Type 0 where
  pub claim : ℕ
  pub key : Key
  pub request : DeviceRequest

abbrev pub wishes_from : ℕ → List ResourceClaim → List Wish
wishes_from i [] = []
wishes_from i (c ∷ cs) = map (λ r. record { claim = i; key = c.key; request = r }) c.requests ++ wishes_from (i + 1) cs

-- all requests of all claims, in order
abbrev pub wishes : SearchInput → List Wish
wishes w = wishes_from 0 w.claims

-- how many ways there are to meet a request
abbrev pub ways_of : RequestKind → ℕ
ways_of (Exactly r) = 1
ways_of (FirstAvailable rs) = length rs

abbrev pub options : SearchInput → List ℕ
options w = map (λ q. ways_of q.request.kind) (wishes w)

-- ---- what is chosen of them

-- a request or subrequest that is chosen, and its claim
pub record Asked : Type 0 where
  pub label : Label
  pub key : Key
  pub ask : DeviceAsk

abbrev pub asked_sub : Wish → DeviceSubRequest → Asked
asked_sub q s = record {
  label = record { claim = q.claim; request = q.request.name; sub = Some s.name; admin = false };
  key = q.key;
  ask = s.ask;
}

abbrev pub asked_by : Wish → RequestKind → ℕ → Option Asked
asked_by q (Exactly r) k = Some (record {
  label = record { claim = q.claim; request = q.request.name; sub = None; admin = r.admin };
  key = q.key;
  ask = r.ask;
})
asked_by q (FirstAvailable rs) k = option_map (asked_sub q) (slice_get rs k)

abbrev pub asked_from : List Wish → List ℕ → List Asked
asked_from [] ks = []
asked_from (q ∷ qs) [] = []
asked_from (q ∷ qs) (k ∷ ks) = add_some (asked_by q q.request.kind k) (asked_from qs ks)

-- the requests and subrequests that a choice picks, in order
unfoldable pub asked : SearchInput → List ℕ → List Asked
asked w c = asked_from (wishes w) c

-- ---- matches

-- No of a position that no device has
abbrev pub match_by : SearchInput → DeviceAsk → Option Offered → Match
match_by w a None = No
match_by w a (Some o) = w.matched a o

-- what the request evaluates to for the device at a position
abbrev pub match_at : SearchInput → DeviceAsk → ℕ → Match
match_at w a x = match_by w a (slice_get w.devices x)

abbrev pub is_yes : Match → Bool
is_yes Yes = true
is_yes No = false
is_yes (Fault n why) = false

abbrev pub is_fault : Match → Bool
is_fault Yes = false
is_fault No = false
is_fault (Fault n why) = true

abbrev pub meets : SearchInput → DeviceAsk → ℕ → Bool
meets w a x = is_yes (match_at w a x)

-- the positions of the devices that meet a request, in order
unfoldable pub matching : SearchInput → DeviceAsk → List ℕ
matching w a = filter (meets w a) (numbers 0 (length w.devices))

-- ---- taints

abbrev pub tolerated_by : DeviceAsk → Option Offered → Bool
tolerated_by a None = true
tolerated_by a (Some o) = are_tolerated a.tolerations o.device.taints

-- each taint of the device at a position is tolerated by what is asked for
unfoldable pub tolerated_at : SearchInput → DeviceAsk → ℕ → Bool
tolerated_at w a x = tolerated_by a (slice_get w.devices x)

-- ---- slots

-- which position a slot takes: any, as the first of an ExactCount request; one above the slot before
-- it; or this one, of an All request
pub data Seat : Type 0 where
  First : Seat
  Next : Seat
  Due : (position : ℕ) → Seat

abbrev pub repeated : ℕ → Seat → List Seat
repeated zero s = []
repeated (suc n) s = s ∷ repeated n s

abbrev pub seats_counted : ℕ → List Seat
seats_counted zero = []
seats_counted (suc n) = First ∷ repeated n Next

abbrev pub seats_by : SearchInput → DeviceAsk → AllocationMode → List Seat
seats_by w a (ExactCount n) = seats_counted n
seats_by w a All = map (λ x. Due x) (matching w a)

unfoldable pub seats : SearchInput → DeviceAsk → List Seat
seats w a = seats_by w a a.mode

-- a result to be filled
pub record Slot : Type 0 where
  pub asked : Asked
  pub seat : Seat

abbrev pub slots_of : SearchInput → Asked → List Slot
slots_of w a = map (λ s. record { asked = a; seat = s }) (seats w a.ask)

abbrev pub slots_for : SearchInput → List Asked → List Slot
slots_for w asks = flat_map (slots_of w) asks

unfoldable pub slots : SearchInput → List ℕ → List Slot
slots w c = slots_for w (asked w c)

-- ---- constraints

-- a constraint, with the index of its claim
pub record Rule : Type 0 where
  pub claim : ℕ
  pub constraint : DeviceConstraint

abbrev pub rules_from : ℕ → List ResourceClaim → List Rule
rules_from i [] = []
rules_from i (c ∷ cs) = map (λ r. record { claim = i; constraint = r }) c.constraints ++ rules_from (i + 1) cs

unfoldable pub rules_of : SearchInput → List Rule
rules_of w = rules_from 0 w.claims
