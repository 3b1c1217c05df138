-- Whether the results of a claim are of the shape that its requests ask for.
use Rattle.std.specs.Prelude.{ℕ, ◌+◌, ◌==◌, List, [], ◌∷◌, Bool, true, false, not, ◌&&◌, Option, None, Some, is_some, map, length, take, drop, nat_eq, nat_le, if◌then◌else◌}
use Rattle.std.specs.Bool.{beq}
use Rattle.std.specs.Cmp.Lexicographic.{pointwise}
use Rattle.std.specs.List.{list_all, list_any}
use Rattle.api_claim.specs.declared.types.AllocationMode.{AllocationMode}
use Rattle.api_claim.specs.declared.types.AllocationMode.TheVariants.{ExactCount, All}
use Rattle.api_claim.specs.declared.types.ResourceClaim.{ResourceClaim}
use Rattle.pool_view.specs.Names.{device_eq, key_eq}
use Rattle.cluster.specs.declared.plan.DeviceResult.{DeviceResult}
use Rattle.cluster.specs.declared.plan.Grant.{Grant}
use Rattle.request_rules.specs.Asked.{Asked, Wish, matching}
use Rattle.request_rules.specs.Input.{SearchInput}
use Rattle.request_rules.specs.Problem.{is_none, most_results}
use Rattle.request_rules.specs.Ways.{wishes_in}
use Rattle.plan_rules.specs.Chosen.{asked_for, asked_in, due, is_called, place_of}
use Rattle.cluster.specs.declared.failure.Failure.{Failure}
use Rattle.cluster.specs.declared.failure.Failure.TheVariants.{Shape}

-- the result has the request's name, and admin access if and only if the request has
abbrev pub is_for : Asked → DeviceResult → Bool
is_for a r = is_called a r && beq r.admin a.label.admin

-- the positions increase, from this one on
abbrev pub rises_from : ℕ → List ℕ → Bool
rises_from least [] = true
rises_from least (x ∷ xs) = nat_le least x && rises_from (x + 1) xs

-- this many positions, which increase; or those of all devices that meet the request, at least one, if no
-- incomplete or invalid pool is visible to the node
abbrev pub sits : SearchInput → Asked → AllocationMode → List ℕ → Bool
sits w a (ExactCount n) xs = (length xs == n) && rises_from 0 xs
sits w a All xs = not w.broken && (not (is_none xs) && pointwise nat_eq xs (matching w a.ask))

-- these are the results of a request
abbrev pub is_part : SearchInput → Asked → List DeviceResult → Bool
is_part w a rs = list_all (is_for a) rs && sits w a a.ask.mode (map (place_of w) rs)

abbrev pub is_nil : {X : Type 0} → List X → Bool
is_nil [] = true
is_nil (x ∷ xs) = false

-- the results follow the requests, each of which has its own, and none is left over
abbrev pub are_parts : SearchInput → List Asked → List DeviceResult → Bool
are_parts w [] rs = is_nil rs
are_parts w (a ∷ asks) rs = is_part w a (take (due w a) rs) && are_parts w asks (drop (due w a) rs)

-- one of the others is of the same device
abbrev pub is_among : DeviceResult → List DeviceResult → Bool
is_among r others = list_any (λ s. device_eq r.device s.device) others

-- no two results are of one device
abbrev pub differ : List DeviceResult → Bool
differ [] = true
differ (r ∷ rs) = not (is_among r rs) && differ rs

-- the names of the results pick something of each request
abbrev pub picks_each : List DeviceResult → List Wish → Bool
picks_each rs qs = list_all (λ q. is_some (asked_for rs q)) qs

-- the results are of the shape that the requests of the claim at an index ask for
unfoldable pub is_shaped : SearchInput → ℕ → ResourceClaim → List DeviceResult → Bool
is_shaped w i c rs =
    picks_each rs (wishes_in i c.key c.requests)
    && (are_parts w (asked_in i c rs) rs
    && (differ rs && nat_le (length rs) most_results))

-- each claim has its grant, in order; else the failure at the first index at which this isn't so
abbrev pub shape_from : SearchInput → ℕ → List ResourceClaim → List Grant → Option Failure
shape_from w i [] [] = None
shape_from w i [] (g ∷ gs) = Some (Shape g.claim)
shape_from w i (c ∷ cs) [] = Some (Shape c.key)
shape_from w i (c ∷ cs) (g ∷ gs) = if key_eq g.claim c.key && is_shaped w i c g.results then shape_from w (i + 1) cs gs else Some (Shape c.key)

abbrev pub misshapen : SearchInput → List Grant → Option Failure
misshapen w grants = shape_from w 0 w.claims grants
