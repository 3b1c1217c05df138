-- Results are in the order of their claims.
use Rattle.std.proofs.Common.{ℕ, ◌+◌, ◌≤◌, ◌≡◌, List, [], ◌∷◌, ◌++◌, Option, None, Some, drop, map, take, refl, sym, subst, arith, append_assoc}
use Rattle.std.specs.List.{AllByRecursion, slice_get}
use Rattle.std.specs.Option.{option_map}
use Rattle.object_fields.specs.declared.key.Key.{Key}
use Rattle.api_claim.specs.declared.types.DeviceRequest.{DeviceRequest}
use Rattle.api_claim.specs.declared.types.DeviceSubRequest.{DeviceSubRequest}
use Rattle.api_claim.specs.declared.types.RequestKind.{RequestKind}
use Rattle.api_claim.specs.declared.types.RequestKind.TheVariants.{Exactly, FirstAvailable}
use Rattle.api_claim.specs.declared.types.ResourceClaim.{ResourceClaim}
use Rattle.cluster.specs.declared.plan.DeviceResult.{DeviceResult}
use Rattle.cluster.specs.declared.plan.Grant.{Grant}
use Rattle.request_rules.specs.Asked.{Asked, Wish, asked_by, asked_sub}
use Rattle.request_rules.specs.Input.{SearchInput}
use Rattle.request_rules.specs.Lists.{add_some}
use Rattle.request_rules.specs.Ways.{wishes_in}
use Rattle.plan_rules.specs.Chosen.{Due, asked_each, asked_for, asked_in, due, due_for, dues, dues_for, dues_from, named_way}
use Rattle.alloc_rules.specs.Rows.{AreByClaim}

-- the requests of the claim at an index
abbrev IsOfClaim : ℕ → Asked → Type 0
IsOfClaim i a = a.label.claim ≡ i

from_least : (i least : ℕ) (ds : List Due) → least ≤ i → AreByClaim i ds → AreByClaim least ds
from_least i least [] h s = tt
from_least i least (d ∷ ds) h s = let lead : i ≤ d.asked.label.claim = s.0 in (omega (arith, h, lead), s.1)

ordered_map : (i least : ℕ) (claim : Key) (a : Asked) (rs : List DeviceResult) (more : List Due) → IsOfClaim i a → least ≤ i → AreByClaim i more → AreByClaim least (map (due_for claim a) rs ++ more)
ordered_map i least claim a [] more e h s = from_least i least more h s
ordered_map i least claim a (r ∷ rs) more e h s = (omega (arith, e, h), ordered_map i a.label.claim claim a rs more e (omega (arith, e)) s)

ordered_for : (w : SearchInput) (i least : ℕ) (claim : Key) (asks : List Asked) (rs : List DeviceResult) (more : List Due) → AllByRecursion (IsOfClaim i) asks → least ≤ i → AreByClaim i more → AreByClaim least (dues_for w claim asks rs ++ more)
ordered_for w i least claim [] rs more e h s = from_least i least more h s
ordered_for w i least claim (a ∷ asks) rs more e h s =
    subst (AreByClaim least) (sym (append_assoc (map (due_for claim a) (take (due w a) rs)) (dues_for w claim asks (drop (due w a) rs)) more))
    (ordered_map i least claim a (take (due w a) rs) (dues_for w claim asks (drop (due w a) rs) ++ more) e.0 h (ordered_for w i i claim asks (drop (due w a) rs) more e.1 (omega arith) s))

abbrev IfOfClaim : ℕ → Option Asked → Type 0
IfOfClaim i None = Unit {0}
IfOfClaim i (Some a) = IsOfClaim i a

sub_of_claim : (q : Wish) (o : Option DeviceSubRequest) → IfOfClaim q.claim (option_map (asked_sub q) o)
sub_of_claim q None = tt
sub_of_claim q (Some s) = refl

asked_of_claim : (q : Wish) (k : RequestKind) (n : ℕ) → IfOfClaim q.claim (asked_by q k n)
asked_of_claim q (Exactly r) n = refl
asked_of_claim q (FirstAvailable ss) n = sub_of_claim q (slice_get ss n)

added_of_claim : (i : ℕ) (o : Option Asked) (asks : List Asked) → IfOfClaim i o → AllByRecursion (IsOfClaim i) asks → AllByRecursion (IsOfClaim i) (add_some o asks)
added_of_claim i None asks h k = k
added_of_claim i (Some a) asks h k = (h, k)

each_of_claim : (i : ℕ) (key : Key) (rs : List DeviceResult) (requests : List DeviceRequest) → AllByRecursion (IsOfClaim i) (asked_each rs (wishes_in i key requests))
each_of_claim i key rs [] = tt
each_of_claim i key rs (r ∷ requests) =
    let q : Wish = record { claim = i; key = key; request = r } in
    added_of_claim i (asked_for rs q) (asked_each rs (wishes_in i key requests)) (asked_of_claim q r.kind (named_way rs q r.kind)) (each_of_claim i key rs requests)

ordered_from : (w : SearchInput) (i : ℕ) (cs : List ResourceClaim) (gs : List Grant) → AreByClaim i (dues_from w i cs gs)
ordered_from w i [] gs = tt
ordered_from w i (c ∷ cs) [] = tt
ordered_from w i (c ∷ cs) (g ∷ gs) =
    ordered_for w i i c.key (asked_in i c g.results) g.results (dues_from w (i + 1) cs gs) (each_of_claim i c.key g.results c.requests) (omega arith) (from_least (i + 1) i (dues_from w (i + 1) cs gs) (omega arith) (ordered_from w (i + 1) cs gs))

pub dues_ordered : (w : SearchInput) (gs : List Grant) → AreByClaim 0 (dues w gs)
unfolding dues
dues_ordered w gs = ordered_from w 0 w.claims gs
