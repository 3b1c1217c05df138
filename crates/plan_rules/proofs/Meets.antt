-- The devices of results, and what their requests evaluate to for them.
use Rattle.std.proofs.Common.{ℕ, zero, suc, ◌+◌, ◌<◌, ◌≤◌, ◌≡◌, ◌≢◌, List, [], ◌∷◌, Bool, true, false, not, ◌&&◌, cond, eqb, leb, Option, None, Some, length, refl, sym, ap, ◌∙◌, arith}
use Rattle.std.specs.List.{slice_get}
use Rattle.std.specs.Option.{is_none}
use Rattle.std.proofs.lemmas.Option.{slice_get_within}
use Rattle.object_fields.specs.declared.key.DeviceId.{DeviceId}
use Rattle.api_claim.specs.declared.types.AllocationMode.{AllocationMode}
use Rattle.api_claim.specs.declared.types.AllocationMode.TheVariants.{ExactCount, All}
use Rattle.pool_view.specs.declared.matching.Match.{Match}
use Rattle.pool_view.specs.declared.matching.Match.TheVariants.{Yes, No, Fault}
use Rattle.pool_view.specs.declared.verdict.Cause.{Cause}
use Rattle.pool_view.specs.Names.{device_eq, text_eq}
use Rattle.pool_view.specs.Pools.{Offered, id_in}
use Rattle.pool_view.specs.Views.{position_from, position_of}
use Rattle.cluster.specs.declared.plan.DeviceResult.{DeviceResult}
use Rattle.request_rules.specs.Allocation.{IsExact, IsWhole, Met}
use Rattle.request_rules.specs.Asked.{Asked, match_at, match_by, matching}
use Rattle.request_rules.specs.Faults.{GivesNone, fault_by, fault_for, fault_on}
use Rattle.request_rules.specs.Input.{SearchInput}
use Rattle.request_rules.specs.Lists.{Each, EachTwo}
use Rattle.request_rules.specs.Problem.{is_none as is_nothing}
use Rattle.plan_rules.specs.Chosen.{place_by, place_of}
use Rattle.plan_rules.specs.Shaped.{rises_from, sits}
use Rattle.plan_rules.specs.Standing.{is_no, is_off}
use Rattle.plan_rules.proofs.Elements.{Contains-from_get, firsts_none, get-from_contains}
use Rattle.plan_rules.proofs.Tests.{at_most, is_false, left_of, number_is, right_of, same_from_device_eq, same_from_text_eq}

-- ---- the position of a device

-- the result's device is one of the node's, at its position
pub record Placed (w : SearchInput) (r : DeviceResult) : Type 0 where
  pub offered : Offered
  pub at : slice_get w.devices (place_of w r) ≡ Some offered
  pub id : id_in offered ≡ r.device

position_step : (n : ℕ) (id : DeviceId) (o : Offered) (os : List Offered) (x : ℕ) (b : Bool) → device_eq (id_in o) id ≡ b → cond b (Some n) (position_from (n + 1) id os) ≡ Some x
    → (position_from (n + 1) id os ≡ Some x → (k : ℕ) × (p : Offered) × (x ≡ n + 1 + k) × (slice_get os k ≡ Some p) × (device_eq (id_in p) id ≡ true))
    → (k : ℕ) × (p : Offered) × (x ≡ n + k) × (slice_get (o ∷ os) k ≡ Some p) × (device_eq (id_in p) id ≡ true)
position_step n id o os x true e f rest = let g : n ≡ x = cc in (0, o, omega (arith, g), refl, e)
position_step n id o os x false e f rest =
    let r = rest f in
    let g = r.2 in
    (suc r.0, r.1, omega (arith, g), r.3, r.4)

position_parts : (n : ℕ) (id : DeviceId) (os : List Offered) (x : ℕ) → position_from n id os ≡ Some x
    → (k : ℕ) × (p : Offered) × (x ≡ n + k) × (slice_get os k ≡ Some p) × (device_eq (id_in p) id ≡ true)
position_parts n id [] x e = absurd (cc)
position_parts n id (o ∷ os) x e = position_step n id o os x (device_eq (id_in o) id) refl e (position_parts (n + 1) id os x)

placed_by : (w : SearchInput) (r : DeviceResult) (o : Option ℕ) → position_of r.device w.devices ≡ o → is_none o ≡ false → Placed w r
placed_by w r None e f = absurd (cc)
placed_by w r (Some x) e f =
    let p = position_parts 0 r.device w.devices x e in
    let g = p.2 in
    let h : x ≡ p.0 = omega (arith, g) in
    record {
      offered = p.1;
      at = ap (slice_get w.devices) (ap (place_by w) e ∙ h) ∙ p.3;
      id = same_from_device_eq (id_in p.1) r.device p.4;
    }

pub placed : (w : SearchInput) (r : DeviceResult) → is_off w.devices r ≡ false → Placed w r
placed w r e = placed_by w r (position_of r.device w.devices) refl e

-- ---- evaluation errors

no_fault : (a : Asked) (o : Offered) (m : Match) (n : ℕ) (why : Cause) → fault_by a o m ≡ None → m ≡ Fault n why → ⊥
no_fault a o Yes n why e f = absurd (cc)
no_fault a o No n why e f = absurd (cc)
no_fault a o (Fault i c) n why e f = absurd (cc)

pub gives_none : (w : SearchInput) (a : Asked) → fault_for w a ≡ None → GivesNone w a w.devices
gives_none w a e = record {
  none = λ o n why h says. no_fault a o (w.matched a.ask o) n why (firsts_none (fault_on w a) w.devices e h.0 o (get-from_contains w.devices o h)) says;
}

-- ---- devices that meet their requests

yes_by : (m : Match) → is_no m ≡ false → ((n : ℕ) (why : Cause) → m ≢ Fault n why) → m ≡ Yes
yes_by Yes e f = refl
yes_by No e f = absurd (cc)
yes_by (Fault n why) e f = absurd (f n why refl)

pub met_of : (w : SearchInput) (a : Asked) (r : DeviceResult) → Placed w r → is_no (match_at w a.ask (place_of w r)) ≡ false → GivesNone w a w.devices → Met w a (place_of w r)
met_of w a r p e none =
    let here : match_at w a.ask (place_of w r) ≡ w.matched a.ask p.offered = ap (match_by w a.ask) p.at in
    let within = slice_get_within w.devices (place_of w r) p.offered p.at in
    record {
      on_node = within;
      matched = here ∙ yes_by (w.matched a.ask p.offered) (sym (ap is_no here) ∙ e)
          (λ n why says. none.none p.offered n why (Contains-from_get w.devices (place_of w r) p.offered p.at) says);
    }

-- ---- positions of a request

pub rises_above : (least : ℕ) (xs : List ℕ) → rises_from least xs ≡ true → Each (λ x. least ≤ x) xs
rises_above least [] e i x h = absurd (cc)
rises_above least (y ∷ ys) e zero x h =
    let f : y ≡ x = cc in
    let g = at_most least y (left_of (leb least y) (rises_from (y + 1) ys) e) in
    omega (arith, f, g)
rises_above least (y ∷ ys) e (suc i) x h =
    let g = at_most least y (left_of (leb least y) (rises_from (y + 1) ys) e) in
    let k = rises_above (y + 1) ys (right_of (leb least y) (rises_from (y + 1) ys) e) i x h in
    omega (arith, g, k)

pub rises_two : (least : ℕ) (xs : List ℕ) → rises_from least xs ≡ true → EachTwo (λ x y. x < y) xs
rises_two least [] e i j x y lt g h = absurd (cc)
rises_two least (z ∷ zs) e i zero x y lt g h = absurd (omega arith)
rises_two least (z ∷ zs) e zero (suc j) x y lt g h =
    let f : z ≡ x = cc in
    let k = rises_above (z + 1) zs (right_of (leb least z) (rises_from (z + 1) zs) e) j y h in
    omega (arith, f, k)
rises_two least (z ∷ zs) e (suc i) (suc j) x y lt g h =
    rises_two (z + 1) zs (right_of (leb least z) (rises_from (z + 1) zs) e) i j x y (omega arith) g h

some_is_not : (l : List ℕ) → not (is_nothing l) ≡ true → l ≢ []
some_is_not [] e f = absurd (cc)
some_is_not (x ∷ l) e f = absurd (cc)

exact_by : (w : SearchInput) (a : Asked) (l : List ℕ) (m : AllocationMode) → sits w a m l ≡ true → (n : ℕ) → m ≡ ExactCount n → IsExact n l
exact_by w a l (ExactCount k) e n f =
    let g : k ≡ n = cc in
    record {
      count = number_is (length l) k (left_of (eqb (length l) k) (rises_from 0 l) e) ∙ g;
      rising = rises_two 0 l (right_of (eqb (length l) k) (rises_from 0 l) e);
    }
exact_by w a l All e n f = absurd (cc)

whole_by : (w : SearchInput) (a : Asked) (l : List ℕ) (m : AllocationMode) → sits w a m l ≡ true → m ≡ All → IsWhole w a l
whole_by w a l (ExactCount k) e f = absurd (cc)
whole_by w a l All e f =
    let rest = right_of (not w.broken) (not (is_nothing l) && text_eq l (matching w a.ask)) e in
    record {
      all = same_from_text_eq l (matching w a.ask) (right_of (not (is_nothing l)) (text_eq l (matching w a.ask)) rest);
      some = some_is_not l (left_of (not (is_nothing l)) (text_eq l (matching w a.ask)) rest);
      unbroken = is_false w.broken (left_of (not w.broken) (not (is_nothing l) && text_eq l (matching w a.ask)) e);
    }

pub exact_of : (w : SearchInput) (a : Asked) (l : List ℕ) → sits w a a.ask.mode l ≡ true → (n : ℕ) → a.ask.mode ≡ ExactCount n → IsExact n l
exact_of w a l e = exact_by w a l a.ask.mode e

pub whole_of : (w : SearchInput) (a : Asked) (l : List ℕ) → sits w a a.ask.mode l ≡ true → a.ask.mode ≡ All → IsWhole w a l
whole_of w a l e = whole_by w a l a.ask.mode e
