-- Taints of the devices of results.
use Rattle.std.proofs.Common.{ℕ, suc, ◌≡◌, List, [], ◌∷◌, Bool, true, false, not, ◌&&◌, Option, None, Some, find, refl, sym, ap, ◌∙◌, subst}
use Rattle.std.specs.List.{AllByRecursion, Contains, list_all, slice_get}
use Rattle.std.specs.Option.{option_map}
use Rattle.std.proofs.lemmas.List.Elements.{All-from_recursion}
use Rattle.device_taints.specs.Tolerating.{AreTolerated, IsTolerated, are_tolerated, is_tolerated}
use Rattle.device_taints.specs.declared.types.Taint.{Taint}
use Rattle.device_taints.specs.declared.types.Toleration.{Toleration}
use Rattle.pool_view.specs.Pools.{Offered}
use Rattle.cluster.specs.declared.failure.Failure.TheVariants as failure
use Rattle.request_rules.specs.Allocation.{Tolerates}
use Rattle.request_rules.specs.Asked.{Asked, tolerated_at, tolerated_by}
use Rattle.request_rules.specs.Input.{SearchInput}
use Rattle.request_rules.specs.Lists.{Each}
use Rattle.plan_rules.specs.Chosen.{Due, place_of}
use Rattle.plan_rules.specs.Standing.{is_untolerated, tainted}
use Rattle.plan_rules.proofs.Elements.{Contains-from_get, found_none, none_found}
use Rattle.plan_rules.proofs.Tests.{no_image, truth_isnt}

-- laws of `device_taints`
abbrev pub FitLaw : Type 0
FitLaw = (tolerations : List Toleration) (taints : List Taint) → are_tolerated tolerations taints ≡ true → AreTolerated tolerations taints

abbrev pub OnlyLaw : Type 0
OnlyLaw = (tolerations : List Toleration) (taints : List Taint) → AreTolerated tolerations taints → are_tolerated tolerations taints ≡ true

-- ---- one device

in_all : {X : Type 0} (P : X → Type 0) (xs : List X) (x : X) → AllByRecursion P xs → Contains xs x → P x
in_all P xs x h i = subst P i.2 (All-from_recursion P xs h i.0 x i.1)

all_of : {X : Type 0} (P : X → Type 0) (xs : List X) → ((i : ℕ) (x : X) → slice_get xs i ≡ Some x → P x) → AllByRecursion P xs
all_of P [] h = tt
all_of P (x ∷ xs) h = (h 0 x refl, all_of P xs (λ i y e. h (suc i) y e))

-- what is asked for tolerates the device
pub tolerates_it : FitLaw → (w : SearchInput) (a : Asked) (x : ℕ) → tolerated_at w a.ask x ≡ true → Tolerates w a x
unfolding tolerated_at
tolerates_it law w a x e = record {
  each = λ o t at has.
      in_all (IsTolerated a.ask.tolerations) o.device.taints t (law a.ask.tolerations o.device.taints (sym (ap (tolerated_by a.ask) at) ∙ e)) has;
}

tolerated_back : OnlyLaw → (w : SearchInput) (a : Asked) (x : ℕ) (o : Option Offered) → slice_get w.devices x ≡ o → Tolerates w a x → tolerated_by a.ask o ≡ true
tolerated_back law w a x None at h = refl
tolerated_back law w a x (Some o) at h =
    law a.ask.tolerations o.device.taints (all_of (IsTolerated a.ask.tolerations) o.device.taints (λ i t e. h.each o t at (Contains-from_get o.device.taints i t e)))

pub is_tolerated_at : OnlyLaw → (w : SearchInput) (a : Asked) (x : ℕ) → Tolerates w a x → tolerated_at w a.ask x ≡ true
unfolding tolerated_at
is_tolerated_at law w a x h = tolerated_back law w a x (slice_get w.devices x) refl h

-- a device with a taint that isn't tolerated
pub record HasTaint (w : SearchInput) (a : Asked) (x : ℕ) : Type 0 where
  pub offered : Offered
  pub on_node : slice_get w.devices x ≡ Some offered
  pub taint : Taint
  pub has : Contains offered.device.taints taint
  pub untolerated : IsTolerated a.ask.tolerations taint → ⊥

record Failing {X : Type 0} (p : X → Bool) (xs : List X) : Type 0 where
  at : ℕ
  it : X
  get : slice_get xs at ≡ Some it
  fails : p it ≡ false

failing_by : {X : Type 0} (p : X → Bool) (x : X) (xs : List X) (b : Bool) → p x ≡ b → (b && list_all p xs) ≡ false → (list_all p xs ≡ false → Failing p xs) → Failing p (x ∷ xs)
failing_by p x xs true e h rest = let r = rest h in record { at = suc r.at; it = r.it; get = r.get; fails = r.fails }
failing_by p x xs false e h rest = record { at = 0; it = x; get = refl; fails = e }

failing_of : {X : Type 0} (p : X → Bool) (xs : List X) → list_all p xs ≡ false → Failing p xs
failing_of p [] e = absurd (cc)
failing_of p (x ∷ xs) e = failing_by p x xs (p x) refl e (failing_of p xs)

first_true : (a : Bool) → (a && true) ≡ true → a ≡ true
first_true true e = refl
first_true false e = absurd (cc)

taint_by : OnlyLaw → (w : SearchInput) (a : Asked) (x : ℕ) (o : Option Offered) → slice_get w.devices x ≡ o → tolerated_by a.ask o ≡ false → HasTaint w a x
taint_by law w a x None at e = absurd (cc)
taint_by law w a x (Some o) at e =
    let f = failing_of (is_tolerated a.ask.tolerations) o.device.taints e in
    record {
      offered = o;
      on_node = at;
      taint = f.it;
      has = Contains-from_get o.device.taints f.at f.it f.get;
      untolerated = λ h. truth_isnt (is_tolerated a.ask.tolerations f.it) (first_true (is_tolerated a.ask.tolerations f.it) (law a.ask.tolerations (f.it ∷ []) (h, tt))) f.fails;
    }

pub taint_of : OnlyLaw → (w : SearchInput) (a : Asked) (x : ℕ) → tolerated_at w a.ask x ≡ false → HasTaint w a x
unfolding tolerated_at
taint_of law w a x e = taint_by law w a x (slice_get w.devices x) refl e

-- ---- results

not_false : (b : Bool) → not b ≡ false → b ≡ true
not_false true e = refl
not_false false e = absurd (cc)

-- none of them is of a device with a taint that its request doesn't tolerate
pub tolerated_all : FitLaw → (w : SearchInput) (ds : List Due) → tainted w ds ≡ None → Each (λ d. Tolerates w d.asked (place_of w d.result)) ds
tolerated_all law w ds e i d at =
    let none = found_none (is_untolerated w) ds (no_image (λ (d : Due). failure.Tainted d.result.device) (find (is_untolerated w) ds) e) in
    tolerates_it law w d.asked (place_of w d.result) (not_false (tolerated_at w d.asked.ask (place_of w d.result)) (none i d at))

pub none_tainted : OnlyLaw → (w : SearchInput) (ds : List Due) → Each (λ d. Tolerates w d.asked (place_of w d.result)) ds → tainted w ds ≡ None
none_tainted law w ds h =
    ap (option_map (λ (d : Due). failure.Tainted d.result.device))
    (none_found (is_untolerated w) ds (λ i d g. ap not (is_tolerated_at law w d.asked (place_of w d.result) (h i d g))))
