-- The tests are true if and only if the facts hold.
use Rattle.std.proofs.Common.{◌≡◌, ◌∙◌, ◌⊎◌, inl, inr, ℕ, ◌&&◌, ◌||◌, Bool, true, false, List, [], ◌∷◌, Option, Some, None, ap, refl, sym}
use Rattle.std.specs.Cmp.Lexicographic.{same_text}
use Rattle.std.specs.Option.{IfSome}
use Rattle.std.proofs.lemmas.Bool.{and_parts, and_from}
use Rattle.std.proofs.lemmas.Cmp.{nat_list_eq_equiv}
use Rattle.std.proofs.lemmas.List.Folds.{Any-from_list_any, list_any-from_Any}
use Rattle.device_taints.specs.Tolerating.{AreTolerated, IsTolerated, Tolerates, are_tolerated, effect_eq, fits_effect, fits_key, fits_value, is_empty, is_tolerated, text_eq, tolerates}
use Rattle.device_taints.specs.declared.types.Taint.{Taint}
use Rattle.device_taints.specs.declared.types.TaintEffect.{TaintEffect}
use Rattle.device_taints.specs.declared.types.TaintEffect.TheVariants.{NoSchedule, NoExecute}
use Rattle.device_taints.specs.declared.types.Toleration.{Toleration}
use Rattle.device_taints.specs.declared.types.TolerationOperator.{TolerationOperator}
use Rattle.device_taints.specs.declared.types.TolerationOperator.TheVariants.{Equal, Exists}

-- ---- parts

text_eq-same : (a : List ℕ) → text_eq a a ≡ true
text_eq-same a = nat_list_eq_equiv.refl a

text_eq-equal : (a b : List ℕ) → a ≡ b → text_eq a b ≡ true
text_eq-equal a b e = ap (λ x. text_eq x b) e ∙ text_eq-same b

same_from_text_eq : (a b : List ℕ) → text_eq a b ≡ true → a ≡ b
same_from_text_eq a b e = same_text a b (sym e)

pub no_text : (a : List ℕ) → is_empty a ≡ true → a ≡ []
no_text [] h = refl
no_text (b ∷ bs) h = cc

effect_same : (a b : TaintEffect) → effect_eq a b ≡ true → a ≡ b
effect_same NoSchedule NoSchedule h = refl
effect_same NoSchedule NoExecute h = cc
effect_same NoExecute NoSchedule h = cc
effect_same NoExecute NoExecute h = refl

effect_self : (a : TaintEffect) → effect_eq a a ≡ true
effect_self NoSchedule = refl
effect_self NoExecute = refl

or_cases : (a b : Bool) → (a || b) ≡ true → (a ≡ true) ⊎ (b ≡ true)
or_cases true b h = inl refl
or_cases false b h = inr h

or_first : (a b : Bool) → a ≡ true → (a || b) ≡ true
or_first true b h = refl
or_first false b h = cc

or_second : (a b : Bool) → b ≡ true → (a || b) ≡ true
or_second true b h = refl
or_second false b h = h

-- ---- from the tests

effect_fits : (own : Option TaintEffect) (effect : TaintEffect) → fits_effect own effect ≡ true → IfSome own (λ e. e ≡ effect)
effect_fits None effect h = tt
effect_fits (Some own) effect h = effect_same own effect h

key_by : (own key : List ℕ) → (is_empty own ≡ true) ⊎ (text_eq own key ≡ true) → (own ≡ key) ⊎ ((own ≡ []) × (Exists ≡ Exists))
key_by own key (inl h) = inr (no_text own h, refl)
key_by own key (inr h) = inl (same_from_text_eq own key h)

key_fits : (operator : TolerationOperator) (own key : List ℕ) → fits_key operator own key ≡ true → (own ≡ key) ⊎ ((own ≡ []) × (operator ≡ Exists))
key_fits (Equal value) own key h = inl (same_from_text_eq own key h)
key_fits Exists own key h = key_by own key (or_cases (is_empty own) (text_eq own key) h)

value_fits : (operator : TolerationOperator) (value : List ℕ) → fits_value operator value ≡ true → (operator ≡ Exists) ⊎ (operator ≡ Equal value)
value_fits (Equal own) value h = inr (ap Equal (same_from_text_eq own value h))
value_fits Exists value h = inl refl

pub fits : (k : Toleration) (t : Taint) → tolerates k t ≡ true → Tolerates k t
fits k t h =
    let p = and_parts (fits_effect k.effect t.effect) (fits_key k.operator k.key t.key && fits_value k.operator t.value) h in
    let q = and_parts (fits_key k.operator k.key t.key) (fits_value k.operator t.value) p.1 in
    record {
      effect_fits = effect_fits k.effect t.effect p.0;
      key_fits = key_fits k.operator k.key t.key q.0;
      value_fits = value_fits k.operator t.value q.1;
    }

-- ---- back

effect_test : (own : Option TaintEffect) (effect : TaintEffect) → IfSome own (λ e. e ≡ effect) → fits_effect own effect ≡ true
effect_test None effect h = refl
effect_test (Some own) effect h = ap (λ e. effect_eq e effect) h ∙ effect_self effect

key_test : (operator : TolerationOperator) (own key : List ℕ) → (own ≡ key) ⊎ ((own ≡ []) × (operator ≡ Exists)) → fits_key operator own key ≡ true
key_test (Equal value) own key (inl h) = text_eq-equal own key h
key_test (Equal value) own key (inr h) = let no : Equal value ≡ Exists = h.1 in cc
key_test Exists own key (inl h) = or_second (is_empty own) (text_eq own key) (text_eq-equal own key h)
key_test Exists own key (inr h) = or_first (is_empty own) (text_eq own key) (ap is_empty h.0)

value_test : (operator : TolerationOperator) (value : List ℕ) → (operator ≡ Exists) ⊎ (operator ≡ Equal value) → fits_value operator value ≡ true
value_test operator value (inl h) = ap (λ o. fits_value o value) h
value_test operator value (inr h) = ap (λ o. fits_value o value) h ∙ text_eq-same value

pub only : (k : Toleration) (t : Taint) → Tolerates k t → tolerates k t ≡ true
only k t h =
    and_from (fits_effect k.effect t.effect) (fits_key k.operator k.key t.key && fits_value k.operator t.value) (effect_test k.effect t.effect h.effect_fits)
    (and_from (fits_key k.operator k.key t.key) (fits_value k.operator t.value) (key_test k.operator k.key t.key h.key_fits) (value_test k.operator t.value h.value_fits))

-- ---- of lists

one_fits : (ks : List Toleration) (t : Taint) → is_tolerated ks t ≡ true → IsTolerated ks t
one_fits ks t h =
    let a = Any-from_list_any (λ k. tolerates k t) ks h in
    record { toleration = a.1; is_listed = (a.0, a.2, a.3); fits = fits a.1 t a.4 }

one_test : (ks : List Toleration) (t : Taint) → IsTolerated ks t → is_tolerated ks t ≡ true
one_test ks t h =
    list_any-from_Any (λ k. tolerates k t) ks (h.is_listed.0, h.toleration, h.is_listed.1, h.is_listed.2, only h.toleration t h.fits)

pub all_fit : (ks : List Toleration) (ts : List Taint) → are_tolerated ks ts ≡ true → AreTolerated ks ts
all_fit ks [] h = tt
all_fit ks (t ∷ ts) h =
    let p = and_parts (is_tolerated ks t) (are_tolerated ks ts) h in
    (one_fits ks t p.0, all_fit ks ts p.1)

pub only_all : (ks : List Toleration) (ts : List Taint) → AreTolerated ks ts → are_tolerated ks ts ≡ true
only_all ks [] h = refl
only_all ks (t ∷ ts) h = and_from (is_tolerated ks t) (are_tolerated ks ts) (one_test ks t h.0) (only_all ks ts h.1)
