-- Which tolerations tolerate which taints (KEP 5055; API reference of resource.k8s.io/v1).
use Rattle.std.specs.Prelude.{◌≡◌, ◌⊎◌, ℕ, nat_eq, ◌&&◌, ◌||◌, Bool, true, false, List, [], ◌∷◌, Option, Some, None, IfSome}
use Rattle.std.specs.Cmp.Lexicographic.{pointwise}
use Rattle.std.specs.List.{AllByRecursion, Contains, list_all, list_any}
use Rattle.device_taints.specs.declared.types.Taint.{Taint}
use Rattle.device_taints.specs.declared.types.TaintEffect.{TaintEffect}
use Rattle.device_taints.specs.declared.types.TaintEffect.TheVariants.{NoSchedule, NoExecute}
use Rattle.device_taints.specs.declared.types.Toleration.{Toleration}
use Rattle.device_taints.specs.declared.types.TolerationOperator.{TolerationOperator}
use Rattle.device_taints.specs.declared.types.TolerationOperator.TheVariants.{Equal, Exists}

-- ---- as a test

-- byte by byte
abbrev pub text_eq : List ℕ → List ℕ → Bool
text_eq = pointwise nat_eq

abbrev pub is_empty : List ℕ → Bool
is_empty [] = true
is_empty (b ∷ bs) = false

abbrev pub effect_eq : TaintEffect → TaintEffect → Bool
effect_eq NoSchedule NoSchedule = true
effect_eq NoSchedule NoExecute = false
effect_eq NoExecute NoSchedule = false
effect_eq NoExecute NoExecute = true

-- no effect, or the taint's
abbrev pub fits_effect : Option TaintEffect → TaintEffect → Bool
fits_effect None effect = true
fits_effect (Some own) effect = effect_eq own effect

-- the taint's key, or no key with Exists
abbrev pub fits_key : TolerationOperator → List ℕ → List ℕ → Bool
fits_key (Equal value) own key = text_eq own key
fits_key Exists own key = is_empty own || text_eq own key

-- Exists, or the taint's value
abbrev pub fits_value : TolerationOperator → List ℕ → Bool
fits_value (Equal own) value = text_eq own value
fits_value Exists value = true

abbrev pub tolerates : Toleration → Taint → Bool
tolerates k t =
    fits_effect k.effect t.effect && (fits_key k.operator k.key t.key && fits_value k.operator t.value)

abbrev pub is_tolerated : List Toleration → Taint → Bool
is_tolerated tolerations t = list_any (λ k. tolerates k t) tolerations

-- each taint by one of the tolerations
abbrev pub are_tolerated : List Toleration → List Taint → Bool
are_tolerated tolerations taints = list_all (is_tolerated tolerations) taints

-- ---- in plain facts

-- Its effect is empty or the taint's; its key is the taint's, or it is empty with Exists; and its
-- operator is Exists, or its value is the taint's.
pub record Tolerates (toleration : Toleration) (taint : Taint) : Type 0 where
  pub effect_fits : IfSome toleration.effect (λ own. own ≡ taint.effect)
  pub key_fits : (toleration.key ≡ taint.key) ⊎ ((toleration.key ≡ []) × (toleration.operator ≡ Exists))
  pub value_fits : (toleration.operator ≡ Exists) ⊎ (toleration.operator ≡ Equal taint.value)

-- one of the tolerations tolerates the taint
pub record IsTolerated (tolerations : List Toleration) (taint : Taint) : Type 0 where
  pub toleration : Toleration
  pub is_listed : Contains tolerations toleration
  pub fits : Tolerates toleration taint

-- each of the taints is tolerated
abbrev pub AreTolerated : List Toleration → List Taint → Type 0
AreTolerated tolerations taints = AllByRecursion (IsTolerated tolerations) taints
