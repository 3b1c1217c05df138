-- Devices whose taints are tolerated.
use Rattle.std.proofs.Common.{ℕ, zero, suc, ◌≡◌, List, [], ◌∷◌, true, Option, None, Some, refl, sym, ap, ◌∙◌, subst}
use Rattle.std.specs.List.{AllByRecursion, slice_get}
use Rattle.device_taints.specs.Tolerating.{AreTolerated, IsTolerated, are_tolerated}
use Rattle.device_taints.specs.declared.types.Taint.{Taint}
use Rattle.device_taints.specs.declared.types.Toleration.{Toleration}
use Rattle.pool_view.specs.Pools.{Offered}
use Rattle.request_rules.specs.Input.{SearchInput}
use Rattle.request_rules.specs.Asked.{Asked, tolerated_at, tolerated_by}
use Rattle.request_rules.specs.Allocation.{Tolerates}
use Rattle.request_rules.proofs.Places.{Contains-from_get, get-from_contains}

abbrev pub ToleratedLaw : Type 0
ToleratedLaw = (tolerations : List Toleration) (taints : List Taint) → are_tolerated tolerations taints ≡ true → AreTolerated tolerations taints

abbrev pub OnlyToleratedLaw : Type 0
OnlyToleratedLaw = (tolerations : List Toleration) (taints : List Taint) → AreTolerated tolerations taints → are_tolerated tolerations taints ≡ true

each_at : {X : Type 0} (P : X → Type 0) (xs : List X) → AllByRecursion P xs → (i : ℕ) (x : X) → slice_get xs i ≡ Some x → P x
each_at P [] a i x e = absurd (cc)
each_at {X} P (y ∷ xs) a zero x e = let f : y ≡ x = cc in subst P f a.0
each_at P (y ∷ xs) a (suc i) x e = each_at P xs a.1 i x e

each_from : {X : Type 0} (P : X → Type 0) (xs : List X) → ((i : ℕ) (x : X) → slice_get xs i ≡ Some x → P x) → AllByRecursion P xs
each_from P [] h = tt
each_from P (y ∷ xs) h = (h 0 y refl, each_from P xs (λ i x e. h (suc i) x e))

pub tolerates_of : (w : SearchInput) (a : Asked) (x : ℕ) → ToleratedLaw → tolerated_at w a.ask x ≡ true → Tolerates w a x
unfolding tolerated_at
tolerates_of w a x law e = record {
  each = λ o t there h.
      let all = law a.ask.tolerations o.device.taints (sym (ap (tolerated_by a.ask) there) ∙ e) in
      each_at (IsTolerated a.ask.tolerations) o.device.taints all h.0 t (get-from_contains o.device.taints t h);
}

tolerated_if : (w : SearchInput) (a : Asked) (x : ℕ) (z : Option Offered) → OnlyToleratedLaw → slice_get w.devices x ≡ z → Tolerates w a x → tolerated_by a.ask z ≡ true
tolerated_if w a x None law there h = refl
tolerated_if w a x (Some o) law there h =
    law a.ask.tolerations o.device.taints
    (each_from (IsTolerated a.ask.tolerations) o.device.taints (λ i t e. h.each o t there (Contains-from_get o.device.taints i t e)))

pub tolerated_from : (w : SearchInput) (a : Asked) (x : ℕ) → OnlyToleratedLaw → Tolerates w a x → tolerated_at w a.ask x ≡ true
unfolding tolerated_at
tolerated_from w a x law h = tolerated_if w a x (slice_get w.devices x) law refl h
