-- What an allocation holds.
use Rattle.std.proofs.Common.{ℕ, ◌≡◌, ◌≢◌, List, false, map, sym, ap, ◌∙◌, subst}
use Rattle.std.specs.List.{Contains}
use Rattle.object_fields.specs.declared.key.DeviceId.{DeviceId}
use Rattle.object_fields.specs.declared.key.Key.{Key}
use Rattle.request_rules.specs.Lists.{Each, EachTwo}
use Rattle.request_rules.specs.Input.{SearchInput}
use Rattle.request_rules.specs.Asked.{asked}
use Rattle.request_rules.specs.Rules.{Pick, id_of}
use Rattle.request_rules.specs.Allocation.{HoldsOnce, IsAllocation, Result, result_of, taken}
use Rattle.request_rules.proofs.Places.{get-map}

record Holding (w : SearchInput) (ps : List Pick) : Type 0 where
  unheld : Each (λ p. p.label.admin ≡ false → (holder : Key) → Contains w.held (id_of w p, holder) → ⊥) ps
  once : EachTwo (λ p q. p.label.admin ≡ false → q.label.admin ≡ false → id_of w p ≢ id_of w q) ps

of_picks : (w : SearchInput) (ps : List Pick) → Holding w ps → HoldsOnce w (map (result_of w) ps)
of_picks w ps h = record {
  unheld = λ i r g plain holder k.
      let p = get-map (result_of w) ps i r g in
      h.unheld i p.0 p.1 (ap (λ (z : Result). z.label.admin) p.2 ∙ plain) holder (subst (λ (z : DeviceId). Contains w.held (z, holder)) (sym (ap (λ (z : Result). z.device) p.2)) k);
  once = λ i j r s lt g k plain free same.
      let p = get-map (result_of w) ps i r g in
      let q = get-map (result_of w) ps j s k in
      h.once i j p.0 q.0 lt p.1 q.1 (ap (λ (z : Result). z.label.admin) p.2 ∙ plain) (ap (λ (z : Result). z.label.admin) q.2 ∙ free)
      (ap (λ (z : Result). z.device) p.2 ∙ same ∙ sym (ap (λ (z : Result). z.device) q.2));
}

pub held_once : (w : SearchInput) (c : List ℕ) (rs : List Result) → IsAllocation w c rs → HoldsOnce w rs
held_once w c rs a =
    subst (λ (z : List Result). HoldsOnce w z) (sym a.in_order)
    (of_picks w (taken (asked w c) a.parts) (record {
      unheld = a.unheld;
      once = λ i j p q lt g k plain free same. a.distinct i j p q lt g k (a.exclusive i j p q lt g k plain free same) same;
    }))
