-- One item more of a list that is gone through from its start.
use Rattle.std.proofs.Common.{◌≡◌, ℕ, suc, ◌+◌, ◌<◌, Bool, true, false, ◌&&◌, ◌||◌, List, ◌∷◌, ◌++◌, length, get_or, drop, sym, ap, ◌∙◌, add-one, append_assoc, drop-cons}
use Rattle.std.specs.List.{flat_map, list_all, list_any}

right_false : (a b : Bool) → (a || b) ≡ false → b ≡ false
right_false true b is = cc
right_false false b is = is

module _ {A : Type 0} (items : List A) (i : ℕ) (x : A) (within : i < length items) (is : x ≡ get_or items i x) where
  cut_here : drop i items ≡ x ∷ drop (i + 1) items
  cut_here = rw (add-one, drop-cons items i x) (ap (λ (y : A). y ∷ drop (suc i) items) (sym is))

  pub none_after : (p : A → Bool) → list_any p (drop i items) ≡ false → list_any p (drop (i + 1) items) ≡ false
  none_after p none = right_false (p x) _ (ap (list_any p) (sym cut_here) ∙ none)

  pub all_after : (p : A → Bool) (b : Bool) → p x ≡ true → list_all p (drop i items) ≡ b → list_all p (drop (i + 1) items) ≡ b
  all_after p b here all = ap (λ (k : Bool). k && list_all p (drop (i + 1) items)) (sym here) ∙ (ap (list_all p) (sym cut_here) ∙ all)

  pub put_after : (f : A → List ℕ) (into new whole : List ℕ) → new ≡ into ++ f x → into ++ flat_map f (drop i items) ≡ whole → new ++ flat_map f (drop (i + 1) items) ≡ whole
  put_after f into new whole put all =
      ap (λ (l : List ℕ). l ++ flat_map f (drop (i + 1) items)) put ∙ (append_assoc into (f x) (flat_map f (drop (i + 1) items)) ∙ (ap (λ (l : List A). into ++ flat_map f l) (sym cut_here) ∙ all))
