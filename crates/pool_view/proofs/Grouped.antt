-- The contents of the groups of a list.
use Rattle.std.proofs.Common.{◌≡◌, ◌∙◌, List, [], ◌∷◌, ◌++◌, Bool, true, false, cond, refl, sym, ap, append_assoc, append-nil, Option}
use Rattle.std.specs.Prelude.{filter, unwrap_or, Some}
use Rattle.std.specs.BTreeMap.{is_at}
use Rattle.std.specs.Map.{lookup, remove_entry}
use Rattle.std.specs.Ordering.{is_eq}
use Rattle.std.specs.declared.cmp.Ordering.{Ordering}
use Rattle.pool_view.proofs.Found.{IsExact, at_insert, at_remove, is_equal}
use Rattle.pool_view.specs.Groups.{added, group_at, grouped}

module _ {K T : Type 0} (cmp : K → K → Ordering) (exact : IsExact cmp) where
  abbrev at : K → List (K × List T) → Option (List T)
  at q es = lookup (is_at (cmp q)) es

  pub added_by : (b : Bool) (g : List (K × List T)) (k q : K) (x : T) → is_eq (cmp q k) ≡ b → group_at cmp (added cmp g k x) q ≡ group_at cmp g q ++ cond b (x ∷ []) []
  added_by true g k q x e =
      ap (λ (r : Option (List T)). unwrap_or r []) (at_insert cmp exact (remove_entry (is_at (cmp k)) g) k q (group_at cmp g k ++ x ∷ []) ∙ ap (λ (b : Bool). cond b (Some (group_at cmp g k ++ x ∷ [])) (at q (remove_entry (is_at (cmp k)) g))) e)
      ∙ ap (λ (j : K). group_at cmp g j ++ x ∷ []) (sym (exact.same q k (is_equal (cmp q k) e)))
  added_by false g k q x e =
      ap (λ (r : Option (List T)). unwrap_or r [])
      (at_insert cmp exact (remove_entry (is_at (cmp k)) g) k q (group_at cmp g k ++ x ∷ []) ∙ ap (λ (b : Bool). cond b (Some (group_at cmp g k ++ x ∷ [])) (at q (remove_entry (is_at (cmp k)) g))) e ∙ at_remove cmp exact g k q e)
      ∙ sym (append-nil (group_at cmp g q))

  gather : (b : Bool) (x : T) (done left : List T) → (done ++ cond b (x ∷ []) []) ++ left ≡ done ++ cond b (x ∷ left) left
  gather true x done left = append_assoc done (x ∷ []) left
  gather false x done left = append_assoc done [] left

  -- the group at a key: what was there, and the items whose key it is
  pub grouped_at : (key_of : T → K) (xs : List T) (g : List (K × List T)) (q : K) → group_at cmp (grouped cmp key_of g xs) q ≡ group_at cmp g q ++ filter (λ x. is_eq (cmp q (key_of x))) xs
  grouped_at key_of [] g q = sym (append-nil (group_at cmp g q))
  grouped_at key_of (x ∷ xs) g q =
      grouped_at key_of xs (added cmp g (key_of x) x) q
      ∙ ap (λ (done : List T). done ++ filter (λ x. is_eq (cmp q (key_of x))) xs) (added_by (is_eq (cmp q (key_of x))) g (key_of x) q x refl)
      ∙ gather (is_eq (cmp q (key_of x))) x (group_at cmp g q) (filter (λ x. is_eq (cmp q (key_of x))) xs)
