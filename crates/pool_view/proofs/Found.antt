-- The value at a key in entries that are inserted and removed.
use Rattle.std.proofs.Common.{◌≡◌, ◌∙◌, List, [], ◌∷◌, Bool, true, false, cond, Option, None, Some, refl, sym, ap, subst}
use Rattle.std.specs.BTreeMap.{insert_entry, is_at}
use Rattle.std.specs.List.{AllByRecursion}
use Rattle.std.specs.List.Sorted.{IsStrictlySortedBy}
use Rattle.std.specs.Map.{keys_of, lookup, remove_entry}
use Rattle.std.specs.Ordering.{is_eq, match_ordering}
use Rattle.std.specs.declared.cmp.Ordering.{Ordering}
use Rattle.std.specs.declared.cmp.Ordering.TheVariants.{Less, Equal, Greater}

-- a comparison that is Equal only for equal keys
pub record IsExact {K : Type 0} (cmp : K → K → Ordering) : Type 0 where
  pub same : (a b : K) → cmp a b ≡ Equal → a ≡ b
  pub equal : (a : K) → cmp a a ≡ Equal

pub is_equal : (o : Ordering) → is_eq o ≡ true → o ≡ Equal
is_equal Less e = absurd (cc)
is_equal Equal e = refl
is_equal Greater e = absurd (cc)

module _ {K : Type 0} (cmp : K → K → Ordering) (exact : IsExact cmp) where
  apart : (q k x : K) → cmp k x ≡ Greater → is_eq (cmp q x) ≡ true → is_eq (cmp q k) ≡ true → ⊥
  apart q k x e f g =
      let kx : k ≡ x = sym (exact.same q k (is_equal (cmp q k) g)) ∙ exact.same q x (is_equal (cmp q x) f) in
      let eq : cmp k x ≡ Equal = ap (λ (j : K). cmp j x) kx ∙ exact.equal x in
      absurd (cc)

module _ {K V : Type 0} (cmp : K → K → Ordering) (exact : IsExact cmp) where
  abbrev pub at : K → List (K × V) → Option V
  at q es = lookup (is_at (cmp q)) es

  pick : (b c : Bool) (v : Option V) (w u : Option V) → (b ≡ true → c ≡ true → ⊥) → cond b w (cond c v u) ≡ cond c v (cond b w u)
  pick true true v w u h = absurd (h refl refl)
  pick true false v w u h = refl
  pick false true v w u h = refl
  pick false false v w u h = refl

  shadow : (b : Bool) (v w u : Option V) → cond b v u ≡ cond b v (cond b w u)
  shadow true v w u = refl
  shadow false v w u = refl

  insert_by : (o : Ordering) (e : K × V) (es more : List (K × V)) (k q : K) (v : V) → cmp k e.0 ≡ o → at q more ≡ cond (is_eq (cmp q k)) (Some v) (at q es)
      → at q (match_ordering o ((k, v) ∷ e ∷ es) ((e.0, v) ∷ es) (e ∷ more)) ≡ cond (is_eq (cmp q k)) (Some v) (at q (e ∷ es))
  insert_by Less e es more k q v s h = refl
  insert_by Equal e es more k q v s h =
      ap (λ (j : K). cond (is_eq (cmp q j)) (Some v) (at q es)) (sym (exact.same k e.0 s))
      ∙ shadow (is_eq (cmp q k)) (Some v) (Some e.1) (at q es)
      ∙ ap (λ (j : K). cond (is_eq (cmp q k)) (Some v) (cond (is_eq (cmp q j)) (Some e.1) (at q es))) (exact.same k e.0 s)
  insert_by Greater e es more k q v s h =
      ap (λ (r : Option V). cond (is_eq (cmp q e.0)) (Some e.1) r) h
      ∙ pick (is_eq (cmp q e.0)) (is_eq (cmp q k)) (Some v) (Some e.1) (at q es) (apart cmp exact q k e.0 s)

  pub at_insert : (es : List (K × V)) (k q : K) (v : V) → at q (insert_entry cmp es k v) ≡ cond (is_eq (cmp q k)) (Some v) (at q es)
  at_insert [] k q v = refl
  at_insert (e ∷ es) k q v = insert_by (cmp k e.0) e es (insert_entry cmp es k v) k q v refl (at_insert es k q v)

  remove_by : (b : Bool) (e : K × V) (es : List (K × V)) (k q : K) → is_eq (cmp k e.0) ≡ b → is_eq (cmp q k) ≡ false → at q (remove_entry (is_at (cmp k)) es) ≡ at q es
      → at q (cond b es (e ∷ remove_entry (is_at (cmp k)) es)) ≡ at q (e ∷ es)
  remove_by true e es k q s f h =
      let other : is_eq (cmp q e.0) ≡ false = ap (λ (j : K). is_eq (cmp q j)) (sym (exact.same k e.0 (is_equal (cmp k e.0) s))) ∙ f in
      sym (ap (λ (c : Bool). cond c (Some e.1) (at q es)) other)
  remove_by false e es k q s f h = ap (λ (r : Option V). cond (is_eq (cmp q e.0)) (Some e.1) r) h

  pub at_remove : (es : List (K × V)) (k q : K) → is_eq (cmp q k) ≡ false → at q (remove_entry (is_at (cmp k)) es) ≡ at q es
  at_remove [] k q f = refl
  at_remove (e ∷ es) k q f = remove_by (is_eq (cmp k e.0)) e es k q refl f (at_remove es k q f)

  -- where the keys are in order, nothing is left at the one whose entry is removed
  none_after : (k : K) (es : List (K × V)) → AllByRecursion (λ y. cmp k y ≡ Less) (keys_of es) → at k es ≡ None
  none_after k [] h = refl
  none_after k (e ∷ es) h = ap (λ (o : Ordering). cond (is_eq o) (Some e.1) (at k es)) h.0 ∙ none_after k es h.1

  gone_by : (b : Bool) (e : K × V) (es : List (K × V)) (k : K) → is_eq (cmp k e.0) ≡ b → AllByRecursion (λ y. cmp e.0 y ≡ Less) (keys_of es) → at k (remove_entry (is_at (cmp k)) es) ≡ None
      → at k (cond b es (e ∷ remove_entry (is_at (cmp k)) es)) ≡ None
  gone_by true e es k is above later = none_after k es (subst (λ (j : K). AllByRecursion (λ y. cmp j y ≡ Less) (keys_of es)) (sym (exact.same k e.0 (is_equal (cmp k e.0) is))) above)
  gone_by false e es k is above later = ap (λ (c : Bool). cond c (Some e.1) (at k (remove_entry (is_at (cmp k)) es))) is ∙ later

  pub at_gone : (es : List (K × V)) (k : K) → IsStrictlySortedBy cmp (keys_of es) → at k (remove_entry (is_at (cmp k)) es) ≡ None
  unfolding IsStrictlySortedBy
  at_gone [] k h = refl
  at_gone (e ∷ es) k h = gone_by (is_eq (cmp k e.0)) e es k refl h.0 (at_gone es k h.1)
