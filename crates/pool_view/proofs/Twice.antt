-- Whether a name appears twice, by the set of those before.
use Rattle.std.proofs.Common.{ℕ, ◌≡◌, ◌∙◌, List, [], ◌∷◌, Bool, true, false, ◌||◌, refl, sym, ap}
use Rattle.std.specs.List.{list_any}
use Rattle.std.specs.BTreeMap.{is_at}
use Rattle.std.specs.BTreeSet.{insert_key}
use Rattle.std.specs.Cmp.Lexicographic.{same_text, texts_ties}
use Rattle.std.specs.Ordering.{is_eq, match_ordering}
use Rattle.std.specs.declared.cmp.Ordering.{Ordering}
use Rattle.std.specs.declared.cmp.Ordering.TheVariants.{Less, Equal, Greater}
use Rattle.pool_view.specs.Names.{text_cmp, text_eq}
use Rattle.pool_view.specs.Pools.{has_twice}

abbrev pub has : List (List ℕ) → List ℕ → Bool
has seen n = list_any (is_at (text_cmp n)) seen

abbrev pub clashes : List (List ℕ) → List (List ℕ) → Bool
clashes seen [] = false
clashes seen (n ∷ ns) = has seen n || clashes (insert_key text_cmp seen n) ns

swap : (a b c : Bool) → (a || (b || c)) ≡ (b || (a || c))
swap true true c = refl
swap true false c = refl
swap false true c = refl
swap false false c = refl

again : (a b : Bool) → (a || (a || b)) ≡ (a || b)
again true b = refl
again false b = refl

same : (a b : List ℕ) → text_cmp a b ≡ Equal → a ≡ b
same a b e = same_text a b (sym (texts_ties a b ∙ ap is_eq e))

put_by : (o : Ordering) (k x n : List ℕ) (xs more : List (List ℕ)) → text_cmp k x ≡ o → has more n ≡ (is_at (text_cmp n) k || has xs n)
    → has (match_ordering o (k ∷ x ∷ xs) (x ∷ xs) (x ∷ more)) n ≡ (is_at (text_cmp n) k || has (x ∷ xs) n)
put_by Less k x n xs more e h = refl
put_by Equal k x n xs more e h =
    sym (ap (λ (j : List ℕ). is_at (text_cmp n) j || (is_at (text_cmp n) x || has xs n)) (same k x e) ∙ again (is_at (text_cmp n) x) (has xs n))
put_by Greater k x n xs more e h = ap (λ (b : Bool). is_at (text_cmp n) x || b) h ∙ swap (is_at (text_cmp n) x) (is_at (text_cmp n) k) (has xs n)

-- what a set has with a name more
has_put : (xs : List (List ℕ)) (k n : List ℕ) → has (insert_key text_cmp xs k) n ≡ (is_at (text_cmp n) k || has xs n)
has_put [] k n = refl
has_put (x ∷ xs) k n = put_by (text_cmp k x) k x n xs (insert_key text_cmp xs k) refl (has_put xs k n)

pub split : (a b c d : Bool) → ((a || b) || (c || d)) ≡ ((a || c) || (b || d))
split true b c d = refl
split false true true d = refl
split false true false d = refl
split false false c d = refl

any_put : (seen ns : List (List ℕ)) (k : List ℕ) → list_any (has (insert_key text_cmp seen k)) ns ≡ (list_any (λ m. text_eq m k) ns || list_any (has seen) ns)
any_put seen [] k = refl
any_put seen (n ∷ ns) k =
    ap (λ (b : Bool). b || list_any (has (insert_key text_cmp seen k)) ns) (has_put seen k n ∙ ap (λ (b : Bool). b || has seen n) (sym (texts_ties n k)))
    ∙ ap (λ (b : Bool). (text_eq n k || has seen n) || b) (any_put seen ns k) ∙ split (text_eq n k) (has seen n) (list_any (λ m. text_eq m k) ns) (list_any (has seen) ns)

pub arrange : (a b c d : Bool) → (a || ((b || c) || d)) ≡ ((a || c) || (b || d))
arrange true b c d = refl
arrange false true true d = refl
arrange false true false d = refl
arrange false false c d = refl

clashes_by : (seen ns : List (List ℕ)) → clashes seen ns ≡ (list_any (has seen) ns || has_twice ns)
clashes_by seen [] = refl
clashes_by seen (n ∷ ns) =
    ap (λ (b : Bool). has seen n || b) (clashes_by (insert_key text_cmp seen n) ns ∙ ap (λ (b : Bool). b || has_twice ns) (any_put seen ns n))
    ∙ arrange (has seen n) (list_any (λ m. text_eq m n) ns) (list_any (has seen) ns) (has_twice ns)

none_seen : (ns : List (List ℕ)) → list_any (has []) ns ≡ false
none_seen [] = refl
none_seen (n ∷ ns) = none_seen ns

pub clashes_at_first : (ns : List (List ℕ)) → clashes [] ns ≡ has_twice ns
clashes_at_first ns = clashes_by [] ns ∙ ap (λ (b : Bool). b || has_twice ns) (none_seen ns)
