-- When a pool is usable.
use Rattle.std.proofs.Common.{ℕ, ◌≡◌, ◌∙◌, List, [], ◌∷◌, Bool, true, false, not, ◌&&◌, ◌||◌, eqb, length, refl, sym, ap}
use Rattle.std.specs.List.{flat_map, list_any, list_all}
use Rattle.std.proofs.lemmas.Bool.{and_parts, eqb-true, eq-eqb}
use Rattle.api_slice.specs.declared.types.ResourceSlice.{ResourceSlice}
use Rattle.pool_view.specs.Pools.{counts_of, counts_differ, device_names, draws_are_there, has_twice, is_complete, is_usable, set_names, sets_of}

agrees_with : (k n : ℕ) (ms : List ℕ) → list_all (λ m. eqb m k) ms ≡ true → n ≡ k → list_any (λ m. not (eqb n m)) ms ≡ false
agrees_with k n [] h e = refl
agrees_with k n (m ∷ ms) h e =
    let parts = and_parts (eqb m k) (list_all (λ m. eqb m k) ms) h in
    let same : eqb n m ≡ true = eq-eqb n m (e ∙ sym (eqb-true m k parts.0)) in
    ap (λ b. not b || list_any (λ m. not (eqb n m)) ms) same ∙ agrees_with k n ms parts.1 e

agree : (k : ℕ) (all ns : List ℕ) → list_all (λ m. eqb m k) all ≡ true → list_all (λ m. eqb m k) ns ≡ true → list_any (λ n. list_any (λ m. not (eqb n m)) all) ns ≡ false
agree k all [] h g = refl
agree k all (n ∷ ns) h g =
    let parts = and_parts (eqb n k) (list_all (λ m. eqb m k) ns) g in
    ap (λ b. b || list_any (λ n. list_any (λ m. not (eqb n m)) all) ns) (agrees_with k n all h (eqb-true n k parts.0)) ∙ agree k all ns h parts.1

-- if their number equals the count in each, no two have different counts
complete_agrees : (counts : List ℕ) → is_complete counts ≡ true → counts_differ counts ≡ false
complete_agrees counts h = agree (length counts) counts counts h h

usable_if : (c d t s w : Bool) → (c ≡ true → d ≡ false) → ((c && not t) && (not s && w)) ≡ (c && not (d || (t || (s || not w))))
usable_if true d true s w h = sym (ap (λ b. not (b || true)) (h refl))
usable_if true d false true w h = sym (ap (λ b. not (b || true)) (h refl))
usable_if true d false false true h = sym (ap (λ b. not (b || false)) (h refl))
usable_if true d false false false h = sym (ap (λ b. not (b || true)) (h refl))
usable_if false d t s w h = refl

-- a pool's slices by their counts, by their devices' names, and by their counter sets
pub is_usable_by : (xs : List ResourceSlice) (b : Bool)
    → b ≡ ((is_complete (counts_of xs) && not (has_twice (flat_map device_names xs))) && (not (has_twice (set_names (sets_of xs))) && draws_are_there (sets_of xs) xs)) → b ≡ is_usable xs
unfolding is_usable
is_usable_by xs b e =
    e
    ∙ usable_if (is_complete (counts_of xs)) (counts_differ (counts_of xs)) (has_twice (flat_map device_names xs)) (has_twice (set_names (sets_of xs))) (draws_are_there (sets_of xs) xs)
    (complete_agrees (counts_of xs))
