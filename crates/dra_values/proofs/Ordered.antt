-- Entries put into a table one after another, in the order of their keys.
use Rattle.std.proofs.Common.{◌≡◌, ◌∙◌, List, [], ◌∷◌, ◌++◌, refl, ap, append_assoc}
use Rattle.std.specs.BTreeMap.{insert_entry}
use Rattle.std.specs.Cmp.{IsTotalOrder}
use Rattle.std.specs.List.{AllByRecursion}
use Rattle.std.specs.List.Sorted.{IsStrictlySortedBy}
use Rattle.std.specs.Map.{keys_of}
use Rattle.std.specs.Ordering.{ordering_reverse}
use Rattle.std.specs.declared.cmp.Ordering.{Ordering}
use Rattle.std.specs.declared.cmp.Ordering.TheVariants.{Less, Greater}

below_later : {K X : Type 0} (R : K → K → Ordering) (y : K) (xs rest : List (K × X)) (k : K) (v : X) → AllByRecursion (λ q. R y q ≡ Less) (keys_of (xs ++ (k, v) ∷ rest)) → R y k ≡ Less
below_later R y [] rest k v a = a.0
below_later R y (x ∷ xs) rest k v a = below_later R y xs rest k v a.1

-- an entry that is after all others in an order goes to the end
insert_last : {K X : Type 0} (R : K → K → Ordering) → IsTotalOrder R → (xs rest : List (K × X)) (k : K) (v : X) → IsStrictlySortedBy R (keys_of (xs ++ (k, v) ∷ rest)) → insert_entry R xs k v ≡ xs ++ (k, v) ∷ []
unfolding IsStrictlySortedBy
insert_last R o [] rest k v s = refl
insert_last R o (x ∷ xs) rest k v s =
    let above : R k x.0 ≡ Greater = o.antisymm k x.0 ∙ ap ordering_reverse (below_later R x.0 xs rest k v s.0) in
    rw above (ap (λ es. x ∷ es) (insert_last R o xs rest k v s.1))

-- a prefix of the entries, with a copy of the next one inserted, is a prefix of them
pub prefix_grows : {K X : Type 0} (R : K → K → Ordering) → IsTotalOrder R → (all prefix prefix2 rest rest2 : List (K × X)) (k k2 : K) (v v2 : X) → all ≡ prefix ++ rest → rest ≡ (k, v) ∷ rest2 → IsStrictlySortedBy R (keys_of all) → k2 ≡ k → v2 ≡ v → prefix2 ≡ insert_entry R prefix k2 v2 → all ≡ prefix2 ++ rest2
prefix_grows R o all prefix prefix2 rest rest2 k k2 v v2 e f s kc vc i =
    let whole : all ≡ prefix ++ (k, v) ∷ rest2 = e ∙ ap (λ l. prefix ++ l) f in
    let same : prefix2 ≡ insert_entry R prefix k v = rw (kc, vc) at i in
    let last : prefix2 ≡ prefix ++ (k, v) ∷ [] = same ∙ insert_last R o prefix rest2 k v (rw whole at s) in
    rw (whole, last, append_assoc) refl
