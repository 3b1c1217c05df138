-- How many documents a script has.
use Rattle.std.proofs.Common.{ℕ, zero, suc, ◌+◌, ◌*◌, ◌≤◌, ◌≡◌, Bool, true, false, List, [], ◌∷◌, ◌++◌, if◌then◌else◌, length, length-append, refl, arith}
use Rattle.std.specs.List.{flat_map, range_with_len}
use Rattle.script_gen.specs.Generator.{next_number}
use Rattle.script_gen.specs.Script.{cluster_documents, documents_of, number_before, pod_documents, release_documents, releases_one}

abbrev all_pods : ℕ → ℕ → ℕ → List (List ℕ)
all_pods from first n = flat_map (λ i. pod_documents (number_before from i) i) (range_with_len first n)

none_or_one : (b : Bool) (text : List ℕ) → length (if b then text ∷ [] else []) ≤ 1
none_or_one true text = omega arith
none_or_one false text = omega arith

one_pod : (x i : ℕ) (others : List (List ℕ)) → (3 + length others ≤ length (pod_documents x i ++ others)) × (length (pod_documents x i ++ others) ≤ 4 + length others)
one_pod x i others =
    let releases : List (List ℕ) = release_documents (next_number x) i in
    let joined : length (releases ++ others) ≡ length releases + length others = length-append releases others in
    let few : length releases ≤ 1 = none_or_one (releases_one (next_number x) i) _ in
    (omega (arith, joined), omega (arith, joined, few))

pods_least : (from first n : ℕ) → 3 * n ≤ length (all_pods from first n)
pods_least from first zero = omega arith
pods_least from first (suc n) = omega (arith, pods_least from (first + 1) n, (one_pod (number_before from first) first (all_pods from (first + 1) n)).0)

pods_most : (from first n : ℕ) → length (all_pods from first n) ≤ 4 * n
pods_most from first zero = omega arith
pods_most from first (suc n) = omega (arith, pods_most from (first + 1) n, (one_pod (number_before from first) first (all_pods from (first + 1) n)).1)

nine : length cluster_documents ≡ 9
unfolding cluster_documents
nine = refl

pub least : (from pods : ℕ) → 9 + 3 * pods ≤ length (documents_of from pods)
unfolding documents_of
least from pods = omega (arith, nine, pods_least from 0 pods, length-append cluster_documents (all_pods from 0 pods))

pub most : (from pods : ℕ) → length (documents_of from pods) ≤ 9 + 4 * pods
unfolding documents_of
most from pods = omega (arith, nine, pods_most from 0 pods, length-append cluster_documents (all_pods from 0 pods))
