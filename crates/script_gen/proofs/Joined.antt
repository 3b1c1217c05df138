-- Lines written one after another.
use Rattle.std.proofs.Common.{ℕ, suc, ◌+◌, ◌-◌, ◌<◌, ◌≤◌, List, [], ◌∷◌, ◌++◌, ◌≡◌, ◌∙◌, map, ap, sym, arith, append_assoc, append-nil, add-one}
use Rattle.std.proofs.lemmas.Grind.{flat_map-append}
use Rattle.std.specs.List.{flat_map, range_with_len}
use Rattle.std.specs.Prelude.{codes}
use Rattle.script_gen.specs.Script.{cluster_documents, documents_of, lines_of, number_after, number_before, pod_documents, script_of}

abbrev pub line : List ℕ → List ℕ
line text = text ++ codes "\n"

-- the first of numbers, and the others
range_step : (i n : ℕ) → i < n → range_with_len i (n - i) ≡ i ∷ range_with_len (i + 1) (n - (i + 1))
range_step i n lt = let more : n - i ≡ suc (n - (i + 1)) = omega arith in ap (λ k. range_with_len i k) more

lines_append : (xs ys : List (List ℕ)) → lines_of (xs ++ ys) ≡ lines_of xs ++ lines_of ys
lines_append xs ys = flat_map-append line xs ys

-- the pieces of a slice's line
pub slice_joined : (out out1 out2 out3 out4 a b c d e : List ℕ) → out1 ≡ out ++ a → out2 ≡ out1 ++ b → out3 ≡ out2 ++ c → out4 ≡ out3 ++ (d ++ e)
    → out4 ≡ out ++ (a ++ (b ++ c) ++ d) ++ e
slice_joined out out1 out2 out3 out4 a b c d e e1 e2 e3 e4 = simp (e4, e3, e2, e1, append_assoc)

-- three lines, and then more
pub lines_joined : (out out1 out2 out3 out4 a b c : List ℕ) (more : List (List ℕ)) → out1 ≡ out ++ a ++ codes "\n" → out2 ≡ out1 ++ b ++ codes "\n" → out3 ≡ out2 ++ c ++ codes "\n"
    → out4 ≡ out3 ++ lines_of more → out4 ≡ out ++ lines_of (a ∷ b ∷ c ∷ more)
lines_joined out out1 out2 out3 out4 a b c more e1 e2 e3 e4 = simp (e4, e3, e2, e1, append_assoc)

-- one line more of those that are left
pub line_step : (f : ℕ → List ℕ) (i n : ℕ) (out new all : List ℕ) (rest : List (List ℕ)) → i < n → new ≡ out ++ f i ++ codes "\n"
    → out ++ lines_of (map f (range_with_len i (n - i)) ++ rest) ≡ all → new ++ lines_of (map f (range_with_len (i + 1) (n - (i + 1))) ++ rest) ≡ all
line_step f i n out new all rest lt e h =
    let left : List (List ℕ) = map f (range_with_len (i + 1) (n - (i + 1))) ++ rest in
    ap (λ l. l ++ lines_of left) e ∙ append_assoc (out ++ f i) (codes "\n") (lines_of left) ∙ append_assoc out (f i) (codes "\n" ++ lines_of left)
    ∙ ap (λ l. out ++ l) (sym (append_assoc (f i) (codes "\n") (lines_of left)))
    ∙ ap (λ r. out ++ lines_of (map f r ++ rest)) (sym (range_step i n lt)) ∙ h

-- the lines of one more of those that are left
pub lines_step : (f : ℕ → List (List ℕ)) (i n : ℕ) (out new all : List ℕ) → i < n → new ≡ out ++ lines_of (f i)
    → out ++ lines_of (flat_map f (range_with_len i (n - i))) ≡ all → new ++ lines_of (flat_map f (range_with_len (i + 1) (n - (i + 1)))) ≡ all
lines_step f i n out new all lt e h =
    let left : List (List ℕ) = flat_map f (range_with_len (i + 1) (n - (i + 1))) in
    ap (λ l. l ++ lines_of left) e ∙ append_assoc out (lines_of (f i)) (lines_of left)
    ∙ ap (λ l. out ++ l) (sym (lines_append (f i) left))
    ∙ ap (λ r. out ++ lines_of (flat_map f r)) (sym (range_step i n lt)) ∙ h

-- after the last of the nodes, the class
pub class_step : (f : ℕ → List ℕ) (i : ℕ) (out new all class : List ℕ) (rest : List (List ℕ)) → 4 ≤ i → new ≡ out ++ class ++ codes "\n"
    → out ++ lines_of (map f (range_with_len i (4 - i)) ++ class ∷ rest) ≡ all → new ++ lines_of (rest ++ []) ≡ all
class_step f i out new all class rest last e h =
    let none : 4 - i ≡ 0 = omega (arith, last) in
    ap (λ r. new ++ lines_of r) (append-nil rest) ∙ ap (λ l. l ++ lines_of rest) e ∙ append_assoc (out ++ class) (codes "\n") (lines_of rest)
    ∙ append_assoc out class (codes "\n" ++ lines_of rest)
    ∙ ap (λ l. out ++ l) (sym (append_assoc class (codes "\n") (lines_of rest)))
    ∙ ap (λ k. out ++ lines_of (map f (range_with_len i k) ++ class ∷ rest)) (sym none) ∙ h

-- the lines of the cluster, and then those of the pods
pub script_begins : (from pods left : ℕ) → left ≡ pods
    → lines_of cluster_documents ++ lines_of (flat_map (λ i. pod_documents (number_before from i) i) (range_with_len 0 left)) ≡ script_of from pods
unfolding script_of documents_of
script_begins from pods left e =
    ap (λ k. lines_of cluster_documents ++ lines_of (flat_map (λ i. pod_documents (number_before from i) i) (range_with_len 0 k))) e
    ∙ sym (lines_append cluster_documents _)

pub number_step : (from i x : ℕ) → x ≡ number_after (number_before from i) i → x ≡ number_before from (i + 1)
unfolding number_before
number_step from i x e = e ∙ ap (λ k. number_before from k) (sym (add-one i))
