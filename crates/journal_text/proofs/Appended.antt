-- Lines of entries, one after another.
use Rattle.std.proofs.lemmas.List.{nil_from_length}
use Rattle.std.proofs.Common.{ℕ, ◌+◌, ◌<◌, ◌≤◌, List, [], ◌∷◌, ◌++◌, ◌≡◌, ◌∙◌, drop, get_or, drop-cons, add-one, length, length-drop, arith, ap, sym, append_assoc, append-nil}
use Rattle.cluster.specs.declared.entry.Entry.{Entry}
use Rattle.journal_text.specs.Journal.{line_of, lines_from}

-- one line more
pub lines_step : (xs : List Entry) (out next all : List ℕ) (place : ℕ) (e : Entry) → place < length xs → e ≡ get_or xs place e
    → out ++ lines_from place (drop place xs) ≡ all → next ≡ out ++ line_of (place + 1) e → next ++ lines_from (place + 1) (drop (place + 1) xs) ≡ all
unfolding lines_from
lines_step xs out next all place e lt is told same =
    let after : drop place xs ≡ get_or xs place e ∷ drop (place + 1) xs = rw add-one (drop-cons xs place e lt) in
    let here : drop place xs ≡ e ∷ drop (place + 1) xs = after ∙ ap (λ (x : Entry). x ∷ drop (place + 1) xs) (sym is) in
    ap (λ (l : List ℕ). l ++ lines_from (place + 1) (drop (place + 1) xs)) same
    ∙ append_assoc out (line_of (place + 1) e) (lines_from (place + 1) (drop (place + 1) xs))
    ∙ ap (λ (r : List Entry). out ++ lines_from place r) (sym here) ∙ told

-- all lines are written
pub lines_end : (xs : List Entry) (out all : List ℕ) (place : ℕ) → length xs ≤ place → out ++ lines_from place (drop place xs) ≡ all → out ≡ all
unfolding lines_from
lines_end xs out all place le told =
    let over : drop place xs ≡ [] = nil_from_length (drop place xs) (omega (arith, length-drop place xs)) in
    sym (append-nil out) ∙ ap (λ (r : List Entry). out ++ lines_from place r) (sym over) ∙ told

-- the lines of a prefix, and then those of the rest
pub lines_more : (n : ℕ) (xs ys : List Entry) → lines_from n (xs ++ ys) ≡ lines_from n xs ++ lines_from (n + length xs) ys
unfolding lines_from
lines_more n [] ys =
    let none : n ≡ n + length {A = Entry} [] = omega arith in
    ap (λ (m : ℕ). lines_from m ys) none
lines_more n (e ∷ xs) ys =
    let count : n + 1 + length xs ≡ n + length (e ∷ xs) = omega arith in
    ap (λ (l : List ℕ). line_of (n + 1) e ++ l) (lines_more (n + 1) xs ys ∙ ap (λ (m : ℕ). lines_from (n + 1) xs ++ lines_from m ys) count)
    ∙ sym (append_assoc (line_of (n + 1) e) (lines_from (n + 1) xs) (lines_from (n + length (e ∷ xs)) ys))
