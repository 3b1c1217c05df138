-- How many entries of a table are counted.
use Rattle.std.proofs.Common.{ℕ, ◌≡◌, ◌∙◌, ◌+◌, ◌≤◌, List, ◌∷◌, Bool, true, cond, length, ap, arith}
use Rattle.std.specs.List.{count_by}
use Rattle.std.proofs.lemmas.List.Sums.{count_by-le-length, sum_by-cons}

-- one more is at most all of them
pub one_more : {X : Type 0} (p : X → Bool) (x : X) (rest left all : List X) (count : ℕ) → left ≡ x ∷ rest → p x ≡ true → count + count_by p left ≡ count_by p all → count + 1 ≤ length all
one_more p x rest left all count is chosen so =
    let le = count_by-le-length p all in
    let one : count_by p left ≡ 1 + count_by p rest = ap (λ xs. count_by p xs) is ∙ sum_by-cons (λ y. cond (p y) 1 0) x rest ∙ ap (λ b. cond b 1 0 + count_by p rest) chosen in
    omega (arith, le, so, one)
