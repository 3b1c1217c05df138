-- Two lists joined index by index, at the end of one of them.
use Rattle.std.proofs.Common.{◌≡◌, ◌∙◌, List, [], ◌∷◌, ◌++◌, length, map, sym, arith}
use Rattle.std.proofs.lemmas.List.{append-nil}
use Rattle.std.specs.List.{zip}

-- what was made so far is all, if the first list has ended
pub first_ended : {A B C : Type 0} (f : A × B → C) (xs : List A) (ys : List B) (out all : List C) → out ++ map f (zip xs ys) ≡ all → length xs ≡ 0 → out ≡ all
first_ended f [] ys out all h e = sym (append-nil out) ∙ h
first_ended f (x ∷ xs) ys out all h e = absurd (omega arith)

-- and if the second has
pub second_ended : {A B C : Type 0} (f : A × B → C) (xs : List A) (ys : List B) (out all : List C) → out ++ map f (zip xs ys) ≡ all → length ys ≡ 0 → out ≡ all
second_ended f [] ys out all h e = sym (append-nil out) ∙ h
second_ended f (x ∷ xs) [] out all h e = sym (append-nil out) ∙ h
second_ended f (x ∷ xs) (y ∷ ys) out all h e = absurd (omega arith)
