-- Words in a row.
use Rattle.std.proofs.Common.{ℕ, List, ◌++◌, ◌≡◌, append_assoc}
use Rattle.std.specs.Prelude.{codes}

pub in_five : (a b c d e : List ℕ) → a ++ (b ++ (c ++ (d ++ e))) ≡ a ++ b ++ c ++ d ++ e
in_five a b c d e = simp append_assoc

pub in_seven : (a b c d e f g : List ℕ) → a ++ (b ++ (c ++ (d ++ (e ++ (f ++ g))))) ≡ a ++ b ++ c ++ d ++ e ++ f ++ g
in_seven a b c d e f g = simp append_assoc

pub in_four : (a b c d : List ℕ) → a ++ (b ++ (c ++ d)) ≡ a ++ b ++ c ++ d
in_four a b c d = simp append_assoc
