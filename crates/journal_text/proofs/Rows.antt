-- Texts in a row.
use Rattle.std.proofs.Common.{ℕ, List, ◌++◌, ◌≡◌, Result, Ok, Err, append_assoc, ◌∙◌, ap, sym}
use Rattle.std.specs.Prelude.{IfOk, OnOk}

-- what a call returns is described by an equal text
pub told_by : {S E : Type 0} (bytes : S → List ℕ) (r : Result S E) (x y : List ℕ) → x ≡ y → IfOk r (λ s. bytes s ≡ x) → IfOk r (λ s. bytes s ≡ y)
told_by bytes (Ok s) x y same is = is ∙ same
told_by bytes (Err e) x y same is = tt

-- two parts more, after one
pub then : {X E : Type 0} (r : Result X E) (old mid new a x y : List ℕ) → mid ≡ old ++ a → OnOk r (new ≡ mid ++ (x ++ y)) → OnOk r (new ≡ old ++ (a ++ x ++ y))
then (Ok u) old mid new a x y first next =
    let whole : (old ++ a) ++ (x ++ y) ≡ old ++ (a ++ x ++ y) = simp append_assoc in
    next ∙ ap (λ (l : List ℕ). l ++ (x ++ y)) first ∙ whole
then (Err e) old mid new a x y first next = tt

-- four parts that are written as one
pub in_four : {X E : Type 0} (r : Result X E) (old new a b c d : List ℕ) → OnOk r (new ≡ old ++ (a ++ (b ++ (c ++ d)))) → OnOk r (new ≡ old ++ (a ++ b ++ c ++ d))
in_four (Ok u) old new a b c d told =
    let whole : a ++ (b ++ (c ++ d)) ≡ a ++ b ++ c ++ d = simp append_assoc in
    told ∙ ap (λ (l : List ℕ). old ++ l) whole
in_four (Err e) old new a b c d told = tt
