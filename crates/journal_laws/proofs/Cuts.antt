-- Texts that are cut at the first byte of a kind.
use Rattle.std.proofs.Common.{ℕ, ◌≡◌, ◌++◌, ◌==◌, List, [], ◌∷◌, true, not, refl, sym, subst}
use Rattle.std.specs.List.{list_all}
use Rattle.std.specs.Prelude.{Bool}
use Rattle.std.proofs.lemmas.Bool.{and_from, and_parts, eq-eqb}

-- the byte isn't in the text
abbrev pub lacks : ℕ → List ℕ → Bool
lacks c text = list_all (λ b. not (b == c)) text

pub head_same : (x y : ℕ) (xs ys : List ℕ) → x ∷ xs ≡ y ∷ ys → x ≡ y
head_same x y xs ys e = cc

pub tail_same : (x y : ℕ) (xs ys : List ℕ) → x ∷ xs ≡ y ∷ ys → xs ≡ ys
tail_same x y xs ys e = cc

none_left : (x : ℕ) (xs : List ℕ) → [] ≡ x ∷ xs → ⊥
none_left x xs e = absurd (cc)

longer : (x y : ℕ) (xs ys : List ℕ) → x ≡ y → xs ≡ ys → x ∷ xs ≡ y ∷ ys
longer x y xs ys e f = cc

-- a text that begins with the byte has it
begins : (c y : ℕ) (ys : List ℕ) → y ≡ c → lacks c (y ∷ ys) ≡ true → ⊥
begins c y ys same h =
    let clash : not true ≡ true = subst (λ b. not b ≡ true) (eq-eqb y c same) (and_parts _ _ h).0 in
    absurd (cc)

-- texts are equal before and behind the first of the byte
pub cut : (c : ℕ) (xs ys r s : List ℕ) → lacks c xs ≡ true → lacks c ys ≡ true → xs ++ c ∷ r ≡ ys ++ c ∷ s → (xs ≡ ys) × (r ≡ s)
cut c [] [] r s h g e = (refl, tail_same c c r s e)
cut c [] (y ∷ ys) r s h g e = absurd (begins c y ys (sym (head_same c y r (ys ++ c ∷ s) e)) g)
cut c (x ∷ xs) [] r s h g e = absurd (begins c x xs (head_same x c (xs ++ c ∷ r) s e) h)
cut c (x ∷ xs) (y ∷ ys) r s h g e =
    let later = cut c xs ys r s (and_parts _ _ h).1 (and_parts _ _ g).1 (tail_same x y (xs ++ c ∷ r) (ys ++ c ∷ s) e) in
    (longer x y xs ys (head_same x y (xs ++ c ∷ r) (ys ++ c ∷ s) e) later.0, later.1)

pub lacks_append : (c : ℕ) (xs ys : List ℕ) → lacks c xs ≡ true → lacks c ys ≡ true → lacks c (xs ++ ys) ≡ true
lacks_append c [] ys h g = g
lacks_append c (x ∷ xs) ys h g = let p = and_parts _ _ h in and_from _ _ p.0 (lacks_append c xs ys p.1 g)
