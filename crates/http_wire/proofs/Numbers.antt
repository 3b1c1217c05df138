-- The number of digits, as far as it matters.
use Rattle.std.proofs.Common.{ℕ, suc, ◌+◌, ◌-◌, ◌*◌, ◌≤◌, ◌<◌, ◌≡◌, ◌∙◌, ◌⊎◌, inl, inr, min, List, [], ◌∷◌, length, drop, get_or, sym, ap, arith}
use Rattle.std.proofs.Math.Nat.{min-eq_left, min-eq_right}
use Rattle.std.proofs.Math.Seq.{drop-cons}
use Rattle.std.proofs.lemmas.Bool.{cases_lt}
use Rattle.http_wire.specs.Fields.{number_after}

pub after_ge : (n : ℕ) (digits : List ℕ) → n ≤ number_after n digits
after_ge n [] = omega arith
after_ge n (b ∷ bs) = omega (arith, after_ge (n * 10 + (b - 48)) bs)

within_by : (m k : ℕ) (bs : List ℕ) → (k < m) ⊎ (m ≤ k) → min (number_after (min k m) bs) m ≡ min (number_after k bs) m
within_by m k bs (inl h) = ap (λ (j : ℕ). min (number_after j bs) m) (min-eq_left {n = k} {m = m} (omega arith))
within_by m k bs (inr h) =
    ap (λ (j : ℕ). min (number_after j bs) m) (min-eq_right {n = m} {m = k} h)
    ∙ min-eq_right {n = m} {m = number_after m bs} (after_ge m bs)
    ∙ sym (min-eq_right {n = m} {m = number_after k bs} (omega (arith, h, after_ge k bs)))

step : (most n b m : ℕ) (bs : List ℕ) → m ≡ min (n * 10 + (b - 48)) most → min (number_after m bs) most ≡ min (number_after n (b ∷ bs)) most
step most n b m bs e = ap (λ (j : ℕ). min (number_after j bs) most) e ∙ within_by most (n * 10 + (b - 48)) bs (cases_lt (n * 10 + (b - 48)) most)

pub number_goes : (most : ℕ) (digits : List ℕ) (i n m : ℕ) → i < length digits → m ≡ min (n * 10 + (get_or digits i 0 - 48)) most → min (number_after m (drop (i + 1) digits)) most ≡ min (number_after n (drop i digits)) most
number_goes most digits i n m h e =
    let s : i + 1 ≡ suc i = omega arith in
    ap (λ (k : ℕ). min (number_after m (drop k digits)) most) s
    ∙ step most n (get_or digits i 0) m (drop (suc i) digits) e
    ∙ ap (λ (l : List ℕ). min (number_after n l) most) (sym (drop-cons digits i 0 h))
