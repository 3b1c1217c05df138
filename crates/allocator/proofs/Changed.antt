-- A list of which one element after another is changed.
use Rattle.std.proofs.Common.{ℕ, suc, ◌+◌, ◌<◌, ◌≡◌, List, [], ◌∷◌, ◌++◌, length, take, drop, get_or, sym, ap, ◌∙◌, arith}
use Rattle.std.proofs.Math.ListN.{set}
use Rattle.std.proofs.Math.Seq.{drop-cons}
use Rattle.std.proofs.lemmas.List.{drop-set-lt, length-set, take_more, take_more_set}

tails : {X : Type 0} (a b : X) (xs ys : List X) → a ∷ xs ≡ b ∷ ys → (a ≡ b) × (xs ≡ ys)
tails a b xs ys e = (cc, cc)

both_there : {X : Type 0} (old now : List X) (i : ℕ) (a : X) → i < length old → length now ≡ length old → drop i now ≡ drop i old → (get_or now i a ≡ get_or old i a) × (drop (suc i) now ≡ drop (suc i) old)
both_there old now i a h n e =
    let k : i < length now = omega (arith, h, n) in
    tails (get_or now i a) (get_or old i a) (drop (suc i) now) (drop (suc i) old) (sym (drop-cons now i a k) ∙ e ∙ drop-cons old i a h)

-- the element that is there now was there
pub was_there : {X : Type 0} (old now : List X) (i : ℕ) (a : X) → i < length old → length now ≡ length old → drop i now ≡ drop i old → a ≡ get_or now i a → a ≡ get_or old i a
was_there old now i a h n e f = f ∙ (both_there old now i a h n e).0

pub rest_same : {X : Type 0} (old now : List X) (i : ℕ) (b : X) → i < length old → length now ≡ length old → drop i now ≡ drop i old → drop (i + 1) (set now i b) ≡ drop (i + 1) old
rest_same old now i b h n e =
    let k : suc i ≡ i + 1 = omega arith in
    drop-set-lt (i + 1) now i b (omega arith) ∙ ap (λ (j : ℕ). drop j now) (sym k) ∙ (both_there old now i b h n e).1 ∙ ap (λ (j : ℕ). drop j old) k

pub still_many : {X : Type 0} (old now : List X) (i : ℕ) (b : X) → length now ≡ length old → length (set now i b) ≡ length old
still_many old now i b n = length-set now i b ∙ n

pub prefix_old : {X : Type 0} (old : List X) (i : ℕ) (a : X) → i < length old → a ≡ get_or old i a → take (i + 1) old ≡ take i old ++ a ∷ []
prefix_old {X} old i a h e = take_more old i a h ∙ ap (λ (z : X). take i old ++ z ∷ []) (sym e)

pub prefix_new : {X : Type 0} (now : List X) (i : ℕ) (b : X) → i < length now → take (i + 1) (set now i b) ≡ take i now ++ b ∷ []
prefix_new now i b h = take_more_set now i b h
