-- The segments of a text that has a slash, and of one that has none.
use Rattle.std.proofs.Common.{◌≡◌, ℕ, ◌+◌, ◌<◌, ◌==◌, List, [], ◌∷◌, Bool, true, false, length, take, drop, refl, ap, arith, suc}
use Rattle.std.specs.List.{after_first, before_first, position_or_len, slice_split}
use Rattle.api_routes.specs.Paths.{segments}

take_one : (n : ℕ) (x : ℕ) (xs : List ℕ) → take (1 + n) (x ∷ xs) ≡ x ∷ take n xs
take_one n x xs =
    let same : 1 + n ≡ suc n = omega arith in
    ap (λ (k : ℕ). take k (x ∷ xs)) same

drop_one : (n : ℕ) (x : ℕ) (xs : List ℕ) → drop (1 + n + 1) (x ∷ xs) ≡ drop (n + 1) xs
drop_one n x xs =
    let same : 1 + n + 1 ≡ suc (n + 1) = omega arith in
    ap (λ (k : ℕ). drop k (x ∷ xs)) same

split_by : (p : ℕ → Bool) (x : ℕ) (xs : List ℕ) (b : Bool) → p x ≡ b
    → (position_or_len p xs < length xs → slice_split p xs ≡ before_first p xs ∷ slice_split p (after_first p xs))
    → position_or_len p (x ∷ xs) < length (x ∷ xs)
    → slice_split p (x ∷ xs) ≡ before_first p (x ∷ xs) ∷ slice_split p (after_first p (x ∷ xs))
split_by p x xs true e later h = rw e refl
split_by p x xs false e later h =
    let within : 1 + position_or_len p xs < suc (length xs) = rw e at h in
    let parts = later (omega (arith, within)) in
    rw (e, parts, take_one (position_or_len p xs) x xs, drop_one (position_or_len p xs) x xs) refl

split_at : (p : ℕ → Bool) (s : List ℕ) → position_or_len p s < length s → slice_split p s ≡ before_first p s ∷ slice_split p (after_first p s)
split_at p [] h = absurd (omega (arith, h))
split_at p (x ∷ xs) h = split_by p x xs (p x) refl (split_at p xs) h

pub split_first : (s first rest : List ℕ) → first ≡ before_first (λ b. b == 47) s → rest ≡ after_first (λ b. b == 47) s
    → position_or_len (λ b. b == 47) s < length s → segments s ≡ first ∷ segments rest
unfolding segments
split_first s first rest first_is rest_is within = rw (first_is, rest_is) (split_at (λ b. b == 47) s within)

none_by : (p : ℕ → Bool) (x : ℕ) (xs : List ℕ) (b : Bool) → p x ≡ b → (position_or_len p xs ≡ length xs → slice_split p xs ≡ xs ∷ [])
    → position_or_len p (x ∷ xs) ≡ length (x ∷ xs) → slice_split p (x ∷ xs) ≡ (x ∷ xs) ∷ []
none_by p x xs true e later h =
    let none : 0 ≡ suc (length xs) = rw e at h in
    absurd (omega (arith, none))
none_by p x xs false e later h =
    let within : 1 + position_or_len p xs ≡ suc (length xs) = rw e at h in
    let parts = later (omega (arith, within)) in
    rw (e, parts) refl

none_at : (p : ℕ → Bool) (s : List ℕ) → position_or_len p s ≡ length s → slice_split p s ≡ s ∷ []
none_at p [] h = refl
none_at p (x ∷ xs) h = none_by p x xs (p x) refl (none_at p xs) h

pub split_none : (s : List ℕ) → position_or_len (λ b. b == 47) s ≡ length s → segments s ≡ s ∷ []
unfolding segments
split_none s h = none_at (λ b. b == 47) s h
