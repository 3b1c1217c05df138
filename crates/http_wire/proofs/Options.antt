-- The options of a value between commas.
use Rattle.std.proofs.Common.{ℕ, suc, ◌+◌, ◌-◌, ◌<◌, ◌≡◌, ◌∙◌, Bool, true, false, cond, not, ◌||◌, eqb, List, [], ◌∷◌, length, take, drop, refl, sym, ap, arith}
use Rattle.std.specs.List.{list_any, onto_first, position_or_len, slice_split}
use Rattle.std.proofs.lemmas.List.{take_all, length-drop}
use Rattle.std.proofs.lemmas.List.Splits.{slice_split-cons_yes, slice_split-cons_no, slice_split_first}
use Rattle.std.proofs.lemmas.Grind.{common_steps}
use Rattle.http_wire.specs.Fields.{is_close}

abbrev pub comma : ℕ → Bool
comma b = eqb b 44

one_turn : (x : ℕ) (xs : List ℕ) (t : Bool) → eqb x 44 ≡ t → (position_or_len comma xs ≡ length xs → slice_split comma xs ≡ xs ∷ [])
    → cond (not t) (1 + position_or_len comma xs) 0 ≡ suc (length xs) → slice_split comma (x ∷ xs) ≡ (x ∷ xs) ∷ []
one_turn x xs true e h s = absurd (omega (arith, s))
one_turn x xs false e h s = slice_split-cons_no comma x xs e ∙ ap (onto_first x) (h (omega (arith, s)))

-- without a comma there is one option
pub one_option : (xs : List ℕ) → position_or_len comma xs ≡ length xs → slice_split comma xs ≡ xs ∷ []
one_option [] e = refl
one_option (x ∷ xs) e = one_turn x xs (eqb x 44) refl (one_option xs) e

first_turn : (x : ℕ) (xs : List ℕ) (t : Bool) → eqb x 44 ≡ t → ((others : List (List ℕ)) × (slice_split comma xs ≡ take (position_or_len comma xs) xs ∷ others))
    → (others : List (List ℕ)) × (slice_split comma (x ∷ xs) ≡ take (cond (not t) (1 + position_or_len comma xs) 0) (x ∷ xs) ∷ others)
first_turn x xs true e h = (slice_split comma xs, slice_split-cons_yes comma x xs e)
first_turn x xs false e h =
    let s : 1 + position_or_len comma xs ≡ suc (position_or_len comma xs) = omega arith in
    (h.0, slice_split-cons_no comma x xs e ∙ ap (onto_first x) h.1 ∙ ap (λ (k : ℕ). take k (x ∷ xs) ∷ h.0) (sym s))

-- the first option comes before the first comma
pub first_option : (xs : List ℕ) → (others : List (List ℕ)) × (slice_split comma xs ≡ take (position_or_len comma xs) xs ∷ others)
first_option [] = ([], refl)
first_option (x ∷ xs) = first_turn x xs (eqb x 44) refl (first_option xs)

pub found_close : (value rest : List ℕ) (start n : ℕ) (r : Bool) → rest ≡ drop start value → n ≡ position_or_len comma rest → r ≡ is_close (take n rest) → r ≡ true
    → list_any is_close (slice_split comma (drop start value)) ≡ list_any is_close (slice_split comma value) → true ≡ list_any is_close (slice_split comma value)
found_close value rest start n r e at is said inv =
    let f = first_option rest in
    let first : is_close (take (position_or_len comma rest) rest) ≡ true = ap (λ (k : ℕ). is_close (take k rest)) (sym at) ∙ sym is ∙ said in
    sym (ap (λ (b : Bool). b || list_any is_close f.0) first) ∙ sym (ap (list_any is_close) f.1) ∙ ap (λ (l : List ℕ). list_any is_close (slice_split comma l)) e ∙ inv

pub no_close : (value rest : List ℕ) (start n : ℕ) (r : Bool) → rest ≡ drop start value → n ≡ position_or_len comma rest → r ≡ is_close (take n rest) → r ≡ false → n ≡ length rest
    → list_any is_close (slice_split comma (drop start value)) ≡ list_any is_close (slice_split comma value) → false ≡ list_any is_close (slice_split comma value)
no_close value rest start n r e at is denied end inv =
    let whole : take n rest ≡ rest = take_all n rest (omega (arith, end)) in
    let last : is_close rest ≡ false = ap is_close (sym whole) ∙ sym is ∙ denied in
    sym (ap (λ (b : Bool). b || false) last) ∙ sym (ap (list_any is_close) (one_option rest (sym at ∙ end))) ∙ ap (λ (l : List ℕ). list_any is_close (slice_split comma l)) e ∙ inv

drop_more : (m n : ℕ) (xs : List ℕ) → drop n (drop m xs) ≡ drop (m + n) xs
drop_more m n xs = grind (arith, common_steps)

pub next_close : (value rest : List ℕ) (start n : ℕ) (r : Bool) → rest ≡ drop start value → n ≡ position_or_len comma rest → r ≡ is_close (take n rest) → r ≡ false → n < length rest
    → list_any is_close (slice_split comma (drop start value)) ≡ list_any is_close (slice_split comma value)
    → list_any is_close (slice_split comma (drop (start + (n + 1)) value)) ≡ list_any is_close (slice_split comma value)
next_close value rest start n r e at is denied small inv =
    let here : is_close (take (position_or_len comma rest) rest) ≡ false = ap (λ (k : ℕ). is_close (take k rest)) (sym at) ∙ sym is ∙ denied in
    ap (λ (l : List ℕ). list_any is_close (slice_split comma l)) (sym (drop_more start (n + 1) value) ∙ ap (drop (n + 1)) (sym e))
    ∙ ap (λ (k : ℕ). list_any is_close (slice_split comma (drop (k + 1) rest))) at
    ∙ sym (ap (λ (b : Bool). b || list_any is_close (slice_split comma (drop (position_or_len comma rest + 1) rest))) here)
    ∙ sym (ap (list_any is_close) (slice_split_first comma rest 0 (omega (arith, small, at))))
    ∙ ap (λ (l : List ℕ). list_any is_close (slice_split comma l)) e ∙ inv

pub rest_is : (value : List ℕ) (start : ℕ) → take (length value - start) (drop start value) ≡ drop start value
rest_is value start = take_all (length value - start) (drop start value) (omega (arith, length-drop start value))
