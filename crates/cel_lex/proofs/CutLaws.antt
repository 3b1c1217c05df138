-- The bytes of a token.
use Rattle.std.proofs.Common.{◌≡◌, ℕ, zero, suc, ◌+◌, ◌<◌, ◌≤◌, Bool, true, false, List, [], ◌∷◌, drop, length, get_or, ◌&&◌, ◌==◌, ◌⊎◌, inl, inr, arith, refl, subst, Option, Some, None}
use Rattle.std.specs.List.{prefix_len}
use Rattle.std.specs.Char.{is_ascii_digit, is_ascii_hexdigit}
use Rattle.std.proofs.lemmas.List.{length-drop, drop-drop}
use Rattle.std.proofs.lemmas.Bool.Decides.{nat_tests}
use Rattle.cel_lex.proofs.Choices.{chosen, and-left, and-right}
use Rattle.cel_lex.proofs.Cuts.{IsCut, IsCut-run, IsCut-one, IsCut-behind, begins_some}
use Rattle.cel_lex.specs.Bytes.{begins, begins_with, is_word, is_word_start}
use Rattle.cel_lex.specs.Numbers.{begins_hex, fraction_len, sign_len, exponent_len, exponent_digits, exponent_mark, is_sign, unsigned_mark, behind_point, whole_form, decimal_form, number_form}
use Rattle.cel_lex.specs.declared.token.TokenKind.{TokenKind}
use Rattle.cel_lex.specs.declared.number.Form.{Form}
use Rattle.cel_lex.specs.Lexis.{begins_number, begins_signed, signed_form, is_int, word_form, mark_of, mark_form, longer, pair_of, single_of}

digit_ascii : (c : ℕ) → is_ascii_digit c ≡ true → c < 128
digit_ascii c e = grind (arith, nat_tests)

hex_ascii : (c : ℕ) → is_ascii_hexdigit c ≡ true → c < 128
hex_ascii c e = grind (arith, nat_tests)

word_ascii : (c : ℕ) → is_word c ≡ true → c < 128
unfolding is_word
word_ascii c e = grind (arith, nat_tests)

mark_ascii : (a c : ℕ) → a < 128 → (c == a) ≡ true → c < 128
mark_ascii a c small e = grind (arith, nat_tests)

unsigned_ascii : (c : ℕ) → unsigned_mark c ≡ true → c < 128
unsigned_ascii c e = grind (arith, nat_tests)

exponent_ascii : (c : ℕ) → exponent_mark c ≡ true → c < 128
exponent_ascii c e = grind (arith, nat_tests)

sign_ascii : (c : ℕ) → is_sign c ≡ true → c < 128
sign_ascii c e = grind (arith, nat_tests)

word_starts : (c : ℕ) → is_word_start c ≡ true → is_word c ≡ true
unfolding is_word is_word_start
word_starts c e = grind (arith, nat_tests)

-- a prefix of n bytes, if any, of which the last is ASCII
abbrev pub IsCutOrNone : List ℕ → ℕ → Type 0
IsCutOrNone bs n = (n ≡ 0) ⊎ IsCut bs n

no_run : (p : ℕ → Bool) (bs : List ℕ) → begins p bs ≡ false → prefix_len p bs ≡ 0
no_run p [] h = refl
no_run p (c ∷ cs) h = rw h refl

run_cut : (p : ℕ → Bool) (bs : List ℕ) → ((x : ℕ) → p x ≡ true → x < 128) → IsCutOrNone bs (prefix_len p bs)
run_cut p bs ascii = by_test (begins p bs) refl
  where
    by_test : (b : Bool) → begins p bs ≡ b → IsCutOrNone bs (prefix_len p bs)
    by_test true e = inr (IsCut-run p bs ascii e)
    by_test false e = inl (no_run p bs e)

fraction_cut : (bs : List ℕ) → IsCutOrNone bs (fraction_len bs)
fraction_cut bs = by_test (begins_with 46 bs && begins is_ascii_digit (drop 1 bs)) refl
  where
    by_test : (b : Bool) → (begins_with 46 bs && begins is_ascii_digit (drop 1 bs)) ≡ b → IsCutOrNone bs (fraction_len bs)
    by_test true e = rw e (inr (IsCut-behind bs 1 _ (begins_some _ bs (and-left _ _ e)) (IsCut-run is_ascii_digit (drop 1 bs) digit_ascii (and-right _ _ e))))
    by_test false e = rw e (inl refl)

digits_cut : (before : ℕ) (bs : List ℕ) → before ≤ length bs → IsCutOrNone bs (exponent_digits before (drop before bs))
digits_cut before bs h = by_test (begins is_ascii_digit (drop before bs)) refl
  where
    by_test : (b : Bool) → begins is_ascii_digit (drop before bs) ≡ b → IsCutOrNone bs (exponent_digits before (drop before bs))
    by_test true e = rw e (inr (IsCut-behind bs before _ h (IsCut-run is_ascii_digit (drop before bs) digit_ascii e)))
    by_test false e = rw e (inl refl)

sign_within : (bs : List ℕ) → sign_len bs ≤ length bs
sign_within bs = by_test (begins is_sign bs) refl
  where
    by_test : (b : Bool) → begins is_sign bs ≡ b → sign_len bs ≤ length bs
    by_test true e = rw e (begins_some is_sign bs e)
    by_test false e = rw e (omega arith)

exponent_cut : (bs : List ℕ) → IsCutOrNone bs (exponent_len bs)
exponent_cut [] = inl refl
exponent_cut (c ∷ cs) = by_test (exponent_mark c) refl
  where
    by_test : (b : Bool) → exponent_mark c ≡ b → IsCutOrNone (c ∷ cs) (exponent_len (c ∷ cs))
    by_test true e =
        let there : drop (sign_len cs) cs ≡ drop (1 + sign_len cs) (c ∷ cs) = drop-drop (sign_len cs) 1 (c ∷ cs) in
        rw (e, there) (digits_cut (1 + sign_len cs) (c ∷ cs) (omega (arith, sign_within cs)))
    by_test false e = rw e (inl refl)

joined : (bs : List ℕ) (n m : ℕ) → IsCutOrNone bs n → IsCutOrNone (drop n bs) m → IsCutOrNone bs (n + m)
joined bs n m (inl x) (inl y) = inl (omega arith)
joined bs n m (inl x) (inr y) = inr (IsCut-behind bs n m (omega arith) y)
joined bs n m (inr x) (inl y) = let same : n ≡ n + m = omega arith in inr (subst (IsCut bs) same x)
joined bs n m (inr x) (inr y) = inr (IsCut-behind bs n m x.within y)

behind_cut : (bs : List ℕ) → IsCutOrNone bs (behind_point bs)
behind_cut bs = joined bs (fraction_len bs) (exponent_len (drop (fraction_len bs) bs)) (fraction_cut bs) (exponent_cut (drop (fraction_len bs) bs))

whole_cut : (bs : List ℕ) (n : ℕ) → IsCut bs n → IsCut bs (whole_form n (drop n bs)).len
whole_cut bs n h = by_test (begins unsigned_mark (drop n bs)) refl
  where
    by_test : (b : Bool) → begins unsigned_mark (drop n bs) ≡ b → IsCut bs (whole_form n (drop n bs)).len
    by_test true e = rw e (IsCut-behind bs n 1 h.within (IsCut-one unsigned_mark (drop n bs) unsigned_ascii e))
    by_test false e = rw e h

taken_cut : (bs : List ℕ) (n : ℕ) → 0 < n → IsCutOrNone bs n → IsCut bs n
taken_cut bs n some (inl x) = absurd (omega arith)
taken_cut bs n some (inr x) = x

decimal_cut : (bs : List ℕ) (n m : ℕ) → 0 < n + m → IsCutOrNone bs n → IsCutOrNone (drop n bs) m → IsCut bs (decimal_form n m (drop n bs)).len
decimal_cut bs n zero some x y = whole_cut bs n (taken_cut bs n (omega arith) x)
decimal_cut bs n (suc m) some x y = taken_cut bs (n + suc m) some (joined bs n (suc m) x y)

fraction_some : (bs : List ℕ) → (begins_with 46 bs && begins is_ascii_digit (drop 1 bs)) ≡ true → 0 < fraction_len bs
fraction_some bs e = rw e (omega arith)

number_some : (bs : List ℕ) → begins_number bs ≡ true → 0 < prefix_len is_ascii_digit bs + behind_point (drop (prefix_len is_ascii_digit bs) bs)
number_some bs h = by_test (begins is_ascii_digit bs) refl h
  where
    by_test : (b : Bool) → begins is_ascii_digit bs ≡ b → begins_number bs ≡ true → 0 < prefix_len is_ascii_digit bs + behind_point (drop (prefix_len is_ascii_digit bs) bs)
    by_test true e h2 = omega (arith, (IsCut-run is_ascii_digit bs digit_ascii e).some)
    by_test false e h2 =
        let point : (begins_with 46 bs && begins is_ascii_digit (drop 1 bs)) ≡ true = rw e at h2 in
        rw (no_run is_ascii_digit bs e) (omega (arith, fraction_some bs point))

pub number_cut : (bs : List ℕ) → begins_number bs ≡ true → IsCut bs (number_form bs).len
unfolding number_form
number_cut bs h = by_test (begins_hex bs) refl
  where
    by_test : (b : Bool) → begins_hex bs ≡ b → IsCut bs (number_form bs).len
    by_test true e =
        let digit = and-right _ _ e in
        let some = begins_some is_ascii_hexdigit (drop 2 bs) digit in
        rw e (whole_cut bs _ (IsCut-behind bs 2 _ (omega (arith, some, length-drop 2 bs)) (IsCut-run is_ascii_hexdigit (drop 2 bs) hex_ascii digit)))
    by_test false e = rw e (decimal_cut bs (prefix_len is_ascii_digit bs) _ (number_some bs h) (run_cut is_ascii_digit bs digit_ascii) (behind_cut (drop (prefix_len is_ascii_digit bs) bs)))

begins_word : (bs : List ℕ) → begins is_word_start bs ≡ true → begins is_word bs ≡ true
begins_word [] h = cc
begins_word (c ∷ cs) h = word_starts c h

pub word_cut : (bs : List ℕ) → begins is_word_start bs ≡ true → IsCut bs (word_form bs).len
unfolding word_form
word_cut bs h = IsCut-run is_word bs word_ascii (begins_word bs h)

pub signed_cut : (bs : List ℕ) → begins_signed bs ≡ true → IsCut bs (signed_form (number_form (drop 1 bs))).len
signed_cut bs h = by_kind (is_int (number_form (drop 1 bs)).kind) refl
  where
    number : begins_number (drop 1 bs) ≡ true
    number = let digit : begins is_ascii_digit (drop 1 bs) ≡ true = and-right (begins_with 45 bs) (begins is_ascii_digit (drop 1 bs)) h in rw digit refl

    by_kind : (b : Bool) → is_int (number_form (drop 1 bs)).kind ≡ b → IsCut bs (signed_form (number_form (drop 1 bs))).len
    by_kind true e = rw e (IsCut-behind bs 1 _ (begins_some _ bs (and-left _ _ h)) (number_cut (drop 1 bs) number))
    by_kind false e = rw e (IsCut-one (λ c. c == 45) bs (λ c. mark_ascii 45 c (omega arith)) (and-left _ _ h))

single_ascii : (c : ℕ) (k : TokenKind) → single_of c ≡ Some k → c < 128
single_ascii c k h = chosen (c == 33) _ _ (Some k) (λ t _. mark_ascii 33 c (omega arith) t) (λ _ r0. chosen (c == 60) _ _ (Some k) (λ t _. mark_ascii 60 c (omega arith) t) (λ _ r1. chosen (c == 62) _ _ (Some k) (λ t _. mark_ascii 62 c (omega arith) t) (λ _ r2. chosen (c == 43) _ _ (Some k) (λ t _. mark_ascii 43 c (omega arith) t) (λ _ r3. chosen (c == 45) _ _ (Some k) (λ t _. mark_ascii 45 c (omega arith) t) (λ _ r4. chosen (c == 42) _ _ (Some k) (λ t _. mark_ascii 42 c (omega arith) t) (λ _ r5. chosen (c == 47) _ _ (Some k) (λ t _. mark_ascii 47 c (omega arith) t) (λ _ r6. chosen (c == 37) _ _ (Some k) (λ t _. mark_ascii 37 c (omega arith) t) (λ _ r7. chosen (c == 40) _ _ (Some k) (λ t _. mark_ascii 40 c (omega arith) t) (λ _ r8. chosen (c == 41) _ _ (Some k) (λ t _. mark_ascii 41 c (omega arith) t) (λ _ r9. chosen (c == 91) _ _ (Some k) (λ t _. mark_ascii 91 c (omega arith) t) (λ _ r10. chosen (c == 93) _ _ (Some k) (λ t _. mark_ascii 93 c (omega arith) t) (λ _ r11. chosen (c == 123) _ _ (Some k) (λ t _. mark_ascii 123 c (omega arith) t) (λ _ r12. chosen (c == 125) _ _ (Some k) (λ t _. mark_ascii 125 c (omega arith) t) (λ _ r13. chosen (c == 44) _ _ (Some k) (λ t _. mark_ascii 44 c (omega arith) t) (λ _ r14. chosen (c == 46) _ _ (Some k) (λ t _. mark_ascii 46 c (omega arith) t) (λ _ r15. chosen (c == 58) _ _ (Some k) (λ t _. mark_ascii 58 c (omega arith) t) (λ _ r16. chosen (c == 63) _ _ (Some k) (λ t _. mark_ascii 63 c (omega arith) t) (λ _ r17. cc) r16) r15) r14) r13) r12) r11) r10) r9) r8) r7) r6) r5) r4) r3) r2) r1) r0) h

pair_first : (c d : ℕ) (k : TokenKind) → pair_of c d ≡ Some k → c < 128
pair_first c d k h = chosen (c == 124 && d == 124) _ _ (Some k) (λ t _. mark_ascii 124 c (omega arith) (and-left _ _ t)) (λ _ r0. chosen (c == 38 && d == 38) _ _ (Some k) (λ t _. mark_ascii 38 c (omega arith) (and-left _ _ t)) (λ _ r1. chosen (c == 61 && d == 61) _ _ (Some k) (λ t _. mark_ascii 61 c (omega arith) (and-left _ _ t)) (λ _ r2. chosen (c == 33 && d == 61) _ _ (Some k) (λ t _. mark_ascii 33 c (omega arith) (and-left _ _ t)) (λ _ r3. chosen (c == 60 && d == 61) _ _ (Some k) (λ t _. mark_ascii 60 c (omega arith) (and-left _ _ t)) (λ _ r4. chosen (c == 62 && d == 61) _ _ (Some k) (λ t _. mark_ascii 62 c (omega arith) (and-left _ _ t)) (λ _ r5. cc) r4) r3) r2) r1) r0) h

pair_ascii : (c d : ℕ) (k : TokenKind) → pair_of c d ≡ Some k → d < 128
pair_ascii c d k h = chosen (c == 124 && d == 124) _ _ (Some k) (λ t _. mark_ascii 124 d (omega arith) (and-right _ _ t)) (λ _ r0. chosen (c == 38 && d == 38) _ _ (Some k) (λ t _. mark_ascii 38 d (omega arith) (and-right _ _ t)) (λ _ r1. chosen (c == 61 && d == 61) _ _ (Some k) (λ t _. mark_ascii 61 d (omega arith) (and-right _ _ t)) (λ _ r2. chosen (c == 33 && d == 61) _ _ (Some k) (λ t _. mark_ascii 61 d (omega arith) (and-right _ _ t)) (λ _ r3. chosen (c == 60 && d == 61) _ _ (Some k) (λ t _. mark_ascii 61 d (omega arith) (and-right _ _ t)) (λ _ r4. chosen (c == 62 && d == 61) _ _ (Some k) (λ t _. mark_ascii 61 d (omega arith) (and-right _ _ t)) (λ _ r5. cc) r4) r3) r2) r1) r0) h

one_cut : (c : ℕ) (cs : List ℕ) (f : Form) (k : Option TokenKind) → single_of c ≡ k → mark_form 1 k ≡ Some f → IsCut (c ∷ cs) f.len
one_cut c cs f None h q = cc
one_cut c cs f (Some k) h q = let len : f.len ≡ 1 = cc in rw len (record { some = omega arith; within = omega arith; last = single_ascii c k h })

two_cut : (c d : ℕ) (cs : List ℕ) (f : Form) (k : Option TokenKind) → pair_of c d ≡ k → longer k (mark_form 1 (single_of c)) ≡ Some f → IsCut (c ∷ d ∷ cs) f.len
two_cut c d cs f None h q = one_cut c (d ∷ cs) f (single_of c) refl q
two_cut c d cs f (Some k) h q = let len : f.len ≡ 2 = cc in rw len (record { some = omega arith; within = omega arith; last = pair_ascii c d k h })

pub mark_cut : (bs : List ℕ) (f : Form) → mark_of bs ≡ Some f → IsCut bs f.len
unfolding mark_of
mark_cut [] f h = cc
mark_cut (c ∷ []) f h = one_cut c [] f (single_of c) refl h
mark_cut (c ∷ d ∷ cs) f h = two_cut c d cs f (pair_of c d) refl h

-- the first byte of a token is ASCII
pub begins_ascii : (p : ℕ → Bool) (bs : List ℕ) → ((x : ℕ) → p x ≡ true → x < 128) → begins p bs ≡ true → get_or bs 0 0 < 128
begins_ascii p [] ascii h = cc
begins_ascii p (c ∷ cs) ascii h = ascii c h

one_first : (c : ℕ) (f : Form) (k : Option TokenKind) → single_of c ≡ k → mark_form 1 k ≡ Some f → c < 128
one_first c f None h q = cc
one_first c f (Some k) h q = single_ascii c k h

two_first : (c d : ℕ) (f : Form) (k : Option TokenKind) → pair_of c d ≡ k → longer k (mark_form 1 (single_of c)) ≡ Some f → c < 128
two_first c d f None h q = one_first c f (single_of c) refl q
two_first c d f (Some k) h q = pair_first c d k h

pub mark_first : (bs : List ℕ) (f : Form) → mark_of bs ≡ Some f → get_or bs 0 0 < 128
unfolding mark_of
mark_first [] f h = cc
mark_first (c ∷ []) f h = one_first c f (single_of c) refl h
mark_first (c ∷ d ∷ cs) f h = two_first c d f (pair_of c d) refl h

pub word_first : (bs : List ℕ) → begins is_word_start bs ≡ true → get_or bs 0 0 < 128
word_first bs h = begins_ascii is_word bs word_ascii (begins_word bs h)

pub number_first : (bs : List ℕ) → begins_number bs ≡ true → get_or bs 0 0 < 128
number_first bs h = by_test (begins is_ascii_digit bs) refl h
  where
    by_test : (b : Bool) → begins is_ascii_digit bs ≡ b → begins_number bs ≡ true → get_or bs 0 0 < 128
    by_test true e h2 = begins_ascii is_ascii_digit bs digit_ascii e
    by_test false e h2 =
        let point : (begins_with 46 bs && begins is_ascii_digit (drop 1 bs)) ≡ true = rw e at h2 in
        begins_ascii (λ c. c == 46) bs (λ c. mark_ascii 46 c (omega arith)) (and-left _ _ point)

pub signed_first : (bs : List ℕ) → begins_signed bs ≡ true → get_or bs 0 0 < 128
signed_first bs h = begins_ascii (λ c. c == 45) bs (λ c. mark_ascii 45 c (omega arith)) (and-left _ _ h)
