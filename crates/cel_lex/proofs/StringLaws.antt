-- Where strings end and what they spell.
use Rattle.std.proofs.Common.{◌≡◌, ℕ, zero, suc, ◌+◌, ◌-◌, ◌<◌, ◌≤◌, Bool, true, false, List, [], ◌∷◌, drop, take, length, get_or, if◌then◌else◌, ◌&&◌, ◌||◌, ◌==◌, not, nat_le, arith, refl, sym, ap, ◌∙◌, subst, Option, Some, None, Ok, Err}
use Rattle.std.specs.List.{list_all}
use Rattle.std.specs.Char.{is_digit}
use Rattle.std.specs.Str.Parse.{digits_value}
use Rattle.std.proofs.lemmas.List.{length-drop, length-take, drop-drop, get_or-take, get_or-drop}
use Rattle.std.proofs.lemmas.List.Folds.{list_all_at}
use Rattle.std.proofs.lemmas.Bool.Decides.{nat_tests}
use Rattle.cel_lex.proofs.Choices.{chosen, and-left, and-right}
use Rattle.cel_lex.proofs.Cuts.{IsCut}
use Rattle.cel_lex.specs.Bytes.{begins_with, is_line_end}
use Rattle.cel_lex.specs.Numbers.{number_of}
use Rattle.cel_lex.specs.Strings.{string_end, part_of, count_of, closes, escape_of, named, coded, coded_escape, scalar_escape, named_or, part_of_escape, spells}
use Rattle.cel_lex.specs.declared.quotes.Quotes.{Quotes}
use Rattle.cel_lex.specs.declared.escape.Escape.{Escape}
use Rattle.cel_lex.specs.declared.part.Part.{Part}
use Rattle.cel_lex.specs.declared.part.Part.TheVariants.{Close, Plain, Escaped, Wrong, Cut}
use Rattle.cel_lex.specs.declared.token.LexError.TheVariants.{BadEscape, Unclosed}

-- an escape follows a backslash in these bytes, and its last byte is ASCII
pub record IsEscape (cs : List ℕ) (e : Escape) : Type 0 where
  pub some : 1 < e.len
  pub within : e.len ≤ 1 + length cs
  pub last : get_or cs (e.len - 2) 0 < 128

named_ascii : (c x : ℕ) → named c ≡ Some x → c < 128
named_ascii c x h = grind (arith, nat_tests)

digit_ascii : (radix c : ℕ) → radix ≤ 36 → is_digit c radix ≡ true → c < 128
digit_ascii radix c h e = grind (arith, nat_tests)

passes_at : (p : ℕ → Bool) (xs : List ℕ) (i : ℕ) (b : Bool) → p (get_or xs i 0) ≡ b → i < length xs → list_all p xs ≡ true → p (get_or xs i 0) ≡ true
passes_at p xs i true e h all = e
passes_at p xs i false e h all = let none = list_all_at p xs i 0 h e in cc

digits_pass : (radix n : ℕ) (ds : List ℕ) → number_of radix ds ≡ Some n → list_all (λ c. is_digit c radix) ds ≡ true
digits_pass radix n ds h = chosen _ (Some (digits_value radix ds)) None (Some n) (λ t _. and-left _ _ t) (λ _ e. cc) h

scalar_len : (len : ℕ) (e : Escape) (o : Option ℕ) → scalar_escape len o ≡ Some e → (n : ℕ) × (o ≡ Some n) × (e.len ≡ len)
scalar_len len e None h = cc
scalar_len len e (Some n) h = (n, refl, chosen _ (Some (record { character = n; len = len })) None (Some e) (λ _ q. cc) (λ _ q. cc) h)

-- what is known of an escape by its number
pub record IsCoded (count before : ℕ) (bs : List ℕ) (e : Escape) : Type 0 where
  pub len : e.len ≡ before + count
  pub within : count ≤ length bs
  pub last : get_or bs (count - 1) 0 < 128

coded_fits : (radix count before : ℕ) (bs : List ℕ) (e : Escape) → radix ≤ 36 → 0 < count → coded radix count before bs ≡ Some e → IsCoded count before bs e
coded_fits radix count before bs e r some h =
    chosen (nat_le count (length bs)) _ None (Some e)
    (λ t q.
    let within : count ≤ length bs = grind (arith, nat_tests) in
    let s = scalar_len (before + count) e (number_of radix (take count bs)) q in
    let all = digits_pass radix s.0 (take count bs) s.1 in
    let len : length (take count bs) ≡ count = simp length-take (omega arith) in
    let digit = passes_at (λ c. is_digit c radix) (take count bs) (count - 1) _ refl (omega arith) all in
    record {
      len = s.2;
      within = within;
      last = subst (λ (b : ℕ). b < 128) (get_or-take count bs (count - 1) 0 (omega arith)) (digit_ascii radix _ r digit);
    })
    (λ _ q. cc) h

from_letters : (c : ℕ) (cs : List ℕ) (e : Escape) (count : ℕ) → 0 < count → IsCoded count 2 cs e → IsEscape (c ∷ cs) e
from_letters c cs e zero h code = absurd (omega arith)
from_letters c cs e (suc k) h code =
    let at : e.len - 2 ≡ suc k = omega (arith, code.len) in
    let back : suc k - 1 ≡ k = omega arith in
    let last : get_or cs k 0 < 128 = subst (λ (i : ℕ). get_or cs i 0 < 128) back code.last in
    record { some = omega (arith, code.len); within = omega (arith, code.len, code.within); last = rw at last }

from_octal : (bs : List ℕ) (e : Escape) → IsCoded 3 1 bs e → IsEscape bs e
from_octal bs e code =
    let at : e.len - 2 ≡ 2 = omega (arith, code.len) in
    record { some = omega (arith, code.len); within = omega (arith, code.len, code.within); last = rw at code.last }

by_number : (c : ℕ) (cs : List ℕ) (e : Escape) → coded_escape c cs ≡ Some e → IsEscape (c ∷ cs) e
by_number c cs e h =
    chosen (c == 120 || c == 88) _ _ (Some e)
    (λ _ q. from_letters c cs e 2 (omega arith) (coded_fits 16 2 2 cs e (omega arith) (omega arith) q))
    (λ _ r. chosen (c == 117) _ _ (Some e)
    (λ _ q. from_letters c cs e 4 (omega arith) (coded_fits 16 4 2 cs e (omega arith) (omega arith) q))
    (λ _ r2. chosen (c == 85) _ _ (Some e)
    (λ _ q. from_letters c cs e 8 (omega arith) (coded_fits 16 8 2 cs e (omega arith) (omega arith) q))
    (λ _ r3. chosen (nat_le 48 c && nat_le c 51) _ None (Some e)
    (λ _ q. from_octal (c ∷ cs) e (coded_fits 8 3 1 (c ∷ cs) e (omega arith) (omega arith) q))
    (λ _ q. cc) r3) r2) r) h

by_name : (c : ℕ) (cs : List ℕ) (e : Escape) (n : Option ℕ) → named c ≡ n → named_or n (coded_escape c cs) ≡ Some e → IsEscape (c ∷ cs) e
by_name c cs e (Some x) h q =
    let len : e.len ≡ 2 = cc in
    record { some = omega arith; within = omega arith; last = rw len (named_ascii c x h) }
by_name c cs e None h q = by_number c cs e q

pub escape_fits : (cs : List ℕ) (e : Escape) → escape_of cs ≡ Some e → IsEscape cs e
unfolding escape_of
escape_fits [] e h = cc
escape_fits (c ∷ cs) e h = by_name c cs e (named c) refl h

-- bytes that belong to what was read are passed over
pub string_end-skip : (q : Quotes) (from at n : ℕ) (bs : List ℕ) → n ≤ length bs → string_end q from at n bs ≡ string_end q from (at + n) 0 (drop n bs)
string_end-skip q from at zero [] h = refl
string_end-skip q from at (suc n) [] h = absurd (omega arith)
string_end-skip q from at zero (c ∷ cs) h = let e : at + 0 ≡ at = omega arith in rw e refl
string_end-skip q from at (suc n) (c ∷ cs) h = let e : at + suc n ≡ at + 1 + n = omega arith in rw e (string_end-skip q from (at + 1) n cs (omega arith))

pub spells-skip : (q : Quotes) (n : ℕ) (bs : List ℕ) → spells q n bs ≡ spells q 0 (drop n bs)
spells-skip q zero bs = refl
spells-skip q (suc n) [] = refl
spells-skip q (suc n) (c ∷ cs) = spells-skip q n cs

-- what an escaped part implies of the bytes after its backslash
from_escape : (e : Escape) (cs : List ℕ) (o : Option Escape) → escape_of cs ≡ o → part_of_escape o ≡ Escaped e → IsEscape cs e
from_escape e cs None h q = cc
from_escape e cs (Some x) h q = let same : Some x ≡ Some e = cc in escape_fits cs e (h ∙ same)

pub escaped_fits : (q : Quotes) (bs : List ℕ) (e : Escape) → part_of q bs ≡ Escaped e → IsEscape (drop 1 bs) e
unfolding part_of
escaped_fits q [] e h = cc
escaped_fits q (c ∷ cs) e h =
    chosen (closes q (c ∷ cs)) Close _ (Escaped e)
    (λ _ r. cc)
    (λ _ r. chosen (not q.triple && is_line_end c) Cut _ (Escaped e)
    (λ _ r1. cc)
    (λ _ r1. chosen (c == 92 && not q.raw) _ Plain (Escaped e)
    (λ _ r2. from_escape e cs (escape_of cs) refl r2)
    (λ _ r2. cc) r1) r) h

pub closed_by : (q : Quotes) (bs : List ℕ) → part_of q bs ≡ Close → closes q bs ≡ true
unfolding part_of
closed_by q [] h = cc
closed_by q (c ∷ cs) h =
    chosen (closes q (c ∷ cs)) Close _ Close
    (λ t _. t)
    (λ _ r. chosen (not q.triple && is_line_end c) Cut _ Close
    (λ _ r1. cc)
    (λ _ r1. chosen (c == 92 && not q.raw) _ Plain Close
    (λ _ r2. from_none (escape_of cs) r2)
    (λ _ r2. cc) r1) r) h
  where
    from_none : {Q : Type 0} (o : Option Escape) → part_of_escape o ≡ Close → Q
    from_none None r = cc
    from_none (Some e) r = cc

end_empty : (q : Quotes) (p : Part) → part_of q [] ≡ p → p ≡ Cut
unfolding part_of
end_empty q p h = sym h

-- the string's end from a part on
end_step : (q : Quotes) (from at n c : ℕ) (cs : List ℕ) → 0 < n → n ≤ length (c ∷ cs) → string_end q from (at + 1) (n - 1) cs ≡ string_end q from (at + n) 0 (drop n (c ∷ cs))
end_step q from at zero c cs h within = absurd (omega arith)
end_step q from at (suc n) c cs h within =
    let back : suc n - 1 ≡ n = omega arith in
    let on : at + suc n ≡ at + 1 + n = omega arith in
    rw (back, on) (string_end-skip q from (at + 1) n cs (omega arith))

pub end-close : (q : Quotes) (from at : ℕ) (bs : List ℕ) → part_of q bs ≡ Close → string_end q from at 0 bs ≡ Ok (at + count_of q)
end-close q from at [] h = let no = end_empty q Close h in cc
end-close q from at (c ∷ cs) h = rw h refl

pub end-wrong : (q : Quotes) (from at : ℕ) (bs : List ℕ) → part_of q bs ≡ Wrong → string_end q from at 0 bs ≡ Err (BadEscape at)
end-wrong q from at [] h = let no = end_empty q Wrong h in cc
end-wrong q from at (c ∷ cs) h = rw h refl

pub end-cut : (q : Quotes) (from at : ℕ) (bs : List ℕ) → part_of q bs ≡ Cut → string_end q from at 0 bs ≡ Err (Unclosed from)
end-cut q from at [] h = refl
end-cut q from at (c ∷ cs) h = rw h refl

pub end-plain : (q : Quotes) (from at : ℕ) (bs : List ℕ) → part_of q bs ≡ Plain → string_end q from at 0 bs ≡ string_end q from (at + 1) 0 (drop 1 bs)
end-plain q from at [] h = let no = end_empty q Plain h in cc
end-plain q from at (c ∷ cs) h = rw h refl

pub end-escaped : (q : Quotes) (from at : ℕ) (bs : List ℕ) (e : Escape) → part_of q bs ≡ Escaped e → string_end q from at 0 bs ≡ string_end q from (at + e.len) 0 (drop e.len bs)
end-escaped q from at [] e h = let no = end_empty q (Escaped e) h in cc
end-escaped q from at (c ∷ cs) e h =
    let fits = escaped_fits q (c ∷ cs) e h in
    rw h (end_step q from at e.len c cs (omega (arith, fits.some)) (omega (arith, fits.within)))

-- how far a string is read: it ends where it ends read on from `at`
pub record EndAt (q : Quotes) (from inside : ℕ) (src : List ℕ) (at : ℕ) : Type 0 where
  pub within : at ≤ length src
  pub same : string_end q from at 0 (drop at src) ≡ string_end q from inside 0 (drop inside src)

pub EndAt-start : (q : Quotes) (from inside : ℕ) (src : List ℕ) → inside ≤ length src → EndAt q from inside src inside
EndAt-start q from inside src h = record { within = h; same = refl }

pub some_left : (q : Quotes) (bs : List ℕ) (p : Part) → part_of q bs ≡ p → (p ≡ Cut → ⊥) → 0 < length bs
some_left q [] p h goes = absurd (goes (end_empty q p h))
some_left q (c ∷ cs) p h goes = omega arith

pub EndAt-plain : (q : Quotes) (from inside : ℕ) (src : List ℕ) (at : ℕ) → EndAt q from inside src at → part_of q (drop at src) ≡ Plain → EndAt q from inside src (at + 1)
EndAt-plain q from inside src at g h = record {
  within = omega (arith, length-drop at src, some_left q (drop at src) Plain h (λ e. cc));
  same = sym (ap (string_end q from (at + 1) 0) (drop-drop 1 at src)) ∙ sym (end-plain q from at (drop at src) h) ∙ g.same;
}

pub EndAt-escaped : (q : Quotes) (from inside : ℕ) (src : List ℕ) (at : ℕ) (e : Escape) → EndAt q from inside src at → part_of q (drop at src) ≡ Escaped e → EndAt q from inside src (at + e.len)
EndAt-escaped q from inside src at e g h =
    let left = some_left q (drop at src) (Escaped e) h (λ e. cc) in
    let fits = escaped_fits q (drop at src) e h in
    record {
      within = omega (arith, left, fits.within, length-drop at src, length-drop 1 (drop at src));
      same = sym (ap (string_end q from (at + e.len) 0) (drop-drop e.len at src)) ∙ sym (end-escaped q from at (drop at src) e h) ∙ g.same;
    }

begins_head : (a : ℕ) (bs : List ℕ) → begins_with a bs ≡ true → (0 < length bs) × (get_or bs 0 0 ≡ a)
begins_head a [] h = cc
begins_head a (c ∷ cs) h = (omega arith, grind (arith, nat_tests))

begins_at : (a n : ℕ) (bs : List ℕ) → begins_with a (drop n bs) ≡ true → (n < length bs) × (get_or bs n 0 ≡ a)
begins_at a n bs h =
    let there = begins_head a (drop n bs) h in
    let on : n + 0 ≡ n = omega arith in
    (omega (arith, there.0, length-drop n bs), sym (ap (λ i. get_or bs i 0) on) ∙ sym (get_or-drop n bs 0 0) ∙ there.1)

-- the closing quotes are within the text, and the last of them is the quote
closes_last : (q : Quotes) (bs : List ℕ) (t : Bool) → q.triple ≡ t → closes q bs ≡ true → (count_of q ≤ length bs) × (get_or bs (count_of q - 1) 0 ≡ q.mark)
closes_last q bs false e h =
    let there = begins_head q.mark bs (and-left _ _ h) in
    rw e (omega (arith, there.0), there.1)
closes_last q bs true e h =
    let both : (begins_with q.mark (drop 1 bs) && begins_with q.mark (drop 2 bs)) ≡ true = rw e at (and-right (begins_with q.mark bs) _ h) in
    let there = begins_at q.mark 2 bs (and-right (begins_with q.mark (drop 1 bs)) _ both) in
    rw e (omega (arith, there.0), there.1)

pub closes_within : (q : Quotes) (bs : List ℕ) → part_of q bs ≡ Close → count_of q ≤ length bs
closes_within q bs h = (closes_last q bs q.triple refl (closed_by q bs h)).0

pub closes_cut : (q : Quotes) (bs : List ℕ) → q.mark < 128 → part_of q bs ≡ Close → IsCut bs (count_of q)
closes_cut q bs small h =
    let there = closes_last q bs q.triple refl (closed_by q bs h) in
    record { some = count_some q.triple; within = there.0; last = rw there.1 small }
  where
    count_some : (t : Bool) → 0 < (if t then 3 else 1)
    count_some true = omega arith
    count_some false = omega arith

pub size_within : (q : Quotes) (bs : List ℕ) (e : Escape) → part_of q bs ≡ Escaped e → e.len ≤ length bs
size_within q bs e h =
    let left = some_left q bs (Escaped e) h (λ e. cc) in
    omega (arith, left, (escaped_fits q bs e h).within, length-drop 1 bs)

pub ruleset part_laws = (size_within)

pub ruleset end_laws = (EndAt-start, EndAt-plain, EndAt-escaped, end-close, end-wrong, end-cut, closes_within)
