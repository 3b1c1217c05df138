-- How a string begins and where it ends.
use Rattle.std.proofs.Common.{◌≡◌, ℕ, zero, suc, ◌+◌, ◌-◌, ◌<◌, ◌≤◌, Bool, true, false, List, [], ◌∷◌, drop, length, get_or, if◌then◌else◌, ◌&&◌, ◌==◌, arith, refl, subst, Some, None, Result, Ok}
use Rattle.std.proofs.lemmas.List.{length-drop}
use Rattle.std.proofs.lemmas.Bool.Decides.{nat_tests}
use Rattle.cel_lex.proofs.Choices.{chosen, and-left, and-right}
use Rattle.cel_lex.proofs.Cuts.{IsCut, IsCut-one, IsCut-behind, begins_some}
use Rattle.cel_lex.proofs.QuoteLaws.{quote_ascii}
use Rattle.cel_lex.proofs.StringLaws.{closes_cut}
use Rattle.cel_lex.specs.Bytes.{begins, begins_with, is_quote}
use Rattle.cel_lex.specs.Strings.{quotes_of, opening_of, is_bytes_mark, is_raw_mark, string_end, end_of_part, part_of, size_of}
use Rattle.cel_lex.specs.declared.quotes.Quotes.{Quotes}
use Rattle.cel_lex.specs.declared.part.Part.{Part}
use Rattle.cel_lex.specs.declared.part.Part.TheVariants.{Close, Plain, Escaped, Wrong, Cut}
use Rattle.cel_lex.specs.declared.token.LexError.{LexError}

-- quotes after a prefix: their mark is ASCII, and they are a cut of what follows the prefix
pub record IsOpening (bs : List ℕ) (before : ℕ) (q : Quotes) : Type 0 where
  pub ascii : q.mark < 128
  pub within : before < q.len
  pub cut : IsCut bs (q.len - before)

same_ascii : (a d : ℕ) → a < 128 → (d == a) ≡ true → d < 128
same_ascii a d small t = grind (arith, nat_tests)

quotes_open : (bytes raw : Bool) (before : ℕ) (bs : List ℕ) (q : Quotes) → quotes_of bytes raw before bs ≡ Some q → IsOpening bs before q
quotes_open bytes raw before [] q h = cc
quotes_open bytes raw before (c ∷ cs) q h =
    chosen (is_quote c) _ None (Some q)
    (λ quote r. by_count (begins_with c cs && begins_with c (drop 1 cs)) refl quote r)
    (λ _ r. cc) h
  where
    by_count : (b : Bool) → (begins_with c cs && begins_with c (drop 1 cs)) ≡ b → is_quote c ≡ true
        → Some (if b then record { mark = c; triple = true; bytes = bytes; raw = raw; len = before + 3 } else record { mark = c; triple = false; bytes = bytes; raw = raw; len = before + 1 }) ≡ Some q
        → IsOpening (c ∷ cs) before q
    by_count true e quote r =
        let mark : q.mark ≡ c = cc in
        let len : q.len ≡ before + 3 = cc in
        let three : before + 3 - before ≡ 2 + 1 = omega arith in
        let small = quote_ascii c quote in
        record {
          ascii = rw mark small;
          within = omega arith;
          cut = rw (len, three) (IsCut-behind (c ∷ cs) 2 1 (omega (arith, begins_some _ cs (and-left _ _ e))) (IsCut-one (λ d. d == c) (drop 1 cs) (λ d t. same_ascii c d small t) (and-right _ _ e)));
        }
    by_count false e quote r =
        let mark : q.mark ≡ c = cc in
        let len : q.len ≡ before + 1 = cc in
        let one : before + 1 - before ≡ 1 = omega arith in
        let small = quote_ascii c quote in
        record {
          ascii = rw mark small;
          within = omega arith;
          cut = rw (len, one) (record { some = omega arith; within = omega arith; last = small });
        }

prefixed : (bs : List ℕ) (before : ℕ) (q : Quotes) → before ≤ length bs → IsOpening (drop before bs) before q → IsOpening bs 0 q
prefixed bs before q h o =
    let len : before + (q.len - before) ≡ q.len - 0 = omega (arith, o.within) in
    record {
      ascii = o.ascii;
      within = omega (arith, o.within);
      cut = subst (IsCut bs) len (IsCut-behind bs before (q.len - before) h o.cut);
    }

pub opens : (bs : List ℕ) (q : Quotes) → opening_of bs ≡ Some q → IsOpening bs 0 q
unfolding opening_of
opens bs q h =
    chosen (begins is_bytes_mark bs) _ _ (Some q)
    (λ b r. chosen (begins is_raw_mark (drop 1 bs)) _ _ (Some q)
    (λ b2 r2. prefixed bs 2 q (omega (arith, begins_some _ (drop 1 bs) b2, length-drop 1 bs)) (quotes_open true true 2 (drop 2 bs) q r2))
    (λ _ r2. prefixed bs 1 q (begins_some _ bs b) (quotes_open true false 1 (drop 1 bs) q r2)) r)
    (λ _ r. chosen (begins is_raw_mark bs) _ _ (Some q)
    (λ b2 r2. prefixed bs 1 q (begins_some _ bs b2) (quotes_open false true 1 (drop 1 bs) q r2))
    (λ _ r2. quotes_open false false 0 bs q r2) r) h

-- a string ends at a cut of what is read
pub record EndsAt (bs : List ℕ) (at end : ℕ) : Type 0 where
  pub on : at < end
  pub cut : IsCut bs (end - at)

further : (c : ℕ) (cs : List ℕ) (at end : ℕ) → EndsAt cs (at + 1) end → EndsAt (c ∷ cs) at end
further c cs at end e =
    let len : 1 + (end - (at + 1)) ≡ end - at = omega (arith, e.on) in
    record { on = omega (arith, e.on); cut = subst (IsCut (c ∷ cs)) len (IsCut-behind (c ∷ cs) 1 (end - (at + 1)) (omega arith) e.cut) }

end_by : (q : Quotes) (from at c : ℕ) (cs : List ℕ) (end : ℕ) (p : Part) (later : Result ℕ LexError) → q.mark < 128 → part_of q (c ∷ cs) ≡ p → end_of_part q from at p later ≡ Ok end → (later ≡ Ok end → EndsAt cs (at + 1) end) → EndsAt (c ∷ cs) at end
end_by q from at c cs end Close later small h e f =
    let cut = closes_cut q (c ∷ cs) small h in
    let is : end ≡ at + (if q.triple then 3 else 1) = cc in
    let len : at + (if q.triple then 3 else 1) - at ≡ (if q.triple then 3 else 1) = omega arith in
    record { on = omega (arith, cut.some); cut = rw (is, len) cut }
end_by q from at c cs end Plain later small h e f = further c cs at end (f e)
end_by q from at c cs end (Escaped x) later small h e f = further c cs at end (f e)
end_by q from at c cs end Wrong later small h e f = cc
end_by q from at c cs end Cut later small h e f = cc

pub end_cut : (q : Quotes) (from at left : ℕ) (bs : List ℕ) (end : ℕ) → q.mark < 128 → string_end q from at left bs ≡ Ok end → EndsAt bs at end
end_cut q from at zero [] end small h = cc
end_cut q from at (suc n) [] end small h = cc
end_cut q from at (suc n) (c ∷ cs) end small h = further c cs at end (end_cut q from (at + 1) n cs end small h)
end_cut q from at zero (c ∷ cs) end small h =
    end_by q from at c cs end (part_of q (c ∷ cs)) _ small refl h (λ r. end_cut q from (at + 1) (size_of q (part_of q (c ∷ cs)) - 1) cs end small r)

bytes_mark_ascii : (c : ℕ) → is_bytes_mark c ≡ true → c < 128
bytes_mark_ascii c e = grind (arith, nat_tests)

raw_mark_ascii : (c : ℕ) → is_raw_mark c ≡ true → c < 128
raw_mark_ascii c e = grind (arith, nat_tests)

quotes_first : (bs : List ℕ) (q : Quotes) → quotes_of false false 0 bs ≡ Some q → get_or bs 0 0 < 128
quotes_first [] q h = cc
quotes_first (c ∷ cs) q h = chosen (is_quote c) _ None (Some q) (λ t _. quote_ascii c t) (λ _ r. cc) h

begins_ascii : (p : ℕ → Bool) (bs : List ℕ) → ((x : ℕ) → p x ≡ true → x < 128) → begins p bs ≡ true → get_or bs 0 0 < 128
begins_ascii p [] ascii h = cc
begins_ascii p (c ∷ cs) ascii h = ascii c h

pub opens_first : (bs : List ℕ) (q : Quotes) → opening_of bs ≡ Some q → get_or bs 0 0 < 128
unfolding opening_of
opens_first bs q h =
    chosen (begins is_bytes_mark bs) _ _ (Some q)
    (λ b _. begins_ascii is_bytes_mark bs bytes_mark_ascii b)
    (λ _ r. chosen (begins is_raw_mark bs) _ _ (Some q)
    (λ b _. begins_ascii is_raw_mark bs raw_mark_ascii b)
    (λ _ r2. quotes_first bs q r2) r) h
