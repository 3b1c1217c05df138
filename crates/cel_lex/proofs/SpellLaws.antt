-- What strings spell.
use Rattle.std.proofs.Common.{◌≡◌, ℕ, slice_range, zero, suc, ◌+◌, ◌-◌, ◌<◌, ◌≤◌, Bool, true, false, List, [], ◌∷◌, ◌++◌, drop, take, length, get_or, if◌then◌else◌, ◌&&◌, ◌||◌, ◌==◌, ◌⊎◌, inl, inr, not, arith, refl, sym, ap, ◌∙◌, subst, Some, length-append}
use Rattle.std.specs.List.{prefix_len}
use Rattle.std.specs.Char.{encode_utf8}
use Rattle.std.specs.Str.{IsCharBoundary, IsUtf8}
use Rattle.std.proofs.lemmas.Str.{IsCharBoundary-after_ascii, length-encode, len_utf8_bounds}
use Rattle.std.proofs.lemmas.List.{get_or-drop}
use Rattle.std.proofs.lemmas.List.Sums.{prefix_len-le-length, prefix_len_stops}
use Rattle.std.proofs.lemmas.Bool.Decides.{nat_tests}
use Rattle.cel_lex.proofs.Cuts.{IsCut}
use Rattle.cel_lex.proofs.StringLaws.{spells-skip, escaped_fits, size_within, some_left}
use Rattle.cel_lex.proofs.OpeningLaws.{opens}
use Rattle.cel_lex.specs.Bytes.{is_line_end}
use Rattle.cel_lex.specs.Strings.{part_of, spells, spelled, is_special, opening_of}
use Rattle.cel_lex.specs.declared.quotes.Quotes.{Quotes}
use Rattle.cel_lex.specs.declared.escape.Escape.{Escape}
use Rattle.cel_lex.specs.declared.part.Part.{Part}
use Rattle.cel_lex.specs.declared.part.Part.TheVariants.{Close, Plain, Escaped, Wrong, Cut}

or-left : (a b : Bool) → (a || b) ≡ false → a ≡ false
or-left true b h = cc
or-left false b h = refl

or-right : (a b : Bool) → (a || b) ≡ false → b ≡ false
or-right true b h = cc
or-right false b h = h

special_ascii : (mark c : ℕ) → mark < 128 → is_special mark c ≡ true → c < 128
unfolding is_special is_line_end
special_ascii mark c small h = grind (arith, nat_tests)

plain_part : (q : Quotes) (c : ℕ) (cs : List ℕ) → is_special q.mark c ≡ false → part_of q (c ∷ cs) ≡ Plain
unfolding part_of is_special
plain_part q c cs h =
    let both = or-left (c == q.mark || c == 92) (is_line_end c) h in
    let mark : (c == q.mark) ≡ false = or-left _ _ both in
    let slash : (c == 92) ≡ false = or-right (c == q.mark) _ both in
    let line : is_line_end c ≡ false = or-right (c == q.mark || c == 92) _ h in
    rw (mark, line, slash) (no_line q.triple)
  where
    no_line : (t : Bool) → (if not t && false then Cut else Plain) ≡ Plain
    no_line true = refl
    no_line false = refl

abbrev pub plain : ℕ → ℕ → Bool
plain mark c = not (is_special mark c)

abbrev Run : Quotes → List ℕ → ℕ → Type 0
Run q bs n = spells q 0 bs ≡ take n bs ++ spells q 0 (drop n bs)

run_step : (q : Quotes) (c : ℕ) (cs : List ℕ) (b : Bool) → is_special q.mark c ≡ b → Run q cs (prefix_len (plain q.mark) cs) → Run q (c ∷ cs) (prefix_len (plain q.mark) (c ∷ cs))
run_step q c cs true e more =
    let none : prefix_len (plain q.mark) (c ∷ cs) ≡ 0 = rw e refl in
    subst (Run q (c ∷ cs)) (sym none) refl
run_step q c cs false e more =
    let n = prefix_len (plain q.mark) cs in
    let one : 1 + n ≡ suc n = omega arith in
    let some : prefix_len (plain q.mark) (c ∷ cs) ≡ suc n = rw e one in
    let here = plain_part q c cs e in
    let first : spells q 0 (c ∷ cs) ≡ c ∷ spells q 0 cs = rw here refl in
    subst (Run q (c ∷ cs)) (sym some) (first ∙ ap (λ (t : List ℕ). c ∷ t) more)

pub spells-run : (q : Quotes) (bs : List ℕ) → Run q bs (prefix_len (plain q.mark) bs)
spells-run q [] = refl
spells-run q (c ∷ cs) = run_step q c cs (is_special q.mark c) refl (spells-run q cs)

pub spells-plain : (q : Quotes) (bs : List ℕ) → part_of q bs ≡ Plain → spells q 0 bs ≡ take 1 bs ++ spells q 0 (drop 1 bs)
spells-plain q [] h = let some = some_left q [] Plain h (λ e. cc) in absurd (omega arith)
spells-plain q (c ∷ cs) h = rw h refl

spells_on : (q : Quotes) (c n : ℕ) (cs : List ℕ) → 0 < n → spells q (n - 1) cs ≡ spells q 0 (drop n (c ∷ cs))
spells_on q c zero cs h = absurd (omega arith)
spells_on q c (suc n) cs h = let back : suc n - 1 ≡ n = omega arith in ap (λ (m : ℕ). spells q m cs) back ∙ spells-skip q n cs

pub spells-escaped : (q : Quotes) (bs : List ℕ) (e : Escape) → part_of q bs ≡ Escaped e → spells q 0 bs ≡ encode_utf8 e.character ++ spells q 0 (drop e.len bs)
spells-escaped q [] e h = let some = some_left q [] (Escaped e) h (λ x. cc) in absurd (omega arith)
spells-escaped q (c ∷ cs) e h =
    let fits = escaped_fits q (c ∷ cs) e h in
    let first : spells q 0 (c ∷ cs) ≡ encode_utf8 e.character ++ spells q (e.len - 1) cs = rw h refl in
    first ∙ ap (λ (t : List ℕ). encode_utf8 e.character ++ t) (spells_on q c e.len cs (omega (arith, fits.some)))

pub spells-none : (q : Quotes) (bs : List ℕ) (p : Part) → p ≡ part_of q bs → ((c : ℕ) (later : List ℕ) → spelled c p later ≡ []) → spells q 0 bs ≡ []
spells-none q [] p h none = refl
spells-none q (c ∷ cs) p h none = rw (← h) (none c _)

-- where the text may be cut
pub run_boundary : (mark : ℕ) (bs : List ℕ) → mark < 128 → IsCharBoundary bs (prefix_len (plain mark) bs)
run_boundary mark bs small = (prefix_len-le-length (plain mark) bs, λ more big. absurd (stop more big))
  where
    was_special : (b : Bool) → not b ≡ false → b ≡ true
    was_special true h = refl
    was_special false h = cc

    stop : prefix_len (plain mark) bs < length bs → 128 ≤ get_or bs (prefix_len (plain mark) bs) 0 → ⊥
    stop more big =
        let low = special_ascii mark _ small (was_special _ (prefix_len_stops (plain mark) bs 0 more)) in
        omega arith

pub lone_boundary : (mark : ℕ) (bs : List ℕ) → mark < 128 → IsUtf8 bs → 0 < length bs → prefix_len (plain mark) bs ≡ 0 → IsCharBoundary bs 1
lone_boundary mark [] small u some none = absurd (omega arith)
lone_boundary mark (c ∷ cs) small u some none = IsCharBoundary-after_ascii (c ∷ cs) 0 u (omega arith) (special_ascii mark c small (is_special_here (is_special mark c) refl))
  where
    is_special_here : (b : Bool) → is_special mark c ≡ b → is_special mark c ≡ true
    is_special_here true e = e
    is_special_here false e = let some : prefix_len (plain mark) (c ∷ cs) ≡ 1 + prefix_len (plain mark) cs = rw e refl in absurd (omega arith)

pub escape_boundary : (q : Quotes) (bs : List ℕ) (e : Escape) → IsUtf8 bs → part_of q bs ≡ Escaped e → IsCharBoundary bs e.len
escape_boundary q bs e u h =
    let fits = escaped_fits q bs e h in
    let within = size_within q bs e h in
    let at : 1 + (e.len - 2) ≡ e.len - 1 = omega (arith, fits.some) in
    let back : e.len - 1 + 1 ≡ e.len = omega (arith, fits.some) in
    let last : get_or bs (e.len - 1) 0 < 128 = subst (λ (b : ℕ). b < 128) (get_or-drop 1 bs (e.len - 2) 0 ∙ ap (λ i. get_or bs i 0) at) fits.last in
    subst (IsCharBoundary bs) back (IsCharBoundary-after_ascii bs (e.len - 1) u (omega (arith, fits.some)) last)

pub opening_boundary : (bs : List ℕ) (q : Quotes) → IsUtf8 bs → opening_of bs ≡ Some q → IsCharBoundary bs q.len
opening_boundary bs q u h =
    let o = opens bs q h in
    let zero_off : q.len - 0 ≡ q.len = omega arith in
    let cut = subst (IsCut bs) zero_off o.cut in
    let back : q.len - 1 + 1 ≡ q.len = omega (arith, o.within) in
    subst (IsCharBoundary bs) back (IsCharBoundary-after_ascii bs (q.len - 1) u (omega (arith, cut.within, o.within)) cut.last)

-- a piece is never empty
pub shorter_by : (old piece new : List ℕ) → old ≡ piece ++ new → 0 < length piece → length new < length old
shorter_by old piece new e some = omega (arith, simp length-append at (ap length e))

pub encode_some : (c : ℕ) → 0 < length (encode_utf8 c)
encode_some c = omega (arith, length-encode c, (len_utf8_bounds c).0)

slice_front : (src : List ℕ) (n : ℕ) → slice_range src 0 n ≡ take n src
slice_front src n = let whole : n - 0 ≡ n = omega arith in ap (λ (m : ℕ). take m src) whole

-- what was left is a piece of the text and what is left after it
pub front_of : (q : Quotes) (src old front rest : List ℕ) (n : ℕ) → spells q 0 src ≡ old → spells q 0 src ≡ take n src ++ spells q 0 (drop n src) → front ≡ slice_range src 0 n → rest ≡ drop n src → old ≡ front ++ spells q 0 rest
front_of q src old front rest n was run f r =
    sym was ∙ run ∙ ap (λ (t : List ℕ). t ++ spells q 0 (drop n src)) (sym (f ∙ slice_front src n)) ∙ ap (λ (t : List ℕ). front ++ spells q 0 t) (sym r)

pub run_of : (q : Quotes) (src bytes : List ℕ) (n : ℕ) → bytes ≡ src → n ≡ prefix_len (plain q.mark) bytes → n ≡ prefix_len (plain q.mark) src
run_of q src bytes n e h = h ∙ ap (prefix_len (plain q.mark)) e

pub part_of_same : (q : Quotes) (src bytes : List ℕ) (p : Part) → bytes ≡ src → p ≡ part_of q bytes → part_of q src ≡ p
part_of_same q src bytes p e h = sym (h ∙ ap (part_of q) e)

nothing_spelled : (p : Part) → (p ≡ Close) ⊎ ((p ≡ Wrong) ⊎ (p ≡ Cut)) → (c : ℕ) (later : List ℕ) → spelled c p later ≡ []
nothing_spelled p (inl e) c later = rw e refl
nothing_spelled p (inr (inl e)) c later = rw e refl
nothing_spelled p (inr (inr e)) c later = rw e refl

-- at the closing quotes and at an error nothing more is spelled
pub over_at : (q : Quotes) (src bytes old : List ℕ) (p : Part) → bytes ≡ src → p ≡ part_of q bytes → (p ≡ Close) ⊎ ((p ≡ Wrong) ⊎ (p ≡ Cut)) → spells q 0 src ≡ old → old ≡ []
over_at q src bytes old p e h ends was = sym was ∙ spells-none q src p (h ∙ ap (part_of q) e) (nothing_spelled p ends)
