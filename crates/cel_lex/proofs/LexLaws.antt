-- The tokens of a text are the next one and those of what is left.
use Rattle.std.proofs.Common.{◌≡◌, ℕ, slice_range, zero, suc, ◌+◌, ◌-◌, ◌<◌, ◌≤◌, Bool, true, false, List, [], ◌∷◌, drop, take, length, ◌&&◌, ◌==◌, not, arith, refl, sym, ap, ◌∙◌, subst, Some, Result, Ok, Err}
use Rattle.std.proofs.lemmas.List.{length-drop, drop-drop}
use Rattle.cel_lex.proofs.Cuts.{slice_rest}
use Rattle.cel_lex.proofs.EndLaws.{cut_end}
use Rattle.cel_lex.specs.Bytes.{is_blank, is_line_end, begins_with}
use Rattle.cel_lex.specs.Gap.{gap_of, gap_from}
use Rattle.cel_lex.specs.Lexis.{cut_of, due_after}
use Rattle.cel_lex.specs.Place.{Place}
use Rattle.cel_lex.specs.Tokens.{Lexed, lex_from, with_token, with_cut, after_gap, rest_of, Next, End, read_cut, next_from, start_of, next_of, after, first_of}
use Rattle.cel_lex.specs.declared.cut.Cut.{Cut}
use Rattle.cel_lex.specs.declared.token.LexError.{LexError}

one_plus : (n : ℕ) → 1 + n ≡ suc n
one_plus n = omega arith

no_gap_by : (c : ℕ) (cs : List ℕ) (b d : Bool) → is_blank c ≡ b → (c == 47 && begins_with 47 cs) ≡ d → gap_of (drop (gap_from false cs) cs) ≡ 0 → gap_of (drop (gap_from true cs) cs) ≡ 0 → gap_of (drop (gap_from false (c ∷ cs)) (c ∷ cs)) ≡ 0
no_gap_by c cs true d e h x y = rw (e, one_plus) x
no_gap_by c cs false true e h x y = rw (e, h, one_plus) y
no_gap_by c cs false false e h x y = rw (e, h) (rw (e, h) refl)

-- after a gap there is no gap
no_gap : (inside : Bool) (bs : List ℕ) → gap_of (drop (gap_from inside bs) bs) ≡ 0
no_gap false [] = refl
no_gap true [] = refl
no_gap true (c ∷ cs) = rw one_plus (no_gap (not (is_line_end c)) cs)
no_gap false (c ∷ cs) = no_gap_by c cs (is_blank c) (c == 47 && begins_with 47 cs) refl refl (no_gap false cs) (no_gap true cs)

lex_skip : (at n : ℕ) (due : Bool) (bs : List ℕ) → lex_from at n due bs ≡ lex_from (at + n) 0 due (drop n bs)
lex_skip at zero due [] = refl
lex_skip at (suc n) due [] = refl
lex_skip at zero due (c ∷ cs) = let e : at + 0 ≡ at = omega arith in ap (λ (a : ℕ). lex_from a 0 due (c ∷ cs)) (sym e)
lex_skip at (suc n) due (c ∷ cs) = let e : at + 1 + n ≡ at + suc n = omega arith in lex_skip (at + 1) n due cs ∙ ap (λ (a : ℕ). lex_from a 0 due (drop n cs)) e

lex_on : (at n c : ℕ) (due : Bool) (cs : List ℕ) → 0 < n → lex_from (at + 1) (n - 1) due cs ≡ lex_from (at + n) 0 due (drop n (c ∷ cs))
lex_on at zero c due cs some = absurd (omega arith)
lex_on at (suc n) c due cs some =
    let back : suc n - 1 ≡ n = omega arith in
    let e : at + 1 + n ≡ at + suc n = omega arith in
    ap (λ (m : ℕ). lex_from (at + 1) m due cs) back ∙ lex_skip (at + 1) n due cs ∙ ap (λ (a : ℕ). lex_from a 0 due (drop n cs)) e

-- what is read here, where there is no gap
abbrev here : ℕ → ℕ → Bool → List ℕ → Result Cut LexError → Lexed
here at c due cs r = with_cut at (c ∷ cs) r (λ cut. lex_from (at + 1) (cut.end - at - 1) (due_after cut.kind) cs)

lex_is : (at c : ℕ) (due : Bool) (cs : List ℕ) (g : ℕ) → gap_of (c ∷ cs) ≡ g → lex_from at 0 due (c ∷ cs) ≡ after_gap g (here at c due cs (cut_of due at (c ∷ cs))) (lex_from (at + 1) (g - 1) due cs)
lex_is at c due cs g e = ap (λ (m : ℕ). after_gap m (here at c due cs (cut_of due at (c ∷ cs))) (lex_from (at + 1) (m - 1) due cs)) e

gap_by : (at c : ℕ) (due : Bool) (cs : List ℕ) (g : ℕ) → gap_of (c ∷ cs) ≡ g → lex_from at 0 due (c ∷ cs) ≡ lex_from (at + g) 0 due (drop g (c ∷ cs))
gap_by at c due cs zero e = lex_skip at 0 due (c ∷ cs)
gap_by at c due cs (suc n) e = lex_is at c due cs (suc n) e ∙ lex_on at (suc n) c due cs (omega arith)

lex_gap : (at : ℕ) (due : Bool) (bs : List ℕ) → lex_from at 0 due bs ≡ lex_from (at + gap_of bs) 0 due (drop (gap_of bs) bs)
lex_gap at due [] = refl
lex_gap at due (c ∷ cs) = gap_by at c due cs (gap_of (c ∷ cs)) refl

-- a token that begins here
lex_cut : (at c : ℕ) (due : Bool) (cs : List ℕ) (cut : Cut) → gap_of (c ∷ cs) ≡ 0 → cut_of due at (c ∷ cs) ≡ Ok cut
    → lex_from at 0 due (c ∷ cs) ≡ with_cut at (c ∷ cs) (Ok cut) (λ k. lex_from k.end 0 (due_after k.kind) (drop (k.end - at) (c ∷ cs)))
lex_cut at c due cs cut g e =
    let ends = cut_end due at (c ∷ cs) cut e in
    let on : at + (cut.end - at) ≡ cut.end = omega (arith, ends.on) in
    lex_is at c due cs 0 g
    ∙ ap (here at c due cs) e
    ∙ ap (with_token (record { kind = cut.kind; start = at; end = cut.end; text = take (cut.end - at) (c ∷ cs) }))
    (lex_on at (cut.end - at) c (due_after cut.kind) cs (omega (arith, ends.on)) ∙ ap (λ (a : ℕ). lex_from a 0 (due_after cut.kind) (drop (cut.end - at) (c ∷ cs))) on)

lex_fault : (at c : ℕ) (due : Bool) (cs : List ℕ) (x : LexError) → gap_of (c ∷ cs) ≡ 0 → cut_of due at (c ∷ cs) ≡ Err x → lex_from at 0 due (c ∷ cs) ≡ record { tokens = []; error = Some x }
lex_fault at c due cs x g e = lex_is at c due cs 0 g ∙ ap (here at c due cs) e

by_cut : (src : List ℕ) (at start c : ℕ) (due : Bool) (cs : List ℕ) (r : Result Cut LexError) → drop start src ≡ c ∷ cs → gap_of (c ∷ cs) ≡ 0 → cut_of due start (c ∷ cs) ≡ r
    → lex_from start 0 due (c ∷ cs) ≡ first_of (read_cut src start r) (rest_of (after (record { source = src; at = at; due = due; failed = false }) (read_cut src start r)))
by_cut src at start c due cs (Err x) there g e = lex_fault start c due cs x g e
by_cut src at start c due cs (Ok cut) there g e =
    let ends = cut_end due start (c ∷ cs) cut e in
    let on : start + (cut.end - start) ≡ cut.end = omega (arith, ends.on) in
    let text : take (cut.end - start) (c ∷ cs) ≡ slice_range src start cut.end = ap (take (cut.end - start)) (sym there) in
    let rest : drop (cut.end - start) (c ∷ cs) ≡ drop cut.end src = ap (drop (cut.end - start)) (sym there) ∙ drop-drop (cut.end - start) start src ∙ ap (λ (a : ℕ). drop a src) on in
    lex_cut start c due cs cut g e
    ∙ ap (λ (t : List ℕ). with_token (record { kind = cut.kind; start = start; end = cut.end; text = t }) (lex_from cut.end 0 (due_after cut.kind) (drop (cut.end - start) (c ∷ cs)))) text
    ∙ ap (λ (bs : List ℕ). with_token (record { kind = cut.kind; start = start; end = cut.end; text = slice_range src start cut.end }) (lex_from cut.end 0 (due_after cut.kind) bs)) rest

by_rest : (src : List ℕ) (at start : ℕ) (due : Bool) (bs : List ℕ) → drop start src ≡ bs → gap_of bs ≡ 0
    → lex_from start 0 due bs ≡ first_of (next_from (record { source = src; at = at; due = due; failed = false }) start bs) (rest_of (after (record { source = src; at = at; due = due; failed = false }) (next_from (record { source = src; at = at; due = due; failed = false }) start bs)))
by_rest src at start due [] there g = refl
by_rest src at start due (c ∷ cs) there g = by_cut src at start c due cs (cut_of due start (c ∷ cs)) there g refl

abbrev RestStep : Place → Type 0
RestStep p = rest_of p ≡ first_of (next_of p) (rest_of (after p (next_of p)))

-- what is left is the next token and what is left after it, or the error, or nothing
step_by : (src : List ℕ) (at : ℕ) (due failed : Bool) → RestStep (record { source = src; at = at; due = due; failed = failed })
step_by src at due true = refl
step_by src at due false =
    let bs = drop at src in
    let there : drop (gap_of bs) bs ≡ drop (at + gap_of bs) src = drop-drop (gap_of bs) at src in
    lex_gap at due bs ∙ ap (lex_from (at + gap_of bs) 0 due) there
    ∙ by_rest src at (at + gap_of bs) due (drop (at + gap_of bs) src) refl (ap gap_of (sym there) ∙ no_gap false bs)

pub rest_step : (p : Place) → rest_of p ≡ first_of (next_of p) (rest_of (after p (next_of p)))
rest_step p = step_by p.source p.at p.due p.failed

pub rest_by : (p q : Place) (n : Next) → n ≡ next_of p → q ≡ after p (next_of p) → rest_of p ≡ first_of n (rest_of q)
rest_by p q n e h = rest_step p ∙ ap (λ (m : Next). first_of m (rest_of (after p (next_of p)))) (sym e) ∙ ap (λ (r : Place). first_of n (rest_of r)) (sym h)

from_some : (p : Place) (start : ℕ) (bs : List ℕ) (r : Result Cut LexError) → 0 < length bs → cut_of p.due start bs ≡ r → next_from p start bs ≡ read_cut p.source start r
from_some p start [] r some e = absurd (omega arith)
from_some p start (c ∷ cs) r some e = ap (read_cut p.source start) e

-- the next token by what the reader found
pub next_is : (p : Place) (start : ℕ) (r : Result Cut LexError) → p.failed ≡ false → start ≡ start_of p → start < length p.source → cut_of p.due start (drop start p.source) ≡ r → next_of p ≡ read_cut p.source start r
next_is p start r f s within e =
    let there = from_some p start (drop start p.source) r (omega (arith, length-drop start p.source)) e in
    let from : next_from p (start_of p) (drop (start_of p) p.source) ≡ read_cut p.source start r = subst (λ (i : ℕ). next_from p i (drop i p.source) ≡ read_cut p.source start r) s there in
    rw f from

end_from : (p : Place) (start : ℕ) (bs : List ℕ) → length bs ≡ 0 → next_from p start bs ≡ End
end_from p start [] e = refl
end_from p start (c ∷ cs) e = absurd (omega arith)

pub next_end : (p : Place) (start : ℕ) → p.failed ≡ false → start ≡ start_of p → length p.source ≤ start → next_of p ≡ End
next_end p start f s within =
    let there = end_from p start (drop start p.source) (omega (arith, length-drop start p.source)) in
    let from : next_from p (start_of p) (drop (start_of p) p.source) ≡ End = subst (λ (i : ℕ). next_from p i (drop i p.source) ≡ End) s there in
    rw f from

-- where the next token begins, by the gap in the slice from an offset on
pub start_is : (src bytes : List ℕ) (at gap : ℕ) → bytes ≡ src → gap ≡ gap_of (take (length bytes - at) (drop at bytes)) → at + gap ≡ at + gap_of (drop at src)
start_is src bytes at gap e h = ap (λ (g : ℕ). at + g) (h ∙ ap gap_of (slice_rest bytes at) ∙ ap (λ (bs : List ℕ). gap_of (drop at bs)) e)
