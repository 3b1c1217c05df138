use Rattle.std.proofs.Common.{◌≡◌, ℕ, suc, ◌+◌, ◌<◌, ◌≤◌, Bool, true, false, List, [], ◌∷◌, drop, length, if◌then◌else◌, not, arith, refl, ap, ◌∙◌}
use Rattle.std.specs.List.{prefix_len}
use Rattle.std.proofs.lemmas.List.Sums.{prefix_len-le-length}
use Rattle.std.proofs.lemmas.List.{length-drop, drop-drop}
use Rattle.std.proofs.lemmas.Bool.Decides.{nat_tests}
use Rattle.cel_lex.specs.Bytes.{begins, begins_comment, is_blank, is_line_end}
use Rattle.cel_lex.specs.Gap.{gap_of, gap_from, line_of, comment_of}

-- the gap is read as far as `at`, where there is no blank
pub record GapAt (text : List ℕ) (at : ℕ) : Type 0 where
  pub within : at ≤ length text
  pub rest : gap_of text ≡ at + gap_of (drop at text)
  pub stops : begins is_blank (drop at text) ≡ false

pub is_blank-line_end : (c : ℕ) → is_line_end c ≡ true → is_blank c ≡ true
unfolding is_blank is_line_end
is_blank-line_end c h = grind (arith, nat_tests)

slash_blank : is_blank 47 ≡ false
unfolding is_blank is_line_end
slash_blank = refl

slash_line_end : is_line_end 47 ≡ false
unfolding is_line_end
slash_line_end = refl

one_plus : (n : ℕ) → 1 + n ≡ suc n
one_plus n = omega arith

-- what follows the run at the start
abbrev pub behind_run : (ℕ → Bool) → List ℕ → List ℕ
behind_run p [] = []
behind_run p (c ∷ cs) = if p c then behind_run p cs else c ∷ cs

behind_step : (p : ℕ → Bool) (c : ℕ) (cs : List ℕ) (b : Bool) → p c ≡ b → drop (prefix_len p cs) cs ≡ behind_run p cs → drop (prefix_len p (c ∷ cs)) (c ∷ cs) ≡ behind_run p (c ∷ cs)
behind_step p c cs true e more = rw e (rw one_plus more)
behind_step p c cs false e more = rw e

pub drop-prefix_len : (p : ℕ → Bool) (bs : List ℕ) → drop (prefix_len p bs) bs ≡ behind_run p bs
drop-prefix_len p [] = refl
drop-prefix_len p (c ∷ cs) = behind_step p c cs _ refl (drop-prefix_len p cs)

blank_step : (c : ℕ) (cs : List ℕ) (b : Bool) → is_blank c ≡ b → gap_of cs ≡ prefix_len is_blank cs + gap_of (behind_run is_blank cs) → gap_of (c ∷ cs) ≡ prefix_len is_blank (c ∷ cs) + gap_of (behind_run is_blank (c ∷ cs))
blank_step c cs true e more = rw e (omega (arith, more))
blank_step c cs false e more = rw (e, e) (omega arith)

blank_run : (bs : List ℕ) → gap_of bs ≡ prefix_len is_blank bs + gap_of (behind_run is_blank bs)
blank_run [] = refl
blank_run (c ∷ cs) = blank_step c cs _ refl (blank_run cs)

pub gap-blanks : (bs : List ℕ) → gap_of bs ≡ prefix_len is_blank bs + gap_of (drop (prefix_len is_blank bs) bs)
gap-blanks bs = rw (drop-prefix_len is_blank bs) (blank_run bs)

stop_step : (p : ℕ → Bool) (c : ℕ) (cs : List ℕ) (b : Bool) → p c ≡ b → begins p (behind_run p cs) ≡ false → begins p (behind_run p (c ∷ cs)) ≡ false
stop_step p c cs true e more = rw e more
stop_step p c cs false e more = rw e e

run_stops : (p : ℕ → Bool) (bs : List ℕ) → begins p (behind_run p bs) ≡ false
run_stops p [] = refl
run_stops p (c ∷ cs) = stop_step p c cs _ refl (run_stops p cs)

pub blanks-stop : (bs : List ℕ) → begins is_blank (drop (prefix_len is_blank bs) bs) ≡ false
blanks-stop bs = rw (drop-prefix_len is_blank bs) (run_stops is_blank bs)

abbrev in_line : ℕ → Bool
in_line c = not (is_line_end c)

line_step : (c : ℕ) (cs : List ℕ) (b : Bool) → is_line_end c ≡ b → gap_from true cs ≡ prefix_len in_line cs + gap_of (behind_run in_line cs) → gap_from true (c ∷ cs) ≡ prefix_len in_line (c ∷ cs) + gap_of (behind_run in_line (c ∷ cs))
line_step c cs true e more = let blank = is_blank-line_end c e in rw e (rw blank (omega arith))
line_step c cs false e more = rw e (omega (arith, more))

line_run : (bs : List ℕ) → gap_from true bs ≡ prefix_len in_line bs + gap_of (behind_run in_line bs)
line_run [] = refl
line_run (c ∷ cs) = line_step c cs _ refl (line_run cs)

comment_line : (bs : List ℕ) → gap_from true bs ≡ prefix_len in_line bs + gap_of (drop (prefix_len in_line bs) bs)
comment_line bs = rw (drop-prefix_len in_line bs) (line_run bs)

comment_opens : (bs : List ℕ) → begins_comment bs ≡ true → gap_of bs ≡ gap_from true bs
comment_opens [] h = cc
comment_opens (c ∷ []) h = grind (arith, nat_tests)
comment_opens (c ∷ d ∷ cs) h =
    let first : c ≡ 47 = grind (arith, nat_tests) in
    let second : d ≡ 47 = grind (arith, nat_tests) in
    simp (first, second, slash_blank, slash_line_end)

pub gap-comment : (bs : List ℕ) → begins_comment bs ≡ true → gap_of bs ≡ prefix_len (λ c. not (is_line_end c)) bs + gap_of (drop (prefix_len (λ c. not (is_line_end c)) bs) bs)
gap-comment bs h = comment_opens bs h ∙ comment_line bs

pub comment-some : (bs : List ℕ) → begins_comment bs ≡ true → 0 < prefix_len (λ c. not (is_line_end c)) bs
comment-some [] h = cc
comment-some (c ∷ cs) h =
    let first : c ≡ 47 = grind (arith, nat_tests) in
    simp (first, slash_line_end) (omega arith)

pub GapAt-start : (text : List ℕ) → GapAt text (prefix_len is_blank text)
GapAt-start text = record {
  within = prefix_len-le-length is_blank text;
  rest = gap-blanks text;
  stops = blanks-stop text;
}

-- a comment and what follows it
behind_comment : (bs : List ℕ) → begins_comment bs ≡ true → GapAt bs (comment_of bs)
behind_comment bs h =
    let n = line_of bs in
    let front = gap-comment bs h in
    let rest = GapAt-start (drop n bs) in
    let there : drop (prefix_len is_blank (drop n bs)) (drop n bs) ≡ drop (comment_of bs) bs = drop-drop _ n bs in
    record {
      within = omega (arith, length-drop n bs, prefix_len-le-length (λ c. not (is_line_end c)) bs, rest.within);
      rest = omega (arith, front, rest.rest, ap gap_of there);
      stops = rw (← there) rest.stops;
    }

pub GapAt-comment : (text : List ℕ) (at : ℕ) → GapAt text at → begins_comment (drop at text) ≡ true → GapAt text (at + comment_of (drop at text))
GapAt-comment text at g h =
    let more = behind_comment (drop at text) h in
    let there : drop (comment_of (drop at text)) (drop at text) ≡ drop (at + comment_of (drop at text)) text = drop-drop _ at text in
    record {
      within = omega (arith, length-drop at text, g.within, more.within);
      rest = omega (arith, g.rest, more.rest, ap gap_of there);
      stops = rw (← there) more.stops;
    }

pub comment_of-some : (bs : List ℕ) → begins_comment bs ≡ true → 0 < comment_of bs
comment_of-some bs h = omega (arith, comment-some bs h)

none_here : (bs : List ℕ) → begins is_blank bs ≡ false → begins_comment bs ≡ false → gap_of bs ≡ 0
none_here [] s h = refl
none_here (c ∷ cs) s h = rw (s, h) refl

pub GapAt-end : (text : List ℕ) (at : ℕ) → GapAt text at → begins_comment (drop at text) ≡ false → at ≡ gap_of text
GapAt-end text at g h = omega (arith, g.rest, none_here (drop at text) g.stops h)

pub ruleset gap_laws = (GapAt-start, GapAt-comment, GapAt-end, comment_of-some)
