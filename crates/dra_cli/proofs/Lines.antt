-- Which texts are lines, and what the last line of a text is.
use Rattle.std.proofs.Common.{ℕ, zero, suc, ◌≡◌, ◌∙◌, ◌≤◌, ◌<◌, ◌+◌, ◌-◌, ◌/◌, ◌%◌, ◌++◌, ◌==◌, inl, inr, List, [], ◌∷◌, Bool, true, false, not, nat_lt, if◌then◌else◌, drop, take, get_or, length, length-append, append_assoc, append-nil, refl, sym, ap, subst, arith, map}
use Rattle.std.proofs.lemmas.Bool.{and_from, and_parts, cases_lt, ne_eqb}
use Rattle.std.specs.Fmt.{digit_glyph, digits, digits_onto}
use Rattle.std.specs.List.{list_all}
use Rattle.std.specs.Prelude.{Option, codes, decimal}
use Rattle.cluster.specs.declared.entry.Entry.{Entry}
use Rattle.cluster.specs.History.{state_of}
use Rattle.commands.specs.declared.command.Command.{Command}
use Rattle.commands.specs.declared.given.Given.TheVariants.{One}
use Rattle.journal_text.specs.Journal.{bound_count, granted_count, line_of, lines_from, summary_by, summary_of}
use Rattle.journal_text.specs.Laws.{IsOneLine}
use Rattle.pod_prepare.specs.Opening.{Table}
use Rattle.replay_core.specs.Kubelet.{Setting, ShowFrom, Shown}
use Rattle.dra_cli.specs.Lines.{EndsLine, IsLine, is_inside}

-- ---- the summary is one line

inside_append : (xs ys : List ℕ) → list_all is_inside xs ≡ true → list_all is_inside ys ≡ true → list_all is_inside (xs ++ ys) ≡ true
inside_append [] ys h g = g
inside_append (x ∷ xs) ys h g = let p = and_parts _ _ h in and_from _ _ p.0 (inside_append xs ys p.1 g)

other_byte : (n : ℕ) → 11 ≤ n → is_inside n ≡ true
other_byte n h = ap not (ne_eqb n 10 (λ e. omega (arith, e, h)))

glyph_by : (b : Bool) (d : ℕ) → is_inside (if b then 48 + d else (if false then 55 + d else 87 + d)) ≡ true
glyph_by true d = other_byte (48 + d) (omega arith)
glyph_by false d = other_byte (87 + d) (omega arith)

glyph_inside : (d : ℕ) → is_inside (digit_glyph false d) ≡ true
glyph_inside d = glyph_by (nat_lt d 10) d

choose : (b : Bool) (xs ys : List ℕ) → list_all is_inside xs ≡ true → list_all is_inside ys ≡ true → list_all is_inside (if b then xs else ys) ≡ true
choose true xs ys h g = h
choose false xs ys h g = g

onto_inside : (k n : ℕ) (acc : List ℕ) → list_all is_inside acc ≡ true → list_all is_inside (digits_onto k 10 false n acc) ≡ true
onto_inside zero n acc h = h
onto_inside (suc k) n acc h =
    let one : list_all is_inside (digit_glyph false (n % 10) ∷ acc) ≡ true = and_from _ _ (glyph_inside (n % 10)) h in
    choose (n / 10 == 0) (digit_glyph false (n % 10) ∷ acc) (digits_onto k 10 false (n / 10) (digit_glyph false (n % 10) ∷ acc)) one (onto_inside k (n / 10) (digit_glyph false (n % 10) ∷ acc) one)

decimal_inside : (n : ℕ) → list_all is_inside (decimal n) ≡ true
unfolding digits
decimal_inside n = onto_inside 64 n [] refl

pub summary_is_line : (h : List Entry) (n : ℕ) → IsLine (summary_of h n)
unfolding summary_by
summary_is_line h n =
    let entries = codes "summary entries=" ++ decimal (length h) in
    let counted = entries ++ codes " commands=" ++ decimal n in
    let granted = counted ++ codes " granted=" ++ decimal (granted_count (state_of h)) in
    record {
      prefix = granted ++ codes " bound=" ++ decimal (bound_count (state_of h));
      ends = refl;
      inside =
          inside_append (granted ++ codes " bound=") (decimal (bound_count (state_of h)))
          (inside_append granted (codes " bound=")
          (inside_append (counted ++ codes " granted=") (decimal (granted_count (state_of h)))
          (inside_append counted (codes " granted=")
          (inside_append (entries ++ codes " commands=") (decimal n)
          (inside_append entries (codes " commands=") (inside_append (codes "summary entries=") (decimal (length h)) refl (decimal_inside (length h))) refl) (decimal_inside n)) refl) (decimal_inside (granted_count (state_of h)))) refl) (decimal_inside (bound_count (state_of h)));
    }

-- ---- what commands of a script show are lines

ends_append : (xs ys : List ℕ) → EndsLine xs → EndsLine ys → EndsLine (xs ++ ys)
ends_append xs ys h (inl none) = subst EndsLine (sym (ap (λ l. xs ++ l) none ∙ append-nil xs)) h
ends_append xs ys h (inr some) = inr (xs ++ some.0, ap (λ l. xs ++ l) some.1 ∙ sym (append_assoc xs some.0 (codes "\n")))

abbrev pub OneLine : Type 0
OneLine = (place : ℕ) (entry : Entry) → IsOneLine (line_of place entry)

lines_end : OneLine → (n : ℕ) (es : List Entry) → EndsLine (lines_from n es)
unfolding lines_from
lines_end law n [] = inl refl
lines_end law n (e ∷ es) = let l = law (n + 1) e in ends_append (line_of (n + 1) e) (lines_from (n + 1) es) (inr (l.prefix, l.ends)) (lines_end law (n + 1) es)

pub shown_ends : OneLine → (x : Setting) (n : ℕ) (before : List Entry) (cs : List Command) (after : List Entry) (table : Option Table) (shown : Shown) → ShowFrom x n before (map One cs) after table shown → EndsLine shown.text
unfolding ShowFrom
shown_ends law x n before [] after table shown h = inl (ap (λ (s : Shown). s.text) h.1)
shown_ends law x n before (c ∷ cs) after table shown h =
    subst EndsLine (sym (ap (λ (s : Shown). s.text) h.is))
    (ends_append h.first.text h.rest.text (subst EndsLine (sym (ap (λ (s : Shown). s.text) h.shows)) (lines_end law (length before) h.segment))
    (shown_ends law x (n + 1) (before ++ h.segment) cs after h.first.table h.rest h.follows))

-- ---- the last line of a text

byte_before : (xs ys : List ℕ) (i : ℕ) → i < length xs → get_or (xs ++ ys) i 0 ≡ get_or xs i 0
byte_before [] ys i h = absurd (omega (arith, h))
byte_before (x ∷ xs) ys zero h = refl
byte_before (x ∷ xs) ys (suc i) h = byte_before xs ys i (omega (arith, h))

byte_behind : (xs ys : List ℕ) (i : ℕ) → get_or (xs ++ ys) (length xs + i) 0 ≡ get_or ys i 0
byte_behind [] ys i = let same : 0 + i ≡ i = omega arith in ap (λ n. get_or ys n 0) same
byte_behind (x ∷ xs) ys i =
    let same : suc (length xs) + i ≡ suc (length xs + i) = omega arith in
    ap (λ n. get_or (x ∷ (xs ++ ys)) n 0) same ∙ byte_behind xs ys i

dropped : (xs ys : List ℕ) → drop (length xs) (xs ++ ys) ≡ ys
dropped [] ys = refl
dropped (x ∷ xs) ys = dropped xs ys

byte_inside : (xs : List ℕ) (i : ℕ) → list_all is_inside xs ≡ true → i < length xs → get_or xs i 0 ≡ 10 → ⊥
byte_inside [] i h less is = omega (arith, less)
byte_inside (x ∷ xs) zero h less is = no (sym (and_parts _ _ h).0 ∙ ap is_inside is)
  where
    no : true ≡ false → ⊥
    no e = cc
byte_inside (x ∷ xs) (suc i) h less is = byte_inside xs i (and_parts _ _ h).1 (omega (arith, less)) is

-- the line begins where no LF is left before its end, and an LF stands before it unless it is the first
record Begins (text : List ℕ) (start : ℕ) : Type 0 where
  pub within : start ≤ length text - 1
  pub none : (i : ℕ) → start ≤ i → i + 1 < length text → get_or text i 0 ≡ 10 → ⊥
  pub behind : 0 < start → get_or text (start - 1) 0 ≡ 10

-- the line doesn't begin before the front's end
not_before : (text front line : List ℕ) (start : ℕ) → text ≡ front ++ line → EndsLine front → 0 < length line → Begins text start → length front ≤ start
not_before text front line start is (inl none) more b = omega (arith, ap length none)
not_before text front line start is (inr some) more b = elim (cases_lt start (length front)) [
  | inl less ↦
      let count : length front ≡ length some.0 + 1 = ap length some.1 ∙ length-append some.0 (codes "\n") in
      let whole : length text ≡ length front + length line = ap length is ∙ length-append front line in
      let none_more : length some.0 ≡ length some.0 + 0 = omega arith in
      let at : get_or text (length some.0) 0 ≡ 10 =
      ap (λ l. get_or l (length some.0) 0) is ∙ byte_before front line (length some.0) (omega (arith, count))
      ∙ ap (λ l. get_or l (length some.0) 0) some.1 ∙ ap (λ n. get_or (some.0 ++ codes "\n") n 0) none_more ∙ byte_behind some.0 (codes "\n") 0 in
      absurd (b.none (length some.0) (omega (arith, less, count)) (omega (arith, count, whole, more)) at)
  | inr other ↦ omega (arith, other)
]

-- nor behind it
not_behind : (text front line : List ℕ) (start : ℕ) → text ≡ front ++ line → (l : IsLine line) → Begins text start → start ≤ length front
not_behind text front line start is l b = elim (cases_lt (length front) start) [
  | inl less ↦
      let count : length line ≡ length l.prefix + 1 = ap length l.ends ∙ length-append l.prefix (codes "\n") in
      let whole : length text ≡ length front + length line = ap length is ∙ length-append front line in
      let at : start - 1 ≡ length front + (start - 1 - length front) = omega (arith, less) in
      let byte : get_or l.prefix (start - 1 - length front) 0 ≡ 10 =
      sym (ap (λ t. get_or t (start - 1) 0) is ∙ ap (λ n. get_or (front ++ line) n 0) at ∙ byte_behind front line (start - 1 - length front)
      ∙ ap (λ t. get_or t (start - 1 - length front) 0) l.ends ∙ byte_before l.prefix (codes "\n") (start - 1 - length front) (omega (arith, less, count, whole, b.within))) ∙ b.behind (omega (arith, less)) in
      absurd (byte_inside l.prefix (start - 1 - length front) l.inside (omega (arith, less, count, whole, b.within)) byte)
  | inr other ↦ omega (arith, other)
]

last_is : (text front line : List ℕ) (start : ℕ) → text ≡ front ++ line → EndsLine front → IsLine line → start ≤ length text - 1
    → ((i : ℕ) → start ≤ i → i + 1 < length text → get_or text i 0 ≡ 10 → ⊥) → (0 < start → get_or text (start - 1) 0 ≡ 10) → drop start text ≡ line
last_is text front line start is ended l within none behind =
    let b : Begins text start = record { within = within; none = none; behind = behind } in
    let count : length line ≡ length l.prefix + 1 = ap length l.ends ∙ length-append l.prefix (codes "\n") in
    let low : length front ≤ start = not_before text front line start is ended (omega (arith, count)) b in
    let high : start ≤ length front = not_behind text front line start is l b in
    let same : start ≡ length front = omega (arith, low, high) in
    ap (λ n. drop n text) same ∙ ap (drop (length front)) is ∙ dropped front line

-- one byte less, which isn't an LF
pub one_less : (text : List ℕ) (start : ℕ) → 0 < start → (get_or text (start - 1) 0 ≡ 10 → ⊥) → ((i : ℕ) → start ≤ i → i + 1 < length text → get_or text i 0 ≡ 10 → ⊥)
    → (i : ℕ) → start - 1 ≤ i → i + 1 < length text → get_or text i 0 ≡ 10 → ⊥
one_less text start some other none i low high is = elim (cases_lt i start) [
  | inl less ↦
      let same : i ≡ start - 1 = omega (arith, low, less) in
      other (ap (λ n. get_or text n 0) (sym same) ∙ is)
  | inr le ↦ none i (omega (arith, le)) high is
]

taken : (n : ℕ) (xs : List ℕ) → length xs ≤ n → take n xs ≡ xs
taken zero [] h = refl
taken zero (x ∷ xs) h = absurd (omega (arith, h))
taken (suc n) [] h = refl
taken (suc n) (x ∷ xs) h = ap (λ l. x ∷ l) (taken n xs (omega (arith, h)))

pub last_cut : (text front line : List ℕ) (start : ℕ) → text ≡ front ++ line → EndsLine front → IsLine line → start ≤ length text - 1
    → ((i : ℕ) → start ≤ i → i + 1 < length text → get_or text i 0 ≡ 10 → ⊥) → (0 < start → get_or text (start - 1) 0 ≡ 10) → take (length text - start) (drop start text) ≡ line
last_cut text front line start is ended l within none behind =
    let b : Begins text start = record { within = within; none = none; behind = behind } in
    let whole : length text ≡ length front + length line = ap length is ∙ length-append front line in
    ap (take (length text - start)) (last_is text front line start is ended l within none behind)
    ∙ taken (length text - start) line (omega (arith, whole, not_behind text front line start is l b))

pub behind_none : (text : List ℕ) (start : ℕ) → start ≤ 0 → 0 < start → get_or text (start - 1) 0 ≡ 10
behind_none text start none some = absurd (omega (arith, none, some))
