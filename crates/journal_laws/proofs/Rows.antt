-- Texts of lines, of which those that begin with a digit are of entries.
use Rattle.std.proofs.Common.{ℕ, ◌≡◌, ◌∙◌, ◌++◌, ◌+◌, List, [], ◌∷◌, Bool, true, false, cond, map, filter, length, refl, sym, ap, subst, append_assoc, append-nil, arith}
use Rattle.std.specs.Prelude.{codes, decimal}
use Rattle.std.specs.List.{list_all}
use Rattle.std.proofs.lemmas.Bool.{and_from, and_parts, le-leb}
use Rattle.std.proofs.lemmas.List.Elements.{filter-append}
use Rattle.cluster.specs.declared.entry.Entry.{Entry}
use Rattle.cluster.specs.History.{state_of}
use Rattle.histories.specs.Determined.{kind_word}
use Rattle.journal_text.specs.Journal.{bound_count, clean, granted_count, kubelet_line, line_of, lines_from, summary_by, summary_of}
use Rattle.journal_laws.specs.Rows.{HasEntries, begins_with_digit, is_row, rows_text}
use Rattle.journal_laws.proofs.Cuts.{cut, lacks, lacks_append}
use Rattle.journal_laws.proofs.Digits.{IsNumber, decimal_digits, decimal_number, digits_lack}
use Rattle.journal_laws.proofs.Events.{kind_ends, spelled}
use Rattle.journal_laws.proofs.Lines.{clean_ends, line_parts, parts}

-- ---- a text is lines in one way

none_left : (row rest : List ℕ) → [] ≡ row ++ codes "\n" ++ rest → ⊥
none_left [] rest e = absurd (cc)
none_left (b ∷ row) rest e = absurd (cc)

first_row : (row rest : List ℕ) → row ++ codes "\n" ++ rest ≡ row ++ 10 ∷ rest
first_row row rest = append_assoc row (codes "\n") rest

more_rows : (x y : List ℕ) (xs ys : List (List ℕ)) → x ≡ y → xs ≡ ys → x ∷ xs ≡ y ∷ ys
more_rows x y xs ys e f = cc

rows_same : (xs ys : List (List ℕ)) → list_all is_row xs ≡ true → list_all is_row ys ≡ true → rows_text xs ≡ rows_text ys → xs ≡ ys
rows_same [] [] f g same = refl
rows_same [] (y ∷ ys) f g same = absurd (none_left y (rows_text ys) same)
rows_same (x ∷ xs) [] f g same = absurd (none_left x (rows_text xs) (sym same))
rows_same (x ∷ xs) (y ∷ ys) f g same =
    let p = and_parts _ _ f in
    let q = and_parts _ _ g in
    let one = cut 10 x y (rows_text xs) (rows_text ys) p.0 q.0 (sym (first_row x (rows_text xs)) ∙ same ∙ first_row y (rows_text ys)) in
    more_rows x y xs ys one.0 (rows_same xs ys p.1 q.1 one.1)

pub entries_same : (text other own others : List ℕ) → HasEntries text own → HasEntries other others → text ≡ other → own ≡ others
entries_same text other own others h g same =
    let rows : h.rows ≡ g.rows = rows_same h.rows g.rows h.are_rows g.are_rows (sym h.is ∙ same ∙ g.is) in
    h.entries ∙ ap (λ (l : List (List ℕ)). rows_text (filter begins_with_digit l)) rows ∙ sym g.entries

-- ---- a text after another

rows_append : (xs ys : List (List ℕ)) → rows_text (xs ++ ys) ≡ rows_text xs ++ rows_text ys
rows_append [] ys = refl
rows_append (x ∷ xs) ys = ap (λ (l : List ℕ). x ++ codes "\n" ++ l) (rows_append xs ys) ∙ sym (append_assoc (x ++ codes "\n") (rows_text xs) (rows_text ys))

all_append : (xs ys : List (List ℕ)) → list_all is_row xs ≡ true → list_all is_row ys ≡ true → list_all is_row (xs ++ ys) ≡ true
all_append [] ys f g = g
all_append (x ∷ xs) ys f g = let p = and_parts _ _ f in and_from _ _ p.0 (all_append xs ys p.1 g)

both : (a b c d : List ℕ) → a ≡ c → b ≡ d → a ++ b ≡ c ++ d
both a b c d e f = ap (λ (l : List ℕ). l ++ b) e ∙ ap (λ (l : List ℕ). c ++ l) f

pub entries_none : HasEntries [] []
entries_none = record { rows = []; are_rows = refl; is = refl; entries = refl }

pub entries_more : (text other own others : List ℕ) → HasEntries text own → HasEntries other others → HasEntries (text ++ other) (own ++ others)
entries_more text other own others h g = record {
  rows = h.rows ++ g.rows;
  are_rows = all_append h.rows g.rows h.are_rows g.are_rows;
  is = both text other (rows_text h.rows) (rows_text g.rows) h.is g.is ∙ sym (rows_append h.rows g.rows);
  entries =
      both own others (rows_text (filter begins_with_digit h.rows)) (rows_text (filter begins_with_digit g.rows)) h.entries g.entries
      ∙ sym (rows_append (filter begins_with_digit h.rows) (filter begins_with_digit g.rows)) ∙ ap rows_text (sym (filter-append begins_with_digit h.rows g.rows));
}

-- ---- one line

alone : (row : List ℕ) → row ++ codes "\n" ≡ rows_text (row ∷ [])
alone row = sym (append-nil (row ++ codes "\n"))

kept_row : (row : List ℕ) (b : Bool) → begins_with_digit row ≡ b → filter begins_with_digit (row ∷ []) ≡ cond b (row ∷ []) []
kept_row row b is = ap (λ c. cond c (row ∷ []) []) is

own_row : (row : List ℕ) → is_row row ≡ true → begins_with_digit row ≡ true → HasEntries (row ++ codes "\n") (row ++ codes "\n")
own_row row f g = record { rows = row ∷ []; are_rows = and_from _ _ f refl; is = alone row; entries = alone row ∙ ap rows_text (sym (kept_row row true g)) }

other_row : (row : List ℕ) → is_row row ≡ true → begins_with_digit row ≡ false → HasEntries (row ++ codes "\n") []
other_row row f g = record { rows = row ∷ []; are_rows = and_from _ _ f refl; is = alone row; entries = ap rows_text (sym (kept_row row false g)) }

number_begins : (ds rest row : List ℕ) → IsNumber ds → row ≡ ds ++ rest → begins_with_digit row ≡ true
number_begins [] rest row h is = absurd h
number_begins (d ∷ ds) rest row h is = ap begins_with_digit is ∙ and_from _ _ (le-leb 48 d h.0.low) (le-leb d 57 h.0.high)

-- ---- entries, the kubelet and the summary

row_lacks : (p : ℕ) (e : Entry) → lacks 10 (parts p e.job (kind_word e.event) (map clean (spelled e.event).rest)) ≡ true
row_lacks p e =
    let ten : (n : ℕ) → lacks 10 (decimal n) ≡ true = λ n. digits_lack 10 (decimal n) (omega arith) (decimal_digits n) in
    let rest = map clean (spelled e.event).rest in
    let kind = kind_word e.event in
    lacks_append 10 (decimal p) (32 ∷ (decimal e.job ++ 32 ∷ (kind ++ 32 ∷ rest))) (ten p)
    (lacks_append 10 (decimal e.job) (32 ∷ (kind ++ 32 ∷ rest)) (ten e.job) (lacks_append 10 kind (32 ∷ rest) (kind_ends e.event) (clean_ends (spelled e.event).rest)))

line_own : (p : ℕ) (e : Entry) → HasEntries (line_of p e) (line_of p e)
line_own p e =
    let rest = map clean (spelled e.event).rest in
    let row = parts p e.job (kind_word e.event) rest in
    subst (λ (l : List ℕ). HasEntries l l) (sym (line_parts p e))
    (own_row row (row_lacks p e) (number_begins (decimal p) (32 ∷ (decimal e.job ++ 32 ∷ (kind_word e.event ++ 32 ∷ rest))) row (decimal_number p) refl))

pub entries_own : (n : ℕ) (es : List Entry) → HasEntries (lines_from n es) (lines_from n es)
unfolding lines_from
entries_own n [] = entries_none
entries_own n (e ∷ es) = entries_more (line_of (n + 1) e) (lines_from (n + 1) es) (line_of (n + 1) e) (lines_from (n + 1) es) (line_own (n + 1) e) (entries_own (n + 1) es)

pub kubelet_none : (job : ℕ) (text : List ℕ) → HasEntries (kubelet_line job text) []
unfolding kubelet_line
kubelet_none job text =
    let words : List ℕ = codes "- " ++ decimal job ++ codes " " ++ text in
    other_row (map clean words) (clean_ends words) refl

summary_row : (a b c d : List ℕ) → lacks 10 a ≡ true → lacks 10 b ≡ true → lacks 10 c ≡ true → lacks 10 d ≡ true
    → lacks 10 (codes "summary entries=" ++ a ++ codes " commands=" ++ b ++ codes " granted=" ++ c ++ codes " bound=" ++ d) ≡ true
summary_row a b c d f g h i =
    let first = codes "summary entries=" ++ a in
    let second = first ++ codes " commands=" ++ b in
    let third = second ++ codes " granted=" ++ c in
    lacks_append 10 (third ++ codes " bound=") d
    (lacks_append 10 third (codes " bound=")
    (lacks_append 10 (second ++ codes " granted=") c
    (lacks_append 10 second (codes " granted=")
    (lacks_append 10 (first ++ codes " commands=") b (lacks_append 10 first (codes " commands=") (lacks_append 10 (codes "summary entries=") a refl f) refl) g) refl) h) refl) i

pub summary_none : (h : List Entry) (n : ℕ) → HasEntries (summary_of h n) []
unfolding summary_by
summary_none h n =
    let ten : (m : ℕ) → lacks 10 (decimal m) ≡ true = λ m. digits_lack 10 (decimal m) (omega arith) (decimal_digits m) in
    let granted = granted_count (state_of h) in
    let bound = bound_count (state_of h) in
    other_row (codes "summary entries=" ++ decimal (length h) ++ codes " commands=" ++ decimal n ++ codes " granted=" ++ decimal granted ++ codes " bound=" ++ decimal bound)
    (summary_row (decimal (length h)) (decimal n) (decimal granted) (decimal bound) (ten (length h)) (ten n) (ten granted) (ten bound)) refl
