-- Lines of histories, one after another.
use Rattle.std.proofs.Common.{ℕ, ◌≡◌, ◌∙◌, ◌++◌, ◌+◌, ◌<◌, ◌^◌, List, [], ◌∷◌, length, true, map, refl, sym, ap, append_assoc, append-nil, arith}
use Rattle.std.specs.Prelude.{codes, decimal}
use Rattle.std.proofs.lemmas.Fmt.{decimal_injective}
use Rattle.std.proofs.lemmas.List.{append_cancel_left}
use Rattle.cluster.specs.declared.entry.Entry.{Entry}
use Rattle.cluster.specs.History.{state_of}
use Rattle.histories.specs.Determined.{kind_word}
use Rattle.journal_text.specs.Journal.{bound_count, clean, granted_count, line_of, lines_from, summary_by, summary_of, text_of}
use Rattle.journal_laws.specs.Told.{SameLines}
use Rattle.journal_laws.proofs.Cuts.{cut, lacks, lacks_append}
use Rattle.journal_laws.proofs.Digits.{IsAbove, above_apart, decimal_digits, decimal_number, digits_lack}
use Rattle.journal_laws.proofs.Events.{spelled}
use Rattle.journal_laws.proofs.Lines.{line_ends, line_parts}

-- a line begins with a digit, and what begins above the digits is none
line_first : (p : ℕ) (e : Entry) → (rest : List ℕ) × (line_of p e ≡ decimal p ++ rest)
line_first p e =
    let rest : List ℕ = 32 ∷ (decimal e.job ++ 32 ∷ (kind_word e.event ++ 32 ∷ map clean (spelled e.event).rest)) in
    (rest ++ codes "\n", line_parts p e ∙ append_assoc (decimal p) rest (codes "\n"))

no_line : (p : ℕ) (e : Entry) (x more : List ℕ) → IsAbove x → x ≡ line_of p e ++ more → ⊥
no_line p e x more above same =
    let first = line_first p e in
    above_apart x (decimal p) (first.0 ++ more) above (decimal_number p) (same ∙ ap (λ (l : List ℕ). l ++ more) first.1 ∙ append_assoc (decimal p) first.0 more)

-- each line ends at its LF
first_same : (a b r s xs ys : List ℕ) → lacks 10 a ≡ true → lacks 10 b ≡ true → r ≡ a ++ codes "\n" → s ≡ b ++ codes "\n" → r ++ xs ≡ s ++ ys → (r ≡ s) × (xs ≡ ys)
first_same a b r s xs ys f g is was same =
    let both : a ++ 10 ∷ xs ≡ b ++ 10 ∷ ys =
    sym (ap (λ (l : List ℕ). l ++ xs) is ∙ append_assoc a (codes "\n") xs) ∙ same ∙ (ap (λ (l : List ℕ). l ++ ys) was ∙ append_assoc b (codes "\n") ys) in
    let done = cut 10 a b xs ys f g both in
    (is ∙ ap (λ (l : List ℕ). l ++ codes "\n") done.0 ∙ sym was, done.1)

pub lines_same : (n : ℕ) (h g : List Entry) (x y : List ℕ) → IsAbove x → IsAbove y → lines_from n h ++ x ≡ lines_from n g ++ y → SameLines n h g × (x ≡ y)
unfolding lines_from
lines_same n [] [] x y f g same = (tt, same)
lines_same n [] (e ∷ es) x y f g same = absurd (no_line (n + 1) e x (lines_from (n + 1) es ++ y) f (same ∙ append_assoc (line_of (n + 1) e) (lines_from (n + 1) es) y))
lines_same n (d ∷ ds) [] x y f g same = absurd (no_line (n + 1) d y (lines_from (n + 1) ds ++ x) g (sym same ∙ append_assoc (line_of (n + 1) d) (lines_from (n + 1) ds) x))
lines_same n (d ∷ ds) (e ∷ es) x y f g same =
    let a = line_ends (n + 1) d in
    let b = line_ends (n + 1) e in
    let one =
    first_same a.0 b.0 (line_of (n + 1) d) (line_of (n + 1) e) (lines_from (n + 1) ds ++ x) (lines_from (n + 1) es ++ y) a.1 b.1 a.2 b.2
    (sym (append_assoc (line_of (n + 1) d) (lines_from (n + 1) ds) x) ∙ same ∙ append_assoc (line_of (n + 1) e) (lines_from (n + 1) es) y) in
    let more = lines_same (n + 1) ds es x y f g one.1 in
    ((one.0, more.0), more.1)

pub lines_alone : (n : ℕ) (h g : List Entry) → lines_from n h ≡ lines_from n g → SameLines n h g
lines_alone n h g same = (lines_same n h g [] [] tt tt (append-nil (lines_from n h) ∙ same ∙ sym (append-nil (lines_from n g)))).0

pub count_same : (n : ℕ) (h g : List Entry) → SameLines n h g → length h ≡ length g
count_same n [] [] same = refl
count_same n [] (e ∷ es) same = absurd same
count_same n (d ∷ ds) [] same = absurd same
count_same n (d ∷ ds) (e ∷ es) same = omega (arith, count_same (n + 1) ds es same.1)

-- ---- the whole text

pub lines_again : (n : ℕ) (h g : List Entry) → SameLines n h g → lines_from n h ≡ lines_from n g
unfolding lines_from
lines_again n [] [] same = refl
lines_again n [] (e ∷ es) same = absurd same
lines_again n (d ∷ ds) [] same = absurd same
lines_again n (d ∷ ds) (e ∷ es) same =
    ap (λ (l : List ℕ). l ++ lines_from (n + 1) ds) same.0 ∙ ap (λ (l : List ℕ). line_of (n + 1) e ++ l) (lines_again (n + 1) ds es same.1)

summary_above : (h : List Entry) (n : ℕ) → IsAbove (summary_of h n)
unfolding summary_by
summary_above h n = omega arith

pub texts_same : (h g : List Entry) (m n : ℕ) → text_of h m ≡ text_of g n → lines_from 0 h ≡ lines_from 0 g
unfolding text_of
texts_same h g m n same = lines_again 0 h g (lines_same 0 h g (summary_of h m) (summary_of g n) (summary_above h m) (summary_above g n) same).0

-- ---- the number of commands

-- what follows the lines: the words of the summary
summary_row : (a b c d : List ℕ)
    → codes "summary entries=" ++ a ++ codes " commands=" ++ b ++ codes " granted=" ++ c ++ codes " bound=" ++ d ++ codes "\n"
    ≡ codes "summary" ++ 32 ∷ ((codes "entries=" ++ a) ++ 32 ∷ ((codes "commands=" ++ b) ++ 32 ∷ (codes "granted=" ++ c ++ codes " bound=" ++ d ++ codes "\n")))
summary_row a b c d = simp append_assoc

digits_clear : (n : ℕ) → lacks 32 (decimal n) ≡ true
digits_clear n = digits_lack 32 (decimal n) (omega arith) (decimal_digits n)

third_word : (a b c f g h : List ℕ) → lacks 32 a ≡ true → lacks 32 b ≡ true → lacks 32 f ≡ true → lacks 32 g ≡ true
    → codes "summary" ++ 32 ∷ ((codes "entries=" ++ a) ++ 32 ∷ ((codes "commands=" ++ b) ++ 32 ∷ c)) ≡ codes "summary" ++ 32 ∷ ((codes "entries=" ++ f) ++ 32 ∷ ((codes "commands=" ++ g) ++ 32 ∷ h)) → b ≡ g
third_word a b c f g h i j k l same =
    let one = cut 32 (codes "summary") (codes "summary") ((codes "entries=" ++ a) ++ 32 ∷ ((codes "commands=" ++ b) ++ 32 ∷ c)) ((codes "entries=" ++ f) ++ 32 ∷ ((codes "commands=" ++ g) ++ 32 ∷ h)) refl refl same in
    let two =
    cut 32 (codes "entries=" ++ a) (codes "entries=" ++ f) ((codes "commands=" ++ b) ++ 32 ∷ c) ((codes "commands=" ++ g) ++ 32 ∷ h) (lacks_append 32 (codes "entries=") a refl i) (lacks_append 32 (codes "entries=") f refl k) one.1 in
    let three = cut 32 (codes "commands=" ++ b) (codes "commands=" ++ g) c h (lacks_append 32 (codes "commands=") b refl j) (lacks_append 32 (codes "commands=") g refl l) two.1 in
    append_cancel_left (codes "commands=") b g three.0

summary_commands : (h g : List Entry) (m n : ℕ) → summary_of h m ≡ summary_of g n → decimal m ≡ decimal n
unfolding summary_by
summary_commands h g m n same =
    let a = granted_count (state_of h) in
    let b = bound_count (state_of h) in
    let c = granted_count (state_of g) in
    let d = bound_count (state_of g) in
    third_word (decimal (length h)) (decimal m) (codes "granted=" ++ decimal a ++ codes " bound=" ++ decimal b ++ codes "\n")
    (decimal (length g)) (decimal n) (codes "granted=" ++ decimal c ++ codes " bound=" ++ decimal d ++ codes "\n")
    (digits_clear (length h)) (digits_clear m) (digits_clear (length g)) (digits_clear n)
    (sym (summary_row (decimal (length h)) (decimal m) (decimal a) (decimal b)) ∙ same ∙ summary_row (decimal (length g)) (decimal n) (decimal c) (decimal d))

pub commands_same : (h g : List Entry) (m n : ℕ) → m < 2 ^ 64 → n < 2 ^ 64 → text_of h m ≡ text_of g n → m ≡ n
unfolding text_of
commands_same h g m n few less same =
    decimal_injective m n few less (summary_commands h g m n (lines_same 0 h g (summary_of h m) (summary_of g n) (summary_above h m) (summary_above g n) same).1)
