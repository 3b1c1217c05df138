-- A line without control characters.
use Rattle.std.proofs.Common.{ℕ, List, [], ◌∷◌, ◌++◌, ◌≡◌, ◌≤◌, ◌∙◌, Result, Ok, Err, map, refl, ap, append_assoc, append-nil, drop, length, take}
use Rattle.std.proofs.lemmas.List.{take_all, drop_all}
use Rattle.std.proofs.Math.Seq.{take-append_seam, drop-append_seam}
use Rattle.std.specs.Prelude.{Bool, true, false, nat_lt, ◌==◌, OnOk, codes, decimal}
use Rattle.std.specs.List.{list_all}
use Rattle.cluster.specs.declared.entry.Entry.{Entry}
use Rattle.journal_text.specs.Journal.{clean, event_text, line_of}
use Rattle.journal_text.specs.Laws.{is_printed, IsOneLine}

printed_by : (t u : Bool) (b : ℕ) → nat_lt b 32 ≡ t → (b == 127) ≡ u → is_printed (clean b) ≡ true
printed_by true u b p q = rw p refl
printed_by false true b p q = rw (p, q) refl
printed_by false false b p q = rw (p, q, p, q) refl

printed : (b : ℕ) → is_printed (clean b) ≡ true
printed b = printed_by (nat_lt b 32) (b == 127) b refl refl

all_printed : (bs : List ℕ) → list_all is_printed (map clean bs) ≡ true
all_printed [] = refl
all_printed (b ∷ bs) = rw (printed b, all_printed bs) refl

pub one_line : (place : ℕ) (e : Entry) → IsOneLine (line_of place e)
unfolding line_of
one_line place e =
    let text : List ℕ = decimal place ++ codes " " ++ decimal e.job ++ codes " " ++ event_text e.event in
    record { prefix = map clean text; ends = refl; printed = all_printed text }

-- all bytes are cleaned
pub all_clean : (bytes all : List ℕ) (i : ℕ) → length bytes ≤ i → take i bytes ++ map clean (drop i bytes) ≡ all → bytes ≡ all
all_clean bytes all i over done = simp (take_all i bytes over, drop_all i bytes over, append-nil) at done

-- the bytes behind others are cleaned
cleaned_after : (old text : List ℕ) → take (length old) (old ++ text) ++ map clean (drop (length old) (old ++ text)) ≡ old ++ map clean text
cleaned_after old text = rw (take-append_seam old text, drop-append_seam old text) refl

line_of_text : (place : ℕ) (e : Entry) → map clean (decimal place ++ codes " " ++ decimal e.job ++ codes " " ++ event_text e.event) ++ codes "\n" ≡ line_of place e
unfolding line_of
line_of_text place e = refl

-- an entry's text is put behind others and cleaned, and LF is put behind it
pub line_is : {X E : Type 0} (r : Result X E) (place : ℕ) (e : Entry) (from : ℕ) (slice old mid cleaned out : List ℕ) → slice ≡ old → from ≡ length slice
    → mid ≡ old ++ (decimal place ++ codes " " ++ decimal e.job ++ codes " " ++ event_text e.event) → cleaned ≡ take from mid ++ map clean (drop from mid)
    → OnOk r (out ≡ cleaned ++ codes "\n") → OnOk r (out ≡ old ++ line_of place e)
line_is (Err x) place e from slice old mid cleaned out same count written cleaning ended = tt
line_is (Ok u) place e from slice old mid cleaned out same count written cleaning ended =
    let text : List ℕ = decimal place ++ codes " " ++ decimal e.job ++ codes " " ++ event_text e.event in
    let at_end : cleaned ≡ old ++ map clean text =
    cleaning ∙ ap (λ (n : ℕ). take n mid ++ map clean (drop n mid)) (count ∙ ap (λ (l : List ℕ). length l) same)
    ∙ ap (λ (m : List ℕ). take (length old) m ++ map clean (drop (length old) m)) written ∙ cleaned_after old text in
    ended ∙ ap (λ (l : List ℕ). l ++ codes "\n") at_end ∙ append_assoc old (map clean text) (codes "\n") ∙ ap (λ (l : List ℕ). old ++ l) (line_of_text place e)
