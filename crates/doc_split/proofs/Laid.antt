-- That documents lie in bytes as they are found.
use Rattle.std.proofs.Common.{ℕ, suc, ◌+◌, ◌-◌, ◌≤◌, ◌<◌, ◌≡◌, ◌∙◌, Bool, true, false, cond, eqb, leb, List, [], ◌∷◌, ◌++◌, length, take, drop, refl, sym, ap, subst, arith, append_assoc}
use Rattle.std.specs.Prelude.{Option, None, Some, zero}
use Rattle.std.specs.Cmp.Derive.{both_true}
use Rattle.std.proofs.Math.Seq.{take-append-add}
use Rattle.std.proofs.lemmas.Bool.{eqb-true, eqb-false, leb-true, leb-false}
use Rattle.std.proofs.lemmas.List.{length-append, length-take, length-drop, length-take-le, take-append-drop, take-take}
use Rattle.doc_split.specs.Documents.{Document, Documents, Ending, Clean, Unclosed, Stray, TooLong, Long, balanced_after, documents_from, is_balanced, is_blank, length_within, nothing}
use Rattle.doc_split.specs.Layout.{AreBlank, BeginsOne, IsDocument, Lie, MeetsStray, StandsFirst}
use Rattle.doc_split.proofs.Pieces.{balanced_no, balanced_yes}
use Rattle.doc_split.proofs.Steps.{blank_step, found_at, none_from, open_step, skip_all, stray_step}

-- the shortest balanced prefix that is longer than this one
pub record Found (all : List ℕ) (from k : ℕ) : Type 0 where
  pub above : from < k
  pub within : k ≤ length all
  pub balanced : is_balanced (take k all) ≡ true
  pub first : (n : ℕ) → from < n → n < k → is_balanced (take n all) ≡ false

pub record Absent (all : List ℕ) (from : ℕ) : Type 0 where
  pub none : (n : ℕ) → from < n → n ≤ length all → is_balanced (take n all) ≡ false

prefix_more : (prefix : List ℕ) (b : ℕ) (bs : List ℕ) → take (length prefix + 1) (prefix ++ b ∷ bs) ≡ prefix ++ b ∷ []
prefix_more prefix b bs = take-append-add prefix (b ∷ bs) 1

one_more : (prefix : List ℕ) (b : ℕ) → length (prefix ++ b ∷ []) ≡ length prefix + 1
one_more prefix b = length-append prefix (b ∷ [])

next_or_later : (prefix : List ℕ) (b : ℕ) (bs : List ℕ) (n : ℕ) (t : Bool) → eqb n (length prefix + 1) ≡ t → length prefix < n → is_balanced (prefix ++ b ∷ []) ≡ false
    → (length (prefix ++ b ∷ []) < n → is_balanced (take n ((prefix ++ b ∷ []) ++ bs)) ≡ false) → is_balanced (take n (prefix ++ b ∷ bs)) ≡ false
next_or_later prefix b bs n true e h not_here later = ap (λ (k : ℕ). is_balanced (take k (prefix ++ b ∷ bs))) (eqb-true n (length prefix + 1) e) ∙ ap is_balanced (prefix_more prefix b bs) ∙ not_here
next_or_later prefix b bs n false e h not_here later =
    let ne = eqb-false n (length prefix + 1) e in
    let len = one_more prefix b in
    ap (λ (l : List ℕ). is_balanced (take n l)) (sym (append_assoc prefix (b ∷ []) bs)) ∙ later (omega (arith, ne))

found_turn : (prefix : List ℕ) (b : ℕ) (bs : List ℕ) (k : ℕ) (t : Bool) → is_balanced (prefix ++ b ∷ []) ≡ t → balanced_after prefix (b ∷ bs) ≡ Some k
    → (balanced_after (prefix ++ b ∷ []) bs ≡ Some k → Found ((prefix ++ b ∷ []) ++ bs) (length (prefix ++ b ∷ [])) k) → Found (prefix ++ b ∷ bs) (length prefix) k
found_turn prefix b bs k true e found later =
    let is : Some (length prefix + 1) ≡ Some k = sym (balanced_yes prefix b bs e) ∙ found in
    let k_is : length prefix + 1 ≡ k = cc in
    let len : length (prefix ++ b ∷ bs) ≡ length prefix + suc (length bs) = length-append prefix (b ∷ bs) in
    record {
      above = omega arith;
      within = omega arith;
      balanced = ap (λ (n : ℕ). is_balanced (take n (prefix ++ b ∷ bs))) (sym k_is) ∙ ap is_balanced (prefix_more prefix b bs) ∙ e;
      first = λ n low high. absurd (omega arith);
    }
found_turn prefix b bs k false e found later =
    let f = later (sym (balanced_no prefix b bs e) ∙ found) in
    let join : (prefix ++ b ∷ []) ++ bs ≡ prefix ++ b ∷ bs = append_assoc prefix (b ∷ []) bs in
    let len = one_more prefix b in
    record {
      above = omega (arith, f.above);
      within = subst (λ (l : List ℕ). k ≤ length l) join f.within;
      balanced = ap (λ (l : List ℕ). is_balanced (take k l)) (sym join) ∙ f.balanced;
      first = λ n low high. next_or_later prefix b bs n (eqb n (length prefix + 1)) refl low e (λ h. f.first n h high);
    }

pub found_by : (bs prefix : List ℕ) (k : ℕ) → balanced_after prefix bs ≡ Some k → Found (prefix ++ bs) (length prefix) k
unfolding balanced_after
found_by [] prefix k e = absurd (cc)
found_by (b ∷ bs) prefix k e = found_turn prefix b bs k (is_balanced (prefix ++ b ∷ [])) refl e (λ later. found_by bs (prefix ++ b ∷ []) k later)

absent_turn : (prefix : List ℕ) (b : ℕ) (bs : List ℕ) (t : Bool) → is_balanced (prefix ++ b ∷ []) ≡ t → balanced_after prefix (b ∷ bs) ≡ None
    → (balanced_after (prefix ++ b ∷ []) bs ≡ None → Absent ((prefix ++ b ∷ []) ++ bs) (length (prefix ++ b ∷ []))) → Absent (prefix ++ b ∷ bs) (length prefix)
absent_turn prefix b bs true e none later = let is : Some (length prefix + 1) ≡ None = sym (balanced_yes prefix b bs e) ∙ none in absurd (cc)
absent_turn prefix b bs false e none later =
    let f = later (sym (balanced_no prefix b bs e) ∙ none) in
    let join : (prefix ++ b ∷ []) ++ bs ≡ prefix ++ b ∷ bs = append_assoc prefix (b ∷ []) bs in
    record {
      none = λ n low high. next_or_later prefix b bs n (eqb n (length prefix + 1)) refl low e (λ h. f.none n h (subst (λ (l : List ℕ). n ≤ length l) (sym join) high));
    }

pub absent_by : (bs prefix : List ℕ) → balanced_after prefix bs ≡ None → Absent (prefix ++ bs) (length prefix)
unfolding balanced_after
absent_by [] prefix e = record { none = λ n low high. let len : length (prefix ++ []) ≡ length prefix + 0 = length-append prefix [] in absurd (omega arith) }
absent_by (b ∷ bs) prefix e = absent_turn prefix b bs (is_balanced (prefix ++ b ∷ [])) refl e (λ later. absent_by bs (prefix ++ b ∷ []) later)

blank_cons : (b : ℕ) (gap : List ℕ) → is_blank b ≡ true → AreBlank gap → AreBlank (b ∷ gap)
blank_cons b gap e h = both_true e h

begins_before : (most at b : ℕ) (bs : List ℕ) (place : ℕ) (prefix : List ℕ) → is_blank b ≡ true → BeginsOne most (at + 1) bs place prefix → BeginsOne most at (b ∷ bs) place prefix
begins_before most at b bs place prefix e h = record {
  gap = b ∷ h.gap;
  is = ap (λ (l : List ℕ). b ∷ l) h.is;
  blank = blank_cons b h.gap e h.blank;
  place_is = omega (arith, h.place_is);
  begins = h.begins;
  open_ = h.open_;
}

stray_before : (at b : ℕ) (bs : List ℕ) (place : ℕ) → is_blank b ≡ true → MeetsStray (at + 1) bs place → MeetsStray at (b ∷ bs) place
stray_before at b bs place e h = record {
  gap = b ∷ h.gap;
  byte = h.byte;
  rest = h.rest;
  is = ap (λ (l : List ℕ). b ∷ l) h.is;
  blank = blank_cons b h.gap e h.blank;
  place_is = omega (arith, h.place_is);
  other = h.other;
  no_brace = h.no_brace;
}

first_before : (most at b : ℕ) (bs : List ℕ) (doc : Document) (rest : List ℕ) → is_blank b ≡ true → StandsFirst most (at + 1) bs doc rest → StandsFirst most at (b ∷ bs) doc rest
first_before most at b bs doc rest e h = record {
  gap = b ∷ h.gap;
  is = ap (λ (l : List ℕ). b ∷ l) h.is;
  blank = blank_cons b h.gap e h.blank;
  at_is = omega (arith, h.at_is);
  document = h.document;
}

-- one blank more before what lies there
blank_before : (most at b : ℕ) (bs : List ℕ) (docs : List Document) (ending : Ending) → is_blank b ≡ true → Lie most (at + 1) bs docs ending → Lie most at (b ∷ bs) docs ending
blank_before most at b bs [] Clean e h = blank_cons b bs e h
blank_before most at b bs [] (Unclosed place) e h = (h.0, begins_before most at b bs place h.0 e h.1, h.2)
blank_before most at b bs [] (Stray place) e h = stray_before at b bs place e h
blank_before most at b bs [] (TooLong place) e h = (h.0, begins_before most at b bs place h.0 e h.1, h.2)
blank_before most at b bs [] Long e h = absurd h
blank_before most at b bs (doc ∷ docs) ending e h = (h.0, first_before most at b bs doc h.0 e h.1, h.2)

-- these documents lie so
abbrev pub LieSo : ℕ → ℕ → List ℕ → Documents → Type 0
LieSo most at bytes d = Lie most at bytes d.documents d.ending

begins_here : (most at : ℕ) (bs : List ℕ) → length_within most (123 ∷ bs) ≡ None → BeginsOne most at (123 ∷ bs) at (123 ∷ bs)
begins_here most at bs none =
    let a = absent_by (take most (123 ∷ bs)) [] none in
    let len = length-take most (123 ∷ bs) in
    record {
      gap = [];
      is = refl;
      blank = refl;
      place_is = omega arith;
      begins = (bs, refl);
      open_ = λ n low high small. ap is_balanced (sym (take-take n most (123 ∷ bs) small)) ∙ a.none n low (omega arith);
    }

open_lies : (most at : ℕ) (bs : List ℕ) (t : Bool) → leb (suc (length bs)) most ≡ t → length_within most (123 ∷ bs) ≡ None → LieSo most at (123 ∷ bs) (nothing (cond t (Unclosed at) (TooLong at)))
open_lies most at bs true e none = (123 ∷ bs, begins_here most at bs none, leb-true (suc (length bs)) most e)
open_lies most at bs false e none = (123 ∷ bs, begins_here most at bs none, leb-false (suc (length bs)) most e)

document_is : (most k j : ℕ) (bs : List ℕ) → k ≡ suc j → Found (take most (123 ∷ bs)) 0 k → IsDocument most (take k (123 ∷ bs))
document_is most k j bs s f =
    let len = length-take most (123 ∷ bs) in
    let within : k ≤ suc (length bs) = omega (arith, f.within) in
    let size : length (take k (123 ∷ bs)) ≡ k = length-take-le k (123 ∷ bs) within in
    let small : k ≤ most = omega (arith, f.within) in
    record {
      begins = (take j bs, ap (λ (n : ℕ). take n (123 ∷ bs)) s);
      balanced = ap is_balanced (sym (take-take k most (123 ∷ bs) small)) ∙ f.balanced;
      first = λ n low high.
          let below : n < k = omega arith in
          ap is_balanced (take-take n k (123 ∷ bs) (omega arith) ∙ sym (take-take n most (123 ∷ bs) (omega arith))) ∙ f.first n low below;
      small = omega arith;
    }

behind_is : (most at k j : ℕ) (bs : List ℕ) → k ≡ suc j → j ≤ length bs → documents_from most (k - 1) (at + 1) bs ≡ documents_from most 0 (at + k) (drop k (123 ∷ bs))
behind_is most at k j bs s h =
    let j_is : k - 1 ≡ length (take j bs) = omega (arith, length-take-le j bs h) in
    let at_is : at + 1 + length (take j bs) ≡ at + k = omega (arith, length-take-le j bs h) in
    ap (λ (n : ℕ). documents_from most n (at + 1) bs) j_is
    ∙ ap (λ (l : List ℕ). documents_from most (length (take j bs)) (at + 1) l) (sym (take-append-drop j bs))
    ∙ skip_all most (at + 1) (take j bs) (drop j bs)
    ∙ ap (λ (n : ℕ). documents_from most 0 n (drop j bs)) at_is
    ∙ ap (λ (n : ℕ). documents_from most 0 (at + k) (drop n (123 ∷ bs))) (sym s)

found_lies : (most at k j : ℕ) (bs : List ℕ) → k ≡ suc j → length_within most (123 ∷ bs) ≡ Some k → Found (take most (123 ∷ bs)) 0 k
    → ((at : ℕ) (bytes : List ℕ) → length bytes ≤ length bs → LieSo most at bytes (documents_from most 0 at bytes)) → LieSo most at (123 ∷ bs) (documents_from most 0 at (123 ∷ bs))
found_lies most at k j bs s found f ih =
    let len = length-take most (123 ∷ bs) in
    let within : k ≤ suc (length bs) = omega (arith, f.within) in
    let size : length (take k (123 ∷ bs)) ≡ k = length-take-le k (123 ∷ bs) within in
    let left = length-drop k (123 ∷ bs) in
    let first : StandsFirst most at (123 ∷ bs) (record { at = at; bytes = take k (123 ∷ bs) }) (drop k (123 ∷ bs)) = record {
      gap = [];
      is = sym (take-append-drop k (123 ∷ bs));
      blank = refl;
      at_is = omega arith;
      document = document_is most k j bs s f;
    } in
    let rest = ih (at + k) (drop k (123 ∷ bs)) (omega arith) in
    let there : LieSo most (at + length (take k (123 ∷ bs))) (drop k (123 ∷ bs)) (documents_from most (k - 1) (at + 1) bs) =
    subst (λ (d : Documents). LieSo most (at + length (take k (123 ∷ bs))) (drop k (123 ∷ bs)) d) (sym (behind_is most at k j bs s (omega arith)))
    (subst (λ (n : ℕ). LieSo most (at + n) (drop k (123 ∷ bs)) (documents_from most 0 (at + k) (drop k (123 ∷ bs)))) (sym size) rest) in
    subst (LieSo most at (123 ∷ bs)) (sym (found_at most at bs k found)) (drop k (123 ∷ bs), first, there)

lie_length : (most at : ℕ) (bs : List ℕ) (o : Option ℕ) → length_within most (123 ∷ bs) ≡ o
    → ((at : ℕ) (bytes : List ℕ) → length bytes ≤ length bs → LieSo most at bytes (documents_from most 0 at bytes)) → LieSo most at (123 ∷ bs) (documents_from most 0 at (123 ∷ bs))
lie_length most at bs None e ih = subst (LieSo most at (123 ∷ bs)) (sym (open_step most at bs e)) (open_lies most at bs (leb (suc (length bs)) most) refl e)
lie_length most at bs (Some k) e ih =
    let f : Found (take most (123 ∷ bs)) 0 k = found_by (take most (123 ∷ bs)) [] k e in
    found_lies most at k (k - 1) bs (omega (arith, f.above)) e f ih

lie_brace : (most at b : ℕ) (bs : List ℕ) (t : Bool) → eqb b 123 ≡ t → is_blank b ≡ false
    → ((at : ℕ) (bytes : List ℕ) → length bytes ≤ length bs → LieSo most at bytes (documents_from most 0 at bytes)) → LieSo most at (b ∷ bs) (documents_from most 0 at (b ∷ bs))
lie_brace most at b bs true f e ih =
    subst (λ (x : ℕ). LieSo most at (x ∷ bs) (documents_from most 0 at (x ∷ bs))) (sym (eqb-true b 123 f)) (lie_length most at bs (length_within most (123 ∷ bs)) refl ih)
lie_brace most at b bs false f e ih =
    let stray : MeetsStray at (b ∷ bs) at = record {
      gap = [];
      byte = b;
      rest = bs;
      is = refl;
      blank = refl;
      place_is = omega arith;
      other = e;
      no_brace = eqb-false b 123 f;
    } in
    subst (LieSo most at (b ∷ bs)) (sym (stray_step most at b bs e f)) stray

lie_byte : (most at b : ℕ) (bs : List ℕ) (t : Bool) → is_blank b ≡ t
    → ((at : ℕ) (bytes : List ℕ) → length bytes ≤ length bs → LieSo most at bytes (documents_from most 0 at bytes)) → LieSo most at (b ∷ bs) (documents_from most 0 at (b ∷ bs))
lie_byte most at b bs true e ih =
    let d = documents_from most 0 (at + 1) bs in
    subst (LieSo most at (b ∷ bs)) (sym (blank_step most at b bs e))
    (blank_before most at b bs (documents_from most 0 (at + 1) bs).documents (documents_from most 0 (at + 1) bs).ending e (ih (at + 1) bs (omega arith)))
lie_byte most at b bs false e ih = lie_brace most at b bs (eqb b 123) refl e ih

lie_by : (n most at : ℕ) (bytes : List ℕ) → length bytes ≤ n → LieSo most at bytes (documents_from most 0 at bytes)
lie_by n most at [] h = let blank : AreBlank [] = refl in subst (LieSo most at []) (sym (none_from most at)) blank
lie_by zero most at (b ∷ bs) h = absurd (omega arith)
lie_by (suc n) most at (b ∷ bs) h = lie_byte most at b bs (is_blank b) refl (λ at bytes small. lie_by n most at bytes (omega arith))

pub lie_at : (most at : ℕ) (bytes : List ℕ) → Lie most at bytes (documents_from most 0 at bytes).documents (documents_from most 0 at bytes).ending
lie_at most at bytes = lie_by (length bytes) most at bytes (omega arith)
