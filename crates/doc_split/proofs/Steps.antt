-- What the documents of bytes are, by what comes first.
use Rattle.std.proofs.Common.{ℕ, suc, ◌+◌, ◌-◌, ◌≤◌, ◌<◌, ◌≡◌, ◌∙◌, Bool, true, false, cond, eqb, List, [], ◌∷◌, ◌++◌, length, take, refl, sym, ap, arith, append-nil}
use Rattle.std.specs.Prelude.{Option, None, Some, unwrap_or}
use Rattle.std.specs.List.{prefix_len}
use Rattle.std.proofs.Math.Seq.{take-append_seam, take-append-add}
use Rattle.std.proofs.lemmas.Bool.{le-leb, lt-leb}
use Rattle.std.proofs.lemmas.List.{take_all, take_at, length-append}
use Rattle.doc_split.specs.Documents.{Clean, Unclosed, Stray, TooLong, add_document, balanced_after, before, documents_from, is_blank, length_within, nothing, open_ending}
use Rattle.doc_split.specs.Begun.{IsClosed, StaysOpen}

at_other : (most : ℕ) (at other : ℕ) (more : List ℕ) → at ≡ other → documents_from most 0 at more ≡ documents_from most 0 other more
at_other most at other more e = ap (λ (k : ℕ). documents_from most 0 k more) e

pub none_from : (most at : ℕ) → documents_from most 0 at [] ≡ nothing Clean
unfolding documents_from
none_from most at = refl

-- bytes of the document before
pub skip_all : (most at : ℕ) (doc more : List ℕ) → documents_from most (length doc) at (doc ++ more) ≡ documents_from most 0 (at + length doc) more
unfolding documents_from
skip_all most at [] more = at_other most at (at + 0) more (omega arith)
skip_all most at (b ∷ bs) more = skip_all most (at + 1) bs more ∙ at_other most (at + 1 + length bs) (at + suc (length bs)) more (omega arith)

pub blank_step : (most at b : ℕ) (bs : List ℕ) → is_blank b ≡ true → documents_from most 0 at (b ∷ bs) ≡ documents_from most 0 (at + 1) bs
unfolding documents_from
blank_step most at b bs e = rw e refl

pub stray_step : (most at b : ℕ) (bs : List ℕ) → is_blank b ≡ false → eqb b 123 ≡ false → documents_from most 0 at (b ∷ bs) ≡ nothing (Stray at)
unfolding documents_from
stray_step most at b bs e f = rw (e, f) refl

passes_turn : (most at b n : ℕ) (bs more : List ℕ) (t : Bool) → is_blank b ≡ t → documents_from most 0 (at + 1) (take n bs ++ more) ≡ documents_from most 0 (at + 1 + n) more
    → documents_from most 0 at (take (cond t (1 + n) 0) (b ∷ bs) ++ more) ≡ documents_from most 0 (at + cond t (1 + n) 0) more
passes_turn most at b n bs more false e h = at_other most at (at + 0) more (omega arith)
passes_turn most at b n bs more true e h =
    let s : 1 + n ≡ suc n = omega arith in
    let t : take (1 + n) (b ∷ bs) ≡ b ∷ take n bs = ap (λ (k : ℕ). take k (b ∷ bs)) s in
    ap (λ (l : List ℕ). documents_from most 0 at (l ++ more)) t
    ∙ blank_step most at b (take n bs ++ more) e
    ∙ h
    ∙ at_other most (at + 1 + n) (at + (1 + n)) more (omega arith)

-- the blanks that bytes begin with
pub passes_prefix : (most at : ℕ) (bytes more : List ℕ) → documents_from most 0 at (take (prefix_len is_blank bytes) bytes ++ more) ≡ documents_from most 0 (at + prefix_len is_blank bytes) more
passes_prefix most at [] more = at_other most at (at + 0) more (omega arith)
passes_prefix most at (b ∷ bs) more = passes_turn most at b (prefix_len is_blank bs) bs more (is_blank b) refl (passes_prefix most (at + 1) bs more)

take_over : (most : ℕ) (doc more : List ℕ) → length doc ≤ most → take most (doc ++ more) ≡ doc ++ take (most - length doc) more
take_over most doc more h =
    let e : most ≡ length doc + (most - length doc) = omega arith in
    ap (λ (k : ℕ). take k (doc ++ more)) e ∙ take-append-add doc more (most - length doc)

closed_within : (most : ℕ) (doc more : List ℕ) → IsClosed doc → length doc ≤ most → length_within most (doc ++ more) ≡ Some (length doc)
closed_within most doc more closed h = ap (balanced_after []) (take_over most doc more h) ∙ closed (take (most - length doc) more)

found_is : (most at : ℕ) (tail more : List ℕ)
    → add_document most at (123 ∷ (tail ++ more)) (Some (suc (length tail))) (documents_from most (suc (length tail) - 1) (at + 1) (tail ++ more))
    ≡ before (record { at = at; bytes = 123 ∷ tail } ∷ []) (documents_from most 0 (at + suc (length tail)) more)
found_is most at tail more =
    let e : suc (length tail) - 1 ≡ length tail = omega arith in
    let bytes : 123 ∷ take (length tail) (tail ++ more) ≡ 123 ∷ tail = ap (λ (l : List ℕ). 123 ∷ l) (take-append_seam tail more) in
    ap (λ (l : List ℕ). before (record { at = at; bytes = l } ∷ []) (documents_from most (suc (length tail) - 1) (at + 1) (tail ++ more))) bytes
    ∙ ap (λ (k : ℕ). before (record { at = at; bytes = 123 ∷ tail } ∷ []) (documents_from most k (at + 1) (tail ++ more))) e
    ∙ ap (before (record { at = at; bytes = 123 ∷ tail } ∷ [])) (skip_all most (at + 1) tail more ∙ at_other most (at + 1 + length tail) (at + suc (length tail)) more (omega arith))

-- a document that comes first
pub document_step : (most at : ℕ) (tail more : List ℕ) → IsClosed (123 ∷ tail) → suc (length tail) ≤ most
    → documents_from most 0 at (123 ∷ (tail ++ more)) ≡ before (record { at = at; bytes = 123 ∷ tail } ∷ []) (documents_from most 0 (at + suc (length tail)) more)
unfolding documents_from
document_step most at tail more closed h =
    ap (λ (o : Option ℕ). add_document most at (123 ∷ (tail ++ more)) o (documents_from most (unwrap_or o 1 - 1) (at + 1) (tail ++ more))) (closed_within most (123 ∷ tail) more closed h)
    ∙ found_is most at tail more

pub found_at : (most at : ℕ) (bs : List ℕ) (k : ℕ) → length_within most (123 ∷ bs) ≡ Some k
    → documents_from most 0 at (123 ∷ bs) ≡ before (record { at = at; bytes = take k (123 ∷ bs) } ∷ []) (documents_from most (k - 1) (at + 1) bs)
unfolding documents_from
found_at most at bs k found = ap (λ (o : Option ℕ). add_document most at (123 ∷ bs) o (documents_from most (unwrap_or o 1 - 1) (at + 1) bs)) found

pub open_step : (most at : ℕ) (tail : List ℕ) → length_within most (123 ∷ tail) ≡ None → documents_from most 0 at (123 ∷ tail) ≡ nothing (open_ending most at (123 ∷ tail))
unfolding documents_from
open_step most at tail none =
    ap (λ (o : Option ℕ). add_document most at (123 ∷ tail) o (documents_from most (unwrap_or o 1 - 1) (at + 1) tail)) none

stays_none : (prefix : List ℕ) → StaysOpen prefix → balanced_after [] prefix ≡ None
unfolding balanced_after
stays_none prefix stays = ap (balanced_after []) (sym (append-nil prefix)) ∙ stays []

-- a document that has begun, at the end
pub unclosed_step : (most at : ℕ) (tail : List ℕ) → StaysOpen (123 ∷ tail) → suc (length tail) ≤ most → documents_from most 0 at (123 ∷ tail) ≡ nothing (Unclosed at)
unclosed_step most at tail stays h =
    open_step most at tail (ap (balanced_after []) (take_all most (123 ∷ tail) h) ∙ stays_none (123 ∷ tail) stays)
    ∙ ap (λ (t : Bool). nothing (cond t (Unclosed at) (TooLong at))) (le-leb (suc (length tail)) most h)

-- one that has reached its limit, and goes on
pub too_long_step : (most at : ℕ) (tail : List ℕ) (b : ℕ) (bs : List ℕ) → StaysOpen (123 ∷ tail) → suc (length tail) ≡ most
    → documents_from most 0 at (123 ∷ (tail ++ b ∷ bs)) ≡ nothing (TooLong at)
too_long_step most at tail b bs stays h =
    let len : length (tail ++ b ∷ bs) ≡ length tail + suc (length bs) = length-append tail (b ∷ bs) in
    let more : most < suc (length (tail ++ b ∷ bs)) = omega arith in
    open_step most at (tail ++ b ∷ bs) (ap (balanced_after []) (take_at (123 ∷ tail) (b ∷ bs) most h) ∙ stays_none (123 ∷ tail) stays)
    ∙ ap (λ (t : Bool). nothing (cond t (Unclosed at) (TooLong at))) (lt-leb (suc (length (tail ++ b ∷ bs))) most more)
