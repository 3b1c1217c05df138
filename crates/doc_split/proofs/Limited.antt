-- The same, within the limit of an input.
use Rattle.std.proofs.Common.{ℕ, suc, ◌+◌, ◌-◌, ◌≤◌, ◌<◌, ◌≡◌, ◌∙◌, Bool, true, false, eqb, leb, List, [], ◌∷◌, ◌++◌, length, take, refl, sym, ap, arith}
use Rattle.std.proofs.Math.Seq.{take-append-add}
use Rattle.std.proofs.lemmas.Bool.{le-leb, lt-leb, leb-true, leb-false}
use Rattle.std.proofs.lemmas.List.{take_at, length-append}
use Rattle.doc_split.specs.declared.limits.Limits.{Limits}
use Rattle.doc_split.specs.Documents.{Document, Clean, Unclosed, Stray, TooLong, Long, before, documents_from, is_blank, nothing}
use Rattle.doc_split.specs.Limits.{documents_at, with_more}
use Rattle.doc_split.specs.Begun.{IsClosed, StaysOpen}
use Rattle.doc_split.proofs.Steps.{none_from, stray_step, unclosed_step, too_long_step, document_step}

pub at_end : (limits : Limits) (at : ℕ) (bytes : List ℕ) → length bytes ≤ limits.input - at → documents_at limits at bytes ≡ documents_from limits.document 0 at bytes
unfolding documents_at
at_end limits at bytes h = rw (le-leb (length bytes) (limits.input - at) h) refl

pub at_more : (limits : Limits) (at : ℕ) (bytes : List ℕ) → limits.input - at < length bytes → documents_at limits at bytes ≡ with_more (documents_from limits.document 0 at (take (limits.input - at) bytes))
unfolding documents_at
at_more limits at bytes h = rw (lt-leb (length bytes) (limits.input - at) h) refl

take_within : (limits : Limits) (at : ℕ) (taken more : List ℕ) → length taken ≤ limits.input - at → take (limits.input - at) (taken ++ more) ≡ taken ++ take (limits.input - (at + length taken)) more
take_within limits at taken more h =
    let e : limits.input - at ≡ length taken + (limits.input - (at + length taken)) = omega arith in
    ap (λ (k : ℕ). take k (taken ++ more)) e ∙ take-append-add taken more (limits.input - (at + length taken))

lift_by : (limits : Limits) (at : ℕ) (taken : List ℕ) (docs : List Document)
    → ((more : List ℕ) → documents_from limits.document 0 at (taken ++ more) ≡ before docs (documents_from limits.document 0 (at + length taken) more))
    → length taken ≤ limits.input - at → (more : List ℕ) (t : Bool) → leb (length more) (limits.input - (at + length taken)) ≡ t
    → documents_at limits at (taken ++ more) ≡ before docs (documents_at limits (at + length taken) more)
lift_by limits at taken docs h small more true e =
    let m : length more ≤ limits.input - (at + length taken) = leb-true (length more) (limits.input - (at + length taken)) e in
    let l : length (taken ++ more) ≡ length taken + length more = length-append taken more in
    at_end limits at (taken ++ more) (omega arith) ∙ h more ∙ ap (before docs) (sym (at_end limits (at + length taken) more m))
lift_by limits at taken docs h small more false e =
    let m : limits.input - (at + length taken) < length more = leb-false (length more) (limits.input - (at + length taken)) e in
    let l : length (taken ++ more) ≡ length taken + length more = length-append taken more in
    at_more limits at (taken ++ more) (omega arith)
    ∙ ap (λ (bytes : List ℕ). with_more (documents_from limits.document 0 at bytes)) (take_within limits at taken more small)
    ∙ ap with_more (h (take (limits.input - (at + length taken)) more))
    ∙ ap (before docs) (sym (at_more limits (at + length taken) more m))

-- what holds for the documents of bytes holds within the limit
pub lift : (limits : Limits) (at : ℕ) (taken : List ℕ) (docs : List Document)
    → ((more : List ℕ) → documents_from limits.document 0 at (taken ++ more) ≡ before docs (documents_from limits.document 0 (at + length taken) more))
    → length taken ≤ limits.input - at → (more : List ℕ) → documents_at limits at (taken ++ more) ≡ before docs (documents_at limits (at + length taken) more)
lift limits at taken docs h small more = lift_by limits at taken docs h small more (leb (length more) (limits.input - (at + length taken))) refl

pub clean_at : (limits : Limits) (at : ℕ) → documents_at limits at [] ≡ nothing Clean
clean_at limits at = at_end limits at [] (omega arith) ∙ none_from limits.document at

pub long_now : (limits : Limits) (at b : ℕ) (bs : List ℕ) → limits.input ≤ at → documents_at limits at (b ∷ bs) ≡ nothing Long
long_now limits at b bs h =
    let e : limits.input - at ≡ 0 = omega arith in
    at_more limits at (b ∷ bs) (omega arith)
    ∙ ap (λ (k : ℕ). with_more (documents_from limits.document 0 at (take k (b ∷ bs)))) e
    ∙ ap with_more (none_from limits.document at)

stray_by : (limits : Limits) (at b : ℕ) (bs : List ℕ) → is_blank b ≡ false → eqb b 123 ≡ false → at < limits.input → (t : Bool) → leb (suc (length bs)) (limits.input - at) ≡ t
    → documents_at limits at (b ∷ bs) ≡ nothing (Stray at)
stray_by limits at b bs e f h true t =
    at_end limits at (b ∷ bs) (leb-true (suc (length bs)) (limits.input - at) t) ∙ stray_step limits.document at b bs e f
stray_by limits at b bs e f h false t =
    let s : limits.input - at ≡ suc (limits.input - at - 1) = omega arith in
    at_more limits at (b ∷ bs) (leb-false (suc (length bs)) (limits.input - at) t)
    ∙ ap (λ (k : ℕ). with_more (documents_from limits.document 0 at (take k (b ∷ bs)))) s
    ∙ ap with_more (stray_step limits.document at b (take (limits.input - at - 1) bs) e f)

pub stray_at : (limits : Limits) (at b : ℕ) (bs : List ℕ) → is_blank b ≡ false → eqb b 123 ≡ false → at < limits.input → documents_at limits at (b ∷ bs) ≡ nothing (Stray at)
stray_at limits at b bs e f h = stray_by limits at b bs e f h (leb (suc (length bs)) (limits.input - at)) refl

pub unclosed_at : (limits : Limits) (at : ℕ) (tail : List ℕ) → StaysOpen (123 ∷ tail) → suc (length tail) ≤ limits.document → suc (length tail) ≤ limits.input - at
    → documents_at limits at (123 ∷ tail) ≡ nothing (Unclosed at)
unclosed_at limits at tail stays small within = at_end limits at (123 ∷ tail) within ∙ unclosed_step limits.document at tail stays small

pub long_at : (limits : Limits) (at : ℕ) (tail : List ℕ) (b : ℕ) (bs : List ℕ) → StaysOpen (123 ∷ tail) → suc (length tail) ≤ limits.document → suc (length tail) ≡ limits.input - at
    → documents_at limits at (123 ∷ (tail ++ b ∷ bs)) ≡ nothing Long
long_at limits at tail b bs stays small all =
    let l : length (tail ++ b ∷ bs) ≡ length tail + suc (length bs) = length-append tail (b ∷ bs) in
    at_more limits at (123 ∷ (tail ++ b ∷ bs)) (omega arith)
    ∙ ap (λ (l : List ℕ). with_more (documents_from limits.document 0 at l)) (take_at (123 ∷ tail) (b ∷ bs) (limits.input - at) all)
    ∙ ap with_more (unclosed_step limits.document at tail stays small)

too_long_by : (limits : Limits) (at : ℕ) (tail : List ℕ) (b : ℕ) (bs : List ℕ) → StaysOpen (123 ∷ tail) → suc (length tail) ≡ limits.document → at + limits.document < limits.input
    → (t : Bool) → leb (suc (length (tail ++ b ∷ bs))) (limits.input - at) ≡ t → documents_at limits at (123 ∷ (tail ++ b ∷ bs)) ≡ nothing (TooLong at)
too_long_by limits at tail b bs stays most room true t =
    at_end limits at (123 ∷ (tail ++ b ∷ bs)) (leb-true (suc (length (tail ++ b ∷ bs))) (limits.input - at) t) ∙ too_long_step limits.document at tail b bs stays most
too_long_by limits at tail b bs stays most room false t =
    let s : limits.input - at ≡ suc (length tail) + suc (limits.input - at - suc (length tail) - 1) = omega arith in
    let e : take (limits.input - at) (123 ∷ (tail ++ b ∷ bs)) ≡ 123 ∷ (tail ++ b ∷ take (limits.input - at - suc (length tail) - 1) bs) =
    ap (λ (k : ℕ). take k (123 ∷ (tail ++ b ∷ bs))) s ∙ take-append-add (123 ∷ tail) (b ∷ bs) (suc (limits.input - at - suc (length tail) - 1)) in
    at_more limits at (123 ∷ (tail ++ b ∷ bs)) (leb-false (suc (length (tail ++ b ∷ bs))) (limits.input - at) t)
    ∙ ap (λ (l : List ℕ). with_more (documents_from limits.document 0 at l)) e
    ∙ ap with_more (too_long_step limits.document at tail b (take (limits.input - at - suc (length tail) - 1) bs) stays most)

pub too_long_at : (limits : Limits) (at : ℕ) (tail : List ℕ) (b : ℕ) (bs : List ℕ) → StaysOpen (123 ∷ tail) → suc (length tail) ≡ limits.document → at + limits.document < limits.input
    → documents_at limits at (123 ∷ (tail ++ b ∷ bs)) ≡ nothing (TooLong at)
too_long_at limits at tail b bs stays most room = too_long_by limits at tail b bs stays most room (leb (suc (length (tail ++ b ∷ bs))) (limits.input - at)) refl

pub document_at : (limits : Limits) (at : ℕ) (tail : List ℕ) → IsClosed (123 ∷ tail) → suc (length tail) ≤ limits.document → suc (length tail) ≤ limits.input - at
    → (more : List ℕ) → documents_at limits at (123 ∷ (tail ++ more)) ≡ before (record { at = at; bytes = 123 ∷ tail } ∷ []) (documents_at limits (at + suc (length tail)) more)
document_at limits at tail closed small within more =
    lift limits at (123 ∷ tail) (record { at = at; bytes = 123 ∷ tail } ∷ []) (λ more. document_step limits.document at tail more closed small) within more
