-- A text that is closed at its end is a document.
use Rattle.std.proofs.Common.{ℕ, suc, ◌≡◌, ◌∙◌, ◌≤◌, ◌+◌, ◌++◌, List, [], ◌∷◌, Some, length, take, take_all, refl, sym, ap, subst, arith}
use Rattle.doc_split.specs.Begun.{IsClosed}
use Rattle.doc_split.specs.Documents.{balanced_after, before, document_length, documents_from}
use Rattle.doc_split.specs.Scan.{begun, piece_length, scan_behind}
use Rattle.doc_split.proofs.Pieces.{closes_by}
use Rattle.doc_split.proofs.Steps.{document_step}

brace_first : (tail : List ℕ) → document_length (123 ∷ tail) ≡ balanced_after (123 ∷ []) tail
unfolding balanced_after
brace_first tail = refl

pub closed_at_end : (tail : List ℕ) → piece_length begun tail ≡ length tail → (scan_behind begun tail).depth ≡ 0 → IsClosed (123 ∷ tail)
closed_at_end tail whole over =
    let c = closes_by tail (123 ∷ []) begun (record { place_is = refl; depth_is = refl }) (omega arith) over in
    λ more.
    brace_first (tail ++ more)
    ∙ ap (λ (l : List ℕ). balanced_after (123 ∷ []) (l ++ more)) (sym (take_all (piece_length begun tail) tail (omega (arith, whole))))
    ∙ c.closes more ∙ ap (λ (n : ℕ). Some (length {A = ℕ} (123 ∷ []) + n)) whole
    ∙ ap Some (count_by (length tail))
  where
    count_by : (n : ℕ) → 1 + n ≡ suc n
    count_by n = omega arith

pub first_of : (most at : ℕ) (tail more : List ℕ) → IsClosed (123 ∷ tail) → length tail + 1 ≤ most
    → documents_from most 0 at (123 ∷ (tail ++ more)) ≡ before (record { at = at; bytes = 123 ∷ tail } ∷ []) (documents_from most 0 (at + (length tail + 1)) more)
first_of most at tail more closed small =
    let count : suc (length tail) ≡ length tail + 1 = omega arith in
    document_step most at tail more closed (omega (arith, small))
    ∙ ap (λ (n : ℕ). before (record { at = at; bytes = 123 ∷ tail } ∷ []) (documents_from most 0 (at + n) more)) count
