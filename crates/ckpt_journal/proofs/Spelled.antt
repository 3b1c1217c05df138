-- Bytes that have records are these records as they are spelled.
use Rattle.std.proofs.Common.{◌≡◌, ◌≢◌, inl, inr, ℕ, zero, suc, List, [], ◌∷◌, ◌++◌, length, Option, Some, None, Result, Ok, Err, refl, sym, ◌∙◌, ap, arith, subst, append_assoc, ◌+◌}
use Rattle.std.proofs.lemmas.Bool.{cases_eq}
use Rattle.std.proofs.lemmas.Bool.Decides.{nat_tests}
use Rattle.std.specs.List.{AllByRecursion}
use Rattle.ckpt_journal.specs.Format.{Fits, block, blocks}
use Rattle.ckpt_journal.specs.Reading.{block_at, gates, if_block, offset, records_from, with_prefix}
use Rattle.ckpt_journal.specs.Standing.{IsSpelled}
use Rattle.ckpt_journal.specs.declared.record.Record.{Record}
use Rattle.ckpt_journal.proofs.Taken.{block_taken}
use Rattle.ckpt_journal.proofs.TakenBody.{IsBytes, bytes_rest}

abbrev Read : Type 0
Read = Result (List Record) ℕ

abbrev ok : List Record → Read
ok rs = Ok rs

with_more : (r : Record) (more : Read) (rs : List Record) → with_prefix r more ≡ Ok rs → (later : List Record) × (more ≡ Ok later) × (rs ≡ r ∷ later)
with_more r (Err left) rs is = absurd cc
with_more r (Ok later) rs is = (later, refl, cc)

with_block : (left : ℕ) (next : List ℕ → Read) (found : Option (Record × List ℕ)) (rs : List Record) → if_block left next found ≡ Ok rs
    → (r : Record) × (rest : List ℕ) × (later : List Record) × (found ≡ Some (r, rest)) × (next rest ≡ Ok later) × (rs ≡ r ∷ later)
with_block left next None rs is = absurd cc
with_block left next (Some x) rs is = let more = with_more x.0 (next x.1) rs is in (x.0, x.1, more.0, refl, more.1, more.2)

behind : (most : ℕ) (bytes : List ℕ) (rs : List Record) → IsBytes bytes → records_from most bytes ≡ Ok rs → IsSpelled rs bytes
behind most [] rs small is = absurd cc
behind zero (gate ∷ bytes) rs small is = absurd cc
behind (suc most) (gate ∷ bytes) rs small is = elim (cases_eq gate 90) [
  | inl opened ↦
      let here = length bytes + 1 in
      let found = with_block here (records_from most) (block_at bytes) rs (sym (goes opened) ∙ is) in
      let taken = block_taken found.0 found.1 bytes (bytes_rest (gate ∷ []) bytes (gate ∷ bytes) refl small) found.3 in
      let later = behind most found.1 found.2 (bytes_rest (block found.0) found.1 bytes taken.parts (bytes_rest (gate ∷ []) bytes (gate ∷ bytes) refl small)) found.4 in
      record {
        gate = later.gate;
        tail = later.tail;
        shut = later.shut;
        parts = (λ i. opened i ∷ taken.parts i) ∙ ap (λ (l : List ℕ). 90 ∷ block found.0 ++ l) later.parts ∙ ap (λ (l : List ℕ). 90 ∷ l) (sym (append_assoc (block found.0) (blocks found.2) (later.gate ∷ later.tail)))
            ∙ ap (λ (l : List Record). blocks l ++ later.gate ∷ later.tail) (sym found.5);
        fits = all found.5 taken.fits later.fits;
      }
  | inr shut ↦ let none = empty (sym (stops shut) ∙ is) in record { gate = gate; tail = bytes; shut = shut; parts = ap (λ (l : List Record). blocks l ++ gate ∷ bytes) (sym none); fits = nothing none }
]
  where
    goes : gate ≡ 90 → records_from (suc most) (gate ∷ bytes) ≡ if_block (length bytes + 1) (records_from most) (block_at bytes)
    goes opened = grind (arith, nat_tests)

    stops : gate ≢ 90 → records_from (suc most) (gate ∷ bytes) ≡ Ok []
    stops shut = grind (arith, nat_tests)

    empty : ok [] ≡ ok rs → rs ≡ []
    empty e = cc

    nothing : rs ≡ [] → AllByRecursion Fits rs
    nothing e = subst (AllByRecursion Fits) (sym e) tt

    all : {r : Record} {later : List Record} → rs ≡ r ∷ later → Fits r → AllByRecursion Fits later → AllByRecursion Fits rs
    all e this more = subst (AllByRecursion Fits) (sym e) (this, more)

pub spelled : (bytes : List ℕ) (rs : List Record) → IsBytes bytes → gates bytes ≡ Ok rs → IsSpelled rs bytes
unfolding gates
spelled bytes rs small is = behind (length bytes) bytes rs small (unplaced _ is)
  where
    unplaced : (read : Read) → offset (length bytes) read ≡ Ok rs → read ≡ Ok rs
    unplaced (Ok more) e = e
    unplaced (Err left) e = absurd cc
