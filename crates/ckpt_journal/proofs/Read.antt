-- What is spelled so is read so.
use Rattle.std.proofs.Common.{◌≡◌, ◌≢◌, ℕ, suc, zero, ◌+◌, ◌-◌, ◌<◌, ◌≤◌, ◌==◌, Bool, true, false, List, [], ◌∷◌, ◌++◌, length, take, drop, Some, None, Ok, Err, refl, sym, ◌∙◌, ap, arith, append_assoc, append-nil, length-append, nat_lt, nat_le, if◌then◌else◌}
use Rattle.std.proofs.lemmas.Bool.Decides.{nat_tests}
use Rattle.std.proofs.lemmas.List.{take_at, drop_at}
use Rattle.std.proofs.lemmas.Nat.{from_be_bytes-to_be_bytes_4}
use Rattle.std.specs.Int.{w32, to_be_bytes, from_be_bytes}
use Rattle.std.specs.List.{AllByRecursion}
use Rattle.ckpt_journal.specs.declared.record.Record.{Record}
use Rattle.ckpt_journal.specs.Format.{body, block, blocks, Fits}
use Rattle.ckpt_journal.specs.Reading.{block_at, body_at, with_rest, record_of, with_prefix, if_block, records_from, from_start, gates, offset}
use Rattle.ckpt_journal.proofs.Again.{record_again}

more_le : (a b : ℕ) → b < a → nat_le a b ≡ false
more_le a b lt = grind (arith, nat_tests)

not_lt : (a b : ℕ) → b ≤ a → nat_lt a b ≡ false
not_lt a b le = grind (arith, nat_tests)

body_again : (e : Record) (b : List ℕ) (gate : ℕ) (rest : List ℕ) → record_of b ≡ Some e → body_at (length b) (b ++ gate ∷ rest) ≡ Some (e, gate ∷ rest)
unfolding body_at
body_again e b gate rest is =
    let test = more_le (length (b ++ gate ∷ rest)) (length b) (omega (arith, length-append b (gate ∷ rest))) in
    ap (λ t. if t then None else with_rest (drop (length b) (b ++ gate ∷ rest)) (record_of (take (length b) (b ++ gate ∷ rest)))) test
    ∙ (λ i. with_rest (drop_at b (gate ∷ rest) (length b) refl i) (record_of (take_at b (gate ∷ rest) (length b) refl i)))
    ∙ ap (with_rest (gate ∷ rest)) is

behind_length : (w rest : List ℕ) → length w ≡ 4 → block_at (w ++ rest) ≡ body_at (from_be_bytes w32 w) rest
unfolding block_at
behind_length w rest is =
    let test = not_lt (length (w ++ rest)) 4 (omega (arith, length-append w rest)) in
    ap (λ t. if t then None else body_at (from_be_bytes w32 (take 4 (w ++ rest))) (drop 4 (w ++ rest))) test
    ∙ (λ i. body_at (from_be_bytes w32 (take_at w rest 4 is i)) (drop_at w rest 4 is i))

pub block_again : (e : Record) (gate : ℕ) (rest : List ℕ) → Fits e → block_at (block e ++ gate ∷ rest) ≡ Some (e, gate ∷ rest)
unfolding block
block_again e gate rest fits =
    let w = to_be_bytes w32 (length (body e)) in
    behind_length w (body e ++ gate ∷ rest) refl
    ∙ ap (λ n. body_at n (body e ++ gate ∷ rest)) (from_be_bytes-to_be_bytes_4 (length (body e)) fits.1)
    ∙ body_again e (body e) gate rest (record_again e fits.0)

pub shut_gate : (most gate : ℕ) (tail : List ℕ) → gate ≢ 90 → records_from (suc most) (gate ∷ tail) ≡ Ok []
shut_gate most gate tail shut = grind (arith, nat_tests)

pub blocks-more : (es : List Record) (e : Record) (rest : List ℕ) → blocks (es ++ e ∷ []) ++ rest ≡ blocks es ++ 90 ∷ (block e ++ rest)
blocks-more [] e rest = ap (λ (l : List ℕ). 90 ∷ l ++ rest) (append-nil (block e))
blocks-more (f ∷ es) e rest =
    ap (λ (l : List ℕ). 90 ∷ l) (append_assoc (block f) (blocks (es ++ e ∷ [])) rest ∙ ap (λ (l : List ℕ). block f ++ l) (blocks-more es e rest) ∙ sym (append_assoc (block f) (blocks es) (90 ∷ (block e ++ rest))))

pub read_block : (es : List Record) (e : Record) (gate : ℕ) (tail : List ℕ) → Fits e → block_at (block e ++ (blocks es ++ gate ∷ tail)) ≡ Some (e, blocks es ++ gate ∷ tail)
read_block [] e gate tail fits = block_again e gate tail fits
read_block (f ∷ es) e gate tail fits = block_again e 90 _ fits

pub read_from : (es : List Record) (most gate : ℕ) (tail : List ℕ) → AllByRecursion Fits es → gate ≢ 90 → length (blocks es ++ gate ∷ tail) ≤ most → records_from most (blocks es ++ gate ∷ tail) ≡ Ok es
read_from [] zero gate tail fits shut le = absurd (omega arith)
read_from [] (suc most) gate tail fits shut le = shut_gate most gate tail shut
read_from (e ∷ es) zero gate tail fits shut le = absurd (omega arith)
read_from (e ∷ es) (suc most) gate tail fits shut le =
    let rest = blocks es ++ gate ∷ tail in
    let left = length (block e ++ blocks es ++ gate ∷ tail) + 1 in
    let same : block e ++ blocks es ++ gate ∷ tail ≡ block e ++ rest = append_assoc (block e) (blocks es) (gate ∷ tail) in
    let fewer : length rest ≤ most = omega (arith, ap length same, length-append (block e) rest) in
    ap (λ (l : List ℕ). if_block left (records_from most) (block_at l)) same
    ∙ ap (if_block left (records_from most)) (read_block es e gate tail fits.0)
    ∙ ap (with_prefix e) (read_from es most gate tail fits.1 shut fewer)

pub gates_again : (es : List Record) (gate : ℕ) (tail : List ℕ) → AllByRecursion Fits es → gate ≢ 90 → gates (blocks es ++ gate ∷ tail) ≡ Ok es
unfolding gates
gates_again es gate tail fits shut =
    let rest = blocks es ++ gate ∷ tail in
    ap (offset (length rest)) (read_from es (length rest) gate tail fits shut (omega arith))

-- ---- no bytes at all

pub not_empty : (bytes : List ℕ) (b : Bool) → b ≡ (length bytes == 0) → b ≡ false → 0 < length bytes
not_empty [] b is shut = absurd (cc (is, shut))
not_empty (x ∷ bytes) b is shut = omega arith

pub gates_none : (start : ℕ) (bytes : List ℕ) (b : Bool) → b ≡ (length bytes == 0) → b ≡ true → from_start start (gates bytes) ≡ Err start
unfolding gates
gates_none start [] b is said = ap (λ (n : ℕ). Err n) same
  where
    same : start + (0 - 0) ≡ start
    same = omega arith
gates_none start (x ∷ bytes) b is said = absurd (grind (arith, nat_tests, is, said))
