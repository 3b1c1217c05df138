-- What is read was spelled so.
use Rattle.std.proofs.Common.{◌≡◌, ◌≢◌, ℕ, suc, zero, ◌+◌, ◌-◌, ◌<◌, ◌≤◌, ◌^◌, Bool, true, false, List, [], ◌∷◌, ◌++◌, length, get_or, take, drop, Option, Some, None, Ok, Err, refl, sym, ◌∙◌, ap, subst, arith, append_assoc, append-nil, length-append, length-take, length-drop, take-append-drop, nat_lt, nat_le, if◌then◌else◌}
use Rattle.std.proofs.lemmas.Bool.Decides.{nat_tests}
use Rattle.std.proofs.lemmas.List.{get_or-append-add, get_or_at, take_at, drop_all}
use Rattle.std.proofs.lemmas.Nat.{be_bytes_4}
use Rattle.std.specs.Int.{w32, to_be_bytes, from_be_bytes}
use Rattle.std.specs.List.{AllByRecursion}
use Rattle.ckpt_journal.specs.declared.record.Record.{Record}
use Rattle.ckpt_journal.specs.Format.{BodyFits, body, block, blocks, Fits}
use Rattle.ckpt_journal.specs.Reading.{Gives, block_at, body_at, with_rest, record_of, with_prefix, if_block, records_from, gates, offset}
use Rattle.ckpt_journal.specs.Standing.{EndsAt}
use Rattle.ckpt_journal.specs.declared.error.Unread.{Unread}
use Rattle.ckpt_journal.specs.declared.error.Unread.TheVariants.{NoRecord}
use Rattle.ckpt_journal.proofs.Read.{blocks-more, gates_again, read_block}
use Rattle.ckpt_journal.proofs.TakenBody.{IsBytes, bytes_drop, bytes_take, record_taken}

-- a test that did not fail
guard : {X : Type 0} (b : Bool) (x : Option X) (y : X) → (if b then None else x) ≡ Some y → (b ≡ false) × (x ≡ Some y)
guard true x y e = absurd cc
guard false x y e = (refl, e)

le_false : (a b : ℕ) → nat_le a b ≡ false → b < a
le_false a b is = grind (arith, nat_tests)

lt_false : (a b : ℕ) → nat_lt a b ≡ false → b ≤ a
lt_false a b is = grind (arith, nat_tests)

-- what was read, and what follows it
pub record Taken (e : Record) (rest bytes : List ℕ) : Type 0 where
  pub parts : bytes ≡ block e ++ rest
  pub fits : Fits e
  pub more : 0 < length rest

rest_taken : (e : Record) (rest after : List ℕ) (found : Option Record) → with_rest rest found ≡ Some (e, after) → (found ≡ Some e) × (rest ≡ after)
rest_taken e rest after None is = absurd cc
rest_taken e rest after (Some f) is = (ap (λ (x : Record × List ℕ). Some x.0) (same_pair (f, rest) (e, after) is), ap (λ (x : Record × List ℕ). x.1) (same_pair (f, rest) (e, after) is))
  where
    one : Record × List ℕ → Option (Record × List ℕ)
    one x = Some x

    same_pair : (x y : Record × List ℕ) → one x ≡ one y → x ≡ y
    same_pair x y is = cc

body_taken : (e : Record) (n : ℕ) (rest bytes : List ℕ) → IsBytes bytes → body_at n bytes ≡ Some (e, rest) → (n < length bytes) × (take n bytes ≡ body e) × (drop n bytes ≡ rest) × BodyFits e
unfolding body_at
body_taken e n rest bytes small is =
    let test = guard (nat_le (length bytes) n) (with_rest (drop n bytes) (record_of (take n bytes))) (e, rest) is in
    let both = rest_taken e (drop n bytes) rest (record_of (take n bytes)) test.1 in
    let taken = record_taken e (take n bytes) (bytes_take n bytes small) both.0 in
    (le_false _ _ test.0, taken.1, both.1, taken.0)

pub block_taken : (e : Record) (rest bytes : List ℕ) → IsBytes bytes → block_at bytes ≡ Some (e, rest) → Taken e rest bytes
unfolding block_at block
block_taken e rest bytes small is =
    let n = from_be_bytes w32 (take 4 bytes) in
    let behind = drop 4 bytes in
    let test = guard (nat_lt (length bytes) 4) (body_at n behind) (e, rest) is in
    let long : 4 ≤ length bytes = lt_false _ _ test.0 in
    let parts = body_taken e n rest behind (bytes_drop 4 bytes small) test.1 in
    let small_prefix = bytes_take 4 bytes small in
    let below : n < 2 ^ 32 = omega (arith, small_prefix 0, small_prefix 1, small_prefix 2, small_prefix 3) in
    let len : length (body e) ≡ n = omega (arith, ap length parts.1, length-take n behind, parts.0) in
    let spelled : to_be_bytes w32 (length (body e)) ≡ take 4 bytes = be_bytes_4 (take 4 bytes) (length (body e)) (omega (arith, length-take 4 bytes)) small_prefix len in
    record {
      parts = sym (take-append-drop 4 bytes) ∙ ap (λ (l : List ℕ). l ++ drop 4 bytes) (sym spelled) ∙ ap (λ (l : List ℕ). to_be_bytes w32 (length (body e)) ++ l) (sym (take-append-drop n behind) ∙ (λ i. parts.1 i ++ parts.2 i)) ∙ sym (append_assoc (to_be_bytes w32 (length (body e))) (body e) rest);
      fits = (parts.3, omega (arith, len, below));
      more = omega (arith, sym (ap length parts.2), length-drop n behind, parts.0);
    }

-- an error after records is an error of the whole
pub fault_from : (es : List Record) (most gate left : ℕ) (tail : List ℕ) → AllByRecursion Fits es → length (blocks es ++ gate ∷ tail) ≤ most
    → ((m : ℕ) → length (gate ∷ tail) ≤ m → records_from m (gate ∷ tail) ≡ Err left) → records_from most (blocks es ++ gate ∷ tail) ≡ Err left
fault_from [] most gate left tail fits le fault = fault most le
fault_from (e ∷ es) zero gate left tail fits le fault = absurd (omega arith)
fault_from (e ∷ es) (suc most) gate left tail fits le fault =
    let rest = blocks es ++ gate ∷ tail in
    let here = length (block e ++ blocks es ++ gate ∷ tail) + 1 in
    let same : block e ++ blocks es ++ gate ∷ tail ≡ block e ++ rest = append_assoc (block e) (blocks es) (gate ∷ tail) in
    let fewer : length rest ≤ most = omega (arith, ap length same, length-append (block e) rest) in
    ap (λ (l : List ℕ). if_block here (records_from most) (block_at l)) same
    ∙ ap (if_block here (records_from most)) (read_block es e gate tail fits.0)
    ∙ ap (with_prefix e) (fault_from es most gate left tail fits.1 fewer fault)

pub no_block : (m : ℕ) (tail : List ℕ) → length (90 ∷ tail) ≤ m → block_at tail ≡ None → records_from m (90 ∷ tail) ≡ Err (length tail + 1)
no_block zero tail le is = absurd (omega arith)
no_block (suc m) tail le is = ap (if_block (length tail + 1) (records_from m)) is

pub one_more : {X : Type 0} (P : X → Type 0) (xs : List X) (x : X) → AllByRecursion P xs → P x → AllByRecursion P (xs ++ x ∷ [])
one_more P [] x all this = (this, tt)
one_more P (y ∷ xs) x all this = (all.0, one_more P xs x all.1 this)

-- one block more, after an open gate
pub goes_on : (es : List Record) (e : Record) (bytes rest after : List ℕ) → bytes ≡ blocks es ++ rest → 0 < length rest → get_or rest 0 0 ≡ 90 → Taken e after (drop 1 rest) → bytes ≡ blocks (es ++ e ∷ []) ++ after
goes_on es e bytes [] after parts more open_gate taken = absurd (omega arith)
goes_on es e bytes (gate ∷ behind) after parts more open_gate taken =
    parts ∙ (λ i. blocks es ++ open_gate i ∷ taken.parts i) ∙ sym (blocks-more es e after)

pub fault_at : (es : List Record) (bytes rest : List ℕ) → bytes ≡ blocks es ++ rest → AllByRecursion Fits es → 0 < length rest → get_or rest 0 0 ≡ 90 → block_at (drop 1 rest) ≡ None
    → gates bytes ≡ Err (length bytes - length rest)
unfolding gates
fault_at es bytes [] parts fits more open_gate none = absurd (omega arith)
fault_at es bytes (gate ∷ tail) parts fits more open_gate none =
    let whole : bytes ≡ blocks es ++ 90 ∷ tail = parts ∙ ap (λ (g : ℕ). blocks es ++ g ∷ tail) open_gate in
    ap (λ (l : List ℕ). offset (length bytes) (records_from (length bytes) l)) whole
    ∙ ap (offset (length bytes)) (fault_from es (length bytes) 90 (length tail + 1) tail fits (omega (arith, ap length whole)) (λ m le. no_block m tail le none))
    ∙ ap (λ (n : ℕ). Err (length bytes - n)) (counted tail)
  where
    counted : (tail : List ℕ) → length tail + 1 ≡ length (gate ∷ tail)
    counted tail = omega arith

pub ends : (es : List Record) (bytes rest : List ℕ) → bytes ≡ blocks es ++ rest → AllByRecursion Fits es → 0 < length rest → get_or rest 0 0 ≢ 90 → EndsAt es (length bytes - length rest) bytes
ends es bytes [] parts fits more shut = absurd (omega arith)
ends es bytes (gate ∷ tail) parts fits more shut =
    let place : length (blocks es) ≡ length bytes - length (gate ∷ tail) = omega (arith, ap length parts, length-append (blocks es) (gate ∷ tail)) in
    let at = length bytes - length (gate ∷ tail) in
    let gate_is : get_or bytes at 90 ≡ gate = ap (λ (l : List ℕ). get_or l at 90) parts ∙ get_or_at (blocks es) gate tail 90 at place in (
      omega (arith, ap length parts, length-append (blocks es) (gate ∷ tail)),
      subst (λ (n : ℕ). n ≢ 90) (sym gate_is) shut,
      ap (λ (l : List ℕ). take at l) parts ∙ take_at (blocks es) (gate ∷ tail) at place,
      sym place,
      fits,
    )

pub read_is : (es : List Record) (bytes rest : List ℕ) → bytes ≡ blocks es ++ rest → AllByRecursion Fits es → 0 < length rest → get_or rest 0 0 ≢ 90 → gates bytes ≡ Ok es
read_is es bytes [] parts fits more shut = absurd (omega arith)
read_is es bytes (gate ∷ tail) parts fits more shut = ap gates parts ∙ gates_again es gate tail fits shut

-- the block after the open gate of the rest
pub next_taken : (es : List Record) (e : Record) (bytes rest after : List ℕ) → bytes ≡ blocks es ++ rest → IsBytes bytes → block_at (drop 1 rest) ≡ Some (e, after) → Taken e after (drop 1 rest)
next_taken es e bytes rest after parts small is = block_taken e after (drop 1 rest) (bytes_drop 1 rest (λ i. behind i)) is
  where
    behind : (i : ℕ) → get_or rest i 0 < 256
    behind i = subst (λ (n : ℕ). n < 256) (ap (λ (l : List ℕ). get_or l (length (blocks es) + i) 0) parts ∙ get_or-append-add (blocks es) rest i 0) (small (length (blocks es) + i))

-- what a reader returns that finds no record
pub no_record : {V X : Type 0} (view : V → X) (e : Unread) (found : Option X) → e ≡ NoRecord → Gives view (Err e) found → found ≡ None
no_record view e found is gives = subst (λ (e : Unread). Gives view (Err e) found) is gives
