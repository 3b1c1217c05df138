-- What the bytes of a journal mean.
use Rattle.std.specs.Prelude.{◌≡◌, ℕ, zero, suc, ◌+◌, ◌-◌, List, [], ◌∷◌, ◌++◌, length, take, drop, Option, Some, None, option_and_then, option_map, Result, Ok, Err, nat_lt, nat_le, if◌then◌else◌, ◌==◌}
use Rattle.std.specs.Int.{w16, w32, from_be_bytes}
use Rattle.object_fields.specs.declared.key.Key.{Key}
use Rattle.ckpt_journal.specs.Format.{blocks}
use Rattle.ckpt_journal.specs.Layout.{layout_of, live, start}
use Rattle.ckpt_journal.specs.Names.{device_read, key_read, text_read}
use Rattle.ckpt_journal.specs.declared.error.Unread.{Unread}
use Rattle.ckpt_journal.specs.declared.error.Unread.TheVariants.{NoRecord, Memory}
use Rattle.ckpt_journal.specs.declared.layout.Layout.{Layout}
use Rattle.ckpt_journal.specs.declared.layout.Layout.TheVariants.{Single, Double}
use Rattle.ckpt_journal.specs.declared.record.Claim.{Claim}
use Rattle.ckpt_journal.specs.declared.record.Record.{Record}
use Rattle.ckpt_journal.specs.declared.record.Record.TheVariants.{Begun, Prepared, Leaving, Gone}

-- ---- the parts of a body, each with what follows it

-- a number of 16 bits
unfoldable pub count_at : List ℕ → Option (ℕ × List ℕ)
count_at bytes = if nat_lt (length bytes) 2 then None else Some (from_be_bytes w16 (take 2 bytes), drop 2 bytes)

abbrev pub cut_at : ℕ × List ℕ → Option (List ℕ × List ℕ)
cut_at x = if nat_lt (length x.1) x.0 then None else Some (take x.0 x.1, drop x.0 x.1)

-- a number of 16 bits and that many bytes
abbrev pub raw_at : List ℕ → Option (List ℕ × List ℕ)
raw_at bytes = option_and_then cut_at (count_at bytes)

abbrev pub read_raw : {A : Type 0} → (List ℕ → Option A) → List ℕ × List ℕ → Option (A × List ℕ)
read_raw reading x = option_map (λ a. (a, x.1)) (reading x.0)

-- a text that has a reading
unfoldable pub name_at : {A : Type 0} → (List ℕ → Option A) → List ℕ → Option (A × List ℕ)
name_at reading bytes = option_and_then (read_raw reading) (raw_at bytes)

-- this many of these, appended to those read before
abbrev pub names_from : {A : Type 0} → (List ℕ → Option A) → ℕ → List A → List ℕ → Option (List A × List ℕ)
names_from reading zero before bytes = Some (before, bytes)
names_from reading (suc n) before bytes = option_and_then (λ x. names_from reading n (before ++ x.0 ∷ []) x.1) (name_at reading bytes)

-- a count, and that many of these
unfoldable pub names_at : {A : Type 0} → (List ℕ → Option A) → List ℕ → Option (List A × List ℕ)
names_at reading bytes = option_and_then (λ x. names_from reading x.0 [] x.1) (count_at bytes)

-- the devices of a claim, after its other fields
abbrev pub claim_with : List ℕ → Key → List Key × List ℕ → Option (Claim × List ℕ)
claim_with uid key pods = option_map (λ x. (record { uid = uid; key = key; pods = pods.0; devices = x.0 }, x.1)) (names_at device_read pods.1)

-- uid, key, pods and devices
unfoldable pub claim_at : List ℕ → Option (Claim × List ℕ)
claim_at bytes = option_and_then (λ u. option_and_then (λ k. option_and_then (claim_with u.0 k.0) (names_at key_read k.1)) (name_at key_read u.1)) (name_at text_read bytes)

-- what was read, if nothing follows it
abbrev pub alone : {A : Type 0} → A × List ℕ → Option A
alone (a, []) = Some a
alone (a, b ∷ bs) = None

abbrev pub claim_alone : List ℕ → Option Claim
claim_alone bytes = option_and_then alone (claim_at bytes)

abbrev pub uid_alone : List ℕ → Option (List ℕ)
uid_alone bytes = option_and_then alone (name_at text_read bytes)

-- the record of a body
unfoldable pub record_of : List ℕ → Option Record
record_of [] = None
record_of (kind ∷ fields) =
    if kind == 1 then option_map Begun (claim_alone fields) else
    if kind == 2 then option_map Prepared (claim_alone fields) else
    if kind == 3 then option_map Leaving (uid_alone fields) else
    if kind == 4 then option_map Gone (uid_alone fields) else None

-- ---- gates and records

-- the record of a body, with what follows it
abbrev pub with_rest : List ℕ → Option Record → Option (Record × List ℕ)
with_rest rest None = None
with_rest rest (Some r) = Some (r, rest)

-- n bytes of body, and after them the next gate
unfoldable pub body_at : ℕ → List ℕ → Option (Record × List ℕ)
body_at n bytes = if nat_le (length bytes) n then None else with_rest (drop n bytes) (record_of (take n bytes))

-- the record after a gate, and the bytes from the next gate on
unfoldable pub block_at : List ℕ → Option (Record × List ℕ)
block_at bytes = if nat_lt (length bytes) 4 then None else body_at (from_be_bytes w32 (take 4 bytes)) (drop 4 bytes)

abbrev pub with_prefix : Record → Result (List Record) ℕ → Result (List Record) ℕ
with_prefix r (Ok rs) = Ok (r ∷ rs)
with_prefix r (Err left) = Err left

abbrev pub if_block : ℕ → (List ℕ → Result (List Record) ℕ) → Option (Record × List ℕ) → Result (List Record) ℕ
if_block left next None = Err left
if_block left next (Some x) = with_prefix x.0 (next x.1)

-- The records of bytes that begin with a gate, at most this many. An error says how many bytes there are
-- from its gate on.
abbrev pub records_from : ℕ → List ℕ → Result (List Record) ℕ
records_from _ [] = Err 0
records_from zero (gate ∷ bytes) = Err (length bytes + 1)
records_from (suc most) (gate ∷ bytes) = if gate == 90 then if_block (length bytes + 1) (records_from most) (block_at bytes) else Ok []

abbrev pub offset : ℕ → Result (List Record) ℕ → Result (List Record) ℕ
offset len (Ok rs) = Ok rs
offset len (Err left) = Err (len - left)

-- the records of bytes that begin with a gate, up to the first closed one, or the offset of an open gate whose
-- record is cut, has no next gate, or isn't one
unfoldable pub gates : List ℕ → Result (List Record) ℕ
gates bytes = offset (length bytes) (records_from (length bytes) bytes)

-- the same, where these bytes begin at an offset
abbrev pub from_start : ℕ → Result (List Record) ℕ → Result (List Record) ℕ
from_start at (Ok rs) = Ok rs
from_start at (Err fault) = Err (at + fault)

-- the closed gate of a file of version 1 is below the offset 67,108,864
abbrev pub below_most : Layout → Result (List Record) ℕ → Result (List Record) ℕ
below_most (Double h) read = read
below_most Single (Err fault) = Err fault
below_most Single (Ok rs) = if nat_lt 67108863 (16 + length (blocks rs)) then Err 67108864 else Ok rs

abbrev pub laid_out : List ℕ → Result Layout ℕ → Result (List Record) ℕ
laid_out bytes (Err fault) = Err fault
laid_out bytes (Ok layout) = below_most layout (from_start (start layout) (gates (live layout bytes)))

-- the records of a file, up to the first closed gate of its live part, or the offset at which it is no journal
unfoldable pub records : List ℕ → Result (List Record) ℕ
records bytes = laid_out bytes (layout_of bytes)

-- ---- what a reader returns

-- what a reader returned is what is there, unless memory ran out
abbrev pub Gives : {V X : Type 0} → (V → X) → Result V Unread → Option X → Type 0
Gives view (Ok v) found = found ≡ Some (view v)
Gives view (Err NoRecord) found = found ≡ None
Gives view (Err Memory) found = Unit {0}

-- the same of a value as it is
abbrev pub Reads : {X : Type 0} → Result X Unread → Option X → Type 0
Reads result found = Gives (λ x. x) result found
