-- The table that records make, and the records that make a table anew.
use Rattle.std.specs.Prelude.{◌≡◌, ℕ, ◌+◌, nat_eq, Bool, true, false, List, [], ◌∷◌, ◌++◌, Result, Ok, Err, Option, Some, None, if◌then◌else◌}
use Rattle.std.specs.Cmp.Lexicographic.{pointwise}
use Rattle.std.specs.List.{AllByRecursion}
use Rattle.ckpt_journal.specs.Format.{Fits}
use Rattle.ckpt_journal.specs.declared.record.Claim.{Claim}
use Rattle.ckpt_journal.specs.declared.record.Row.{Row}
use Rattle.ckpt_journal.specs.declared.record.RowState.{RowState}
use Rattle.ckpt_journal.specs.declared.record.RowState.TheVariants as state
use Rattle.ckpt_journal.specs.declared.record.Record.{Record}
use Rattle.ckpt_journal.specs.declared.record.Record.TheVariants.{Begun, Prepared, Leaving, Gone}

abbrev pub row : RowState → Claim → Row
row s c = record { state = s; claim = c }

-- the row is that of the claim with this uid
abbrev pub is_of : List ℕ → Row → Bool
is_of uid r = pointwise nat_eq r.claim.uid uid

-- with the row in the place of the one of its uid, or after all others
abbrev pub set_row : Row → List Row → List Row
set_row new [] = new ∷ []
set_row new (r ∷ rows) = if is_of new.claim.uid r then new ∷ rows else r ∷ set_row new rows

-- with the row of the uid Leaving
abbrev pub leave_row : List ℕ → List Row → List Row
leave_row uid [] = []
leave_row uid (r ∷ rows) = if is_of uid r then row state.Leaving r.claim ∷ rows else r ∷ leave_row uid rows

-- without the row of the uid
abbrev pub remove_row : List ℕ → List Row → List Row
remove_row uid [] = []
remove_row uid (r ∷ rows) = if is_of uid r then rows else r ∷ remove_row uid rows

-- the rows after one more record
abbrev pub row_after : List Row → Record → List Row
row_after rows (Begun c) = set_row (row state.Begun c) rows
row_after rows (Prepared c) = set_row (row state.Prepared c) rows
row_after rows (Leaving uid) = leave_row uid rows
row_after rows (Gone uid) = remove_row uid rows

abbrev pub table_from : List Row → List Record → List Row
table_from rows [] = rows
table_from rows (r ∷ rs) = table_from (row_after rows r) rs

-- the rows that records make, in the order in which they were made
abbrev pub table : List Record → List Row
table rs = table_from [] rs

abbrev pub records_of : RowState → Claim → List Record
records_of state.Begun c = Begun c ∷ []
records_of state.Prepared c = Prepared c ∷ []
records_of state.Leaving c = Prepared c ∷ Leaving c.uid ∷ []

-- the kind byte of the record that sets a row
abbrev pub set_kind : RowState → ℕ
set_kind state.Begun = 1
set_kind state.Prepared = 2
set_kind state.Leaving = 2

-- the records of a compacted table: one for each row, and two for one that is Leaving
abbrev pub compact : List Row → List Record
compact [] = []
compact (r ∷ rows) = records_of r.state r.claim ++ compact rows

-- a row has the uid
abbrev pub has_uid : List ℕ → List Row → Bool
has_uid uid [] = false
has_uid uid (r ∷ rows) = if is_of uid r then true else has_uid uid rows

-- no uid has two rows
abbrev pub are_distinct : List Row → Bool
are_distinct [] = true
are_distinct (r ∷ rows) = if has_uid r.claim.uid rows then false else are_distinct rows

-- rows that records may have made
abbrev pub IsTable : List Row → Type 0
IsTable rows = (are_distinct rows ≡ true) × AllByRecursion Fits (compact rows)

-- the offset in the list of the row of the uid, if the first of these rows has this offset
abbrev pub place_from : ℕ → List ℕ → List Row → Option ℕ
place_from at uid [] = None
place_from at uid (r ∷ rows) = if is_of uid r then Some at else place_from (at + 1) uid rows

abbrev pub tabled : Result (List Record) ℕ → Result (List Row) ℕ
tabled (Ok rs) = Ok (table rs)
tabled (Err at) = Err at
