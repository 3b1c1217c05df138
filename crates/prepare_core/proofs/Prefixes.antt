-- What a crash leaves while records are added one after another.
use Rattle.std.proofs.Common.{⊎_elim, ℕ, IfSome, List, [], ◌∷◌, Option, Some, None, arith}
use Rattle.dra_ports.specs.DiskContent.{Content}
use Rattle.dra_ports.specs.DiskImages.{Leaves, Where}
use Rattle.ckpt_journal.specs.Standing.{HasTable, IsBeforeOrAfter, Keeps}
use Rattle.ckpt_journal.specs.Table.{row_after}
use Rattle.ckpt_journal.specs.declared.record.Record.{Record}
use Rattle.ckpt_journal.specs.declared.record.Row.{Row}
use Rattle.prepare_core.specs.Moments.{HasPrefix}

none_of : (rows : List Row) (own : List Record) (bytes : List ℕ) → HasTable rows bytes → HasPrefix rows own bytes
none_of rows own bytes has = record { count = 0; some = omega arith; table = has }

one_of : (rows : List Row) (a : Record) (more : List Record) (bytes : List ℕ) → HasTable (row_after rows a) bytes → HasPrefix rows (a ∷ more) bytes
one_of rows a more bytes has = record { count = 1; some = omega arith; table = has }

two_of : (rows : List Row) (a b : Record) (bytes : List ℕ) → HasTable (row_after (row_after rows a) b) bytes → HasPrefix rows (a ∷ b ∷ []) bytes
two_of rows a b bytes has = record { count = 2; some = omega arith; table = has }

pub none_yet : (rows : List Row) (own : List Record) (x : Option Content) → IfSome x (Keeps rows) → Where (λ c. Leaves (HasPrefix rows own) c.sure) x
none_yet rows own None keeps = tt
none_yet rows own (Some c) keeps = λ honest image is. none_of rows own image (keeps.images honest image is)

pub none_or_one : (rows : List Row) (a : Record) (more : List Record) (bytes : List ℕ) → IsBeforeOrAfter rows a bytes → HasPrefix rows (a ∷ more) bytes
none_or_one rows a more bytes has = ⊎_elim (none_of rows (a ∷ more) bytes) (one_of rows a more bytes) has

pub one_or_two : (rows : List Row) (a b : Record) (bytes : List ℕ) → IsBeforeOrAfter (row_after rows a) b bytes → HasPrefix rows (a ∷ b ∷ []) bytes
one_or_two rows a b bytes has = ⊎_elim (one_of rows a (b ∷ []) bytes) (two_of rows a b bytes) has
