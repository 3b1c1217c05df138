-- Which of a call's records were added.
use Rattle.std.proofs.Common.{◌≡◌, ◌⊎◌, ⊎_elim, inl, inr, IsErrOf, OnErr, List, [], ◌∷◌, Result, Ok, Err, arith, ◌∙◌}
use Rattle.ckpt_journal.specs.Table.{row_after}
use Rattle.ckpt_journal.specs.declared.record.Record.{Record}
use Rattle.ckpt_journal.specs.declared.record.Row.{Row}
use Rattle.prepare_core.specs.Moments.{HasAdded}
use Rattle.prepare_core.specs.declared.error.KubeletError.{KubeletError}
use Rattle.prepare_core.specs.declared.error.KubeletError.TheVariants.{DiskFault}

pub none_added : (rows : List Row) (own : List Record) (now : List Row) → now ≡ rows → HasAdded rows own now
none_added rows own now is = record { count = 0; some = omega arith; table = is }

pub one_added : (rows : List Row) (a : Record) (more : List Record) (now : List Row) → now ≡ row_after rows a → HasAdded rows (a ∷ more) now
one_added rows a more now is = record { count = 1; some = omega arith; table = is }

pub two_added : (rows : List Row) (a b : Record) (now : List Row) → now ≡ row_after (row_after rows a) b → HasAdded rows (a ∷ b ∷ []) now
two_added rows a b now is = record { count = 2; some = omega arith; table = is }

-- a record that wasn't added left the table as it was
pub kept_none : {P : Type 0} (rows : List Row) (own : List Record) (now : List Row) → P ⊎ (now ≡ rows) → P ⊎ HasAdded rows own now
kept_none rows own now kept = ⊎_elim inl (λ is. inr (none_added rows own now is)) kept

pub kept_one : {P : Type 0} (rows table : List Row) (a : Record) (more : List Record) (now : List Row) → table ≡ row_after rows a → P ⊎ (now ≡ table) → P ⊎ HasAdded rows (a ∷ more) now
kept_one rows table a more now was kept = ⊎_elim inl (λ is. inr (one_added rows a more now (is ∙ was))) kept

pub kept_by : {T : Type 0} (rows now : List Row) (own : List Record) (r : Result T KubeletError) → OnErr r (IsErrOf r DiskFault ⊎ (now ≡ rows)) → OnErr r (IsErrOf r DiskFault ⊎ HasAdded rows own now)
kept_by rows now own (Ok x) kept = tt
kept_by rows now own (Err e) kept = kept_none rows own now kept
