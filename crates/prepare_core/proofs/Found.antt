-- The row that a record sets is found.
use Rattle.std.proofs.Common.{◌≡◌, ◌∙◌, Bool, true, false, List, [], ◌∷◌, Some, if◌then◌else◌, refl, ap}
use Rattle.std.proofs.lemmas.Cmp.{nat_list_eq_equiv}
use Rattle.ckpt_journal.specs.Table.{is_of, row, row_after, set_row}
use Rattle.ckpt_journal.specs.declared.record.Claim.{Claim}
use Rattle.ckpt_journal.specs.declared.record.Record.TheVariants as item
use Rattle.ckpt_journal.specs.declared.record.Row.{Row}
use Rattle.ckpt_journal.specs.declared.record.RowState.TheVariants as state
use Rattle.prepare_core.specs.Table.{row_of}

module _ (new : Row) where
  pub own : is_of new.claim.uid new ≡ true
  own = nat_list_eq_equiv.refl new.claim.uid

  here : (rows : List Row) → row_of new.claim.uid (new ∷ rows) ≡ Some new
  here rows = ap (λ (b : Bool). if b then Some new else row_of new.claim.uid rows) own

  step : (r : Row) (rows : List Row) (b : Bool) → is_of new.claim.uid r ≡ b → row_of new.claim.uid (set_row new rows) ≡ Some new
      → row_of new.claim.uid (if b then new ∷ rows else r ∷ set_row new rows) ≡ Some new
  step r rows true is next = here rows
  step r rows false is next = ap (λ (b : Bool). if b then Some r else row_of new.claim.uid (set_row new rows)) is ∙ next

  pub set_found : (rows : List Row) → row_of new.claim.uid (set_row new rows) ≡ Some new
  set_found [] = here []
  set_found (r ∷ rows) = step r rows (is_of new.claim.uid r) refl (set_found rows)

pub begun_found : (rows table : List Row) (k : Claim) → table ≡ row_after rows (item.Begun k) → row_of k.uid table ≡ Some (row state.Begun k)
begun_found rows table k is = ap (row_of k.uid) is ∙ set_found (row state.Begun k) rows

pub prepared_found : (rows table : List Row) (k : Claim) → table ≡ row_after rows (item.Prepared k) → row_of k.uid table ≡ Some (row state.Prepared k)
prepared_found rows table k is = ap (row_of k.uid) is ∙ set_found (row state.Prepared k) rows
