-- What an inventory keeps of its slices, sorted.
use Rattle.std.specs.Prelude.{◌≡◌, Option, None, Some}
use Rattle.api_slice.specs.declared.types.ResourceSlice.{ResourceSlice}
use Rattle.pool_view.specs.Inventory.{InventoryFields, Named}
use Rattle.pool_view.specs.Usable.{broken_slices, counted_slices, usable_slices}
use Rattle.pool_view.specs.declared.kept.SortedSlices.{SortedSlices}

-- they are those of each inventory that has these slices
pub record AreSorted (slices : Named ResourceSlice) (sorted : SortedSlices) : Type 0 where
  pub usable : (i : InventoryFields) → i.slices ≡ slices → sorted.usable ≡ usable_slices i
  pub broken : (i : InventoryFields) → i.slices ≡ slices → sorted.broken ≡ broken_slices i
  pub counted : (i : InventoryFields) → i.slices ≡ slices → sorted.counted ≡ counted_slices i

-- what is kept, if anything is, is sorted
abbrev pub IsSorted : Named ResourceSlice → Option SortedSlices → Type 0
IsSorted slices None = Unit {0}
IsSorted slices (Some sorted) = AreSorted slices sorted
