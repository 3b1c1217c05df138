-- What is kept of the slices, sorted, depends on the slices alone.
use Rattle.std.proofs.Common.{◌≡◌, ◌∙◌, ap, sym, filter, List}
use Rattle.std.specs.List.{flat_map}
use Rattle.api_slice.specs.declared.types.ResourceSlice.{ResourceSlice}
use Rattle.pool_view.specs.Inventory.{InventoryFields}
use Rattle.pool_view.specs.Pools.{pool_of}
use Rattle.pool_view.specs.Usable.{broken_slices, counted_slices, if_broken, if_usable, is_counted, pools, usable_slices}

usable_same : (i j : InventoryFields) → i.slices ≡ j.slices → usable_slices i ≡ usable_slices j
unfolding usable_slices
usable_same i j same = ap (λ ss. flat_map (λ p. if_usable (pool_of ss p.driver p.pool)) (pools ss)) same

broken_same : (i j : InventoryFields) → i.slices ≡ j.slices → broken_slices i ≡ broken_slices j
unfolding broken_slices
broken_same i j same = ap (λ ss. flat_map (λ p. if_broken (pool_of ss p.driver p.pool)) (pools ss)) same

pub usable_of : (j : InventoryFields) (kept : List ResourceSlice) → kept ≡ usable_slices j → (i : InventoryFields) → i.slices ≡ j.slices → kept ≡ usable_slices i
usable_of j kept is i same = is ∙ usable_same j i (sym same)

pub broken_of : (j : InventoryFields) (kept : List ResourceSlice) → kept ≡ broken_slices j → (i : InventoryFields) → i.slices ≡ j.slices → kept ≡ broken_slices i
broken_of j kept is i same = is ∙ broken_same j i (sym same)

pub counted_of : (j : InventoryFields) (usable kept : List ResourceSlice) → usable ≡ usable_slices j → kept ≡ filter is_counted usable → (i : InventoryFields) → i.slices ≡ j.slices → kept ≡ counted_slices i
unfolding counted_slices
counted_of j usable kept all is i same = is ∙ ap (filter is_counted) (all ∙ usable_same j i (sym same))
