use Rattle.std.proofs.Common.{◌≡◌, ◌++◌, drop}
use Rattle.std.specs.List.{flat_map}
use Rattle.pool_view.specs.Pools.{device_names}
use Rattle.pool_view.proofs.sorting.names_of.Given as goal

abbrev pub invariant-loop-slice : goal.invariant-loop-slice
invariant-loop-slice l = l.names.items ++ flat_map device_names (drop l.slice-index l.slices) ≡ flat_map device_names l.slices
