use Rattle.std.proofs.Common.{◌≡◌, ◌++◌, drop}
use Rattle.std.specs.List.{flat_map}
use Rattle.pool_view.specs.Visibility.{offered_to}
use Rattle.pool_view.proofs.seen.devices_seen.Given as goal

abbrev pub invariant-loop-slice : goal.invariant-loop-slice
invariant-loop-slice l = l.devices ++ flat_map (offered_to l.node) (drop l.slice-index l.slices) ≡ flat_map (offered_to l.node) l.slices
