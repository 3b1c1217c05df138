use Rattle.std.proofs.Common.{◌≡◌, ◌++◌, map, take}
use Rattle.pool_view.proofs.sorting.push_names.Given as goal

abbrev pub invariant-loop-device : goal.invariant-loop-device
invariant-loop-device l = record {
  names : l.names.items ≡ l.fn.names.items ++ map (λ d. d.name) (take l.device-index l.device-items);
  all : l.device-items ≡ l.fn.slice.devices;
}
