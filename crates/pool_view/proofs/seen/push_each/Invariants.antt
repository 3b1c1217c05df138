use Rattle.std.proofs.Common.{◌≡◌, ◌++◌, drop, map}
use Rattle.pool_view.specs.Pools.{offered_by}
use Rattle.pool_view.proofs.seen.push_each.Given as goal

abbrev pub invariant-loop-device : goal.invariant-loop-device
invariant-loop-device l = record {
  rest : l.out ++ map (offered_by l.slice) (drop l.device-index l.device-items) ≡ l.fn.out ++ map (offered_by l.slice) l.slice.devices;
  all : l.device-items ≡ l.fn.slice.devices;
}
