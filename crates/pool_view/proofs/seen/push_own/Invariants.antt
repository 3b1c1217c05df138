use Rattle.std.proofs.Common.{◌≡◌, ◌++◌, drop, map, filter}
use Rattle.pool_view.specs.Pools.{offered_by}
use Rattle.pool_view.specs.Visibility.{own_are_on}
use Rattle.pool_view.proofs.seen.push_own.Given as goal

abbrev pub invariant-loop-device : goal.invariant-loop-device
invariant-loop-device l = record {
  rest : l.out ++ map (offered_by l.slice) (filter (λ d. own_are_on d.nodes l.node) (drop l.device-index l.device-items))
      ≡ l.fn.out ++ map (offered_by l.slice) (filter (λ d. own_are_on d.nodes l.node) l.slice.devices);
  all : l.device-items ≡ l.fn.slice.devices;
}
