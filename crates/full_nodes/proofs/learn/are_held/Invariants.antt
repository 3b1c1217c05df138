use Rattle.std.proofs.Common.{◌≡◌, drop, is_some}
use Rattle.std.specs.List.{list_all}
use Rattle.counter_sets.specs.Holding.{holder_in}
use Rattle.full_nodes.proofs.learn.are_held.Given as goal

abbrev pub invariant-loop-device : goal.invariant-loop-device
invariant-loop-device l =
    list_all (λ d. is_some (holder_in l.pool.holders (record { driver = l.pool.driver; pool = l.pool.pool; device = d.name }))) (drop l.device-index l.devices)
    ≡ list_all (λ d. is_some (holder_in l.pool.holders (record { driver = l.pool.driver; pool = l.pool.pool; device = d.name }))) l.devices
