use Rattle.std.proofs.Common.{◌≡◌}
use Rattle.pool_view.specs.Pools.{has_twice}
use Rattle.pool_view.proofs.Twice.{clashes}
use Rattle.pool_view.proofs.sorting.has_twice.Given as goal

abbrev pub invariant-loop-name : goal.invariant-loop-name
invariant-loop-name l = clashes l.seen.keys l.name-iterator.rest.items ≡ has_twice l.fn.names.items
