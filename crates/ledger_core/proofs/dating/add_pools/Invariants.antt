use Rattle.std.proofs.Common.{◌≡◌, ◌++◌, drop}
use Rattle.ledger_core.specs.Remembered.{pools_held}
use Rattle.ledger_core.proofs.dating.add_pools.Given as goal

abbrev pub invariant-loop-found : goal.invariant-loop-found
invariant-loop-found l = l.pools.items ++ pools_held (drop l.found-index l.results) ≡ l.fn.pools.items ++ pools_held l.results
