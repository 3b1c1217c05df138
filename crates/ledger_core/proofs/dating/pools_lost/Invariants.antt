use Rattle.std.proofs.Common.{◌≡◌, ◌++◌, drop}
use Rattle.ledger_core.specs.Remembered.{pools_lost}
use Rattle.ledger_core.proofs.dating.pools_lost.Given as goal

abbrev pub invariant-loop-grant : goal.invariant-loop-grant
invariant-loop-grant l = l.pools.items ++ pools_lost (drop l.grant-index l.lost) ≡ pools_lost l.lost
