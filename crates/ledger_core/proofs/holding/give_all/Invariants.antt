use Rattle.std.proofs.Common.{◌≡◌, drop}
use Rattle.object_fields.specs.declared.key.DeviceId.{DeviceId}
use Rattle.counter_sets.specs.Holding.{holder_in}
use Rattle.pool_totals.specs.Counting.{AreCounted}
use Rattle.ledger_core.specs.Holding.{given_to}
use Rattle.ledger_core.proofs.holding.give_all.Given as goal

abbrev pub invariant-loop-found : goal.invariant-loop-found
invariant-loop-found l = record {
  given : (id : DeviceId) → given_to l.claim (drop l.found-index l.results) id (holder_in l.holders id) ≡ given_to l.claim l.results id (holder_in l.fn.holders id);
  counted : AreCounted l.pools l.holders l.totals;
}
