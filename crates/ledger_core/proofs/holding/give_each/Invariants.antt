use Rattle.std.proofs.Common.{◌≡◌, drop}
use Rattle.object_fields.specs.declared.key.DeviceId.{DeviceId}
use Rattle.counter_sets.specs.Holding.{holder_in}
use Rattle.pool_totals.specs.Counting.{AreCounted}
use Rattle.ledger_core.specs.Holding.{given_each}
use Rattle.ledger_core.proofs.holding.give_each.Given as goal

abbrev pub invariant-loop-grant : goal.invariant-loop-grant
invariant-loop-grant l = record {
  given : (id : DeviceId) → given_each (drop l.grant-index l.grants) id (holder_in l.holders id) ≡ given_each l.grants id (holder_in l.fn.holders id);
  counted : AreCounted l.pools l.holders l.totals;
}
