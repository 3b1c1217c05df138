use Rattle.std.proofs.Common.{◌≡◌, drop}
use Rattle.object_fields.specs.declared.key.DeviceId.{DeviceId}
use Rattle.counter_sets.specs.Holding.{holder_in}
use Rattle.pool_totals.specs.Counting.{AreCounted}
use Rattle.ledger_core.specs.Holding.{left_of}
use Rattle.ledger_core.proofs.holding.leave_all.Given as goal

abbrev pub invariant-loop-found : goal.invariant-loop-found
invariant-loop-found l = record {
  left : (id : DeviceId) → left_of (drop l.found-index l.results) id (holder_in l.holders id) ≡ left_of l.results id (holder_in l.fn.holders id);
  counted : AreCounted l.pools l.holders l.totals;
}
