use Rattle.std.proofs.Common.{◌≡◌, drop}
use Rattle.object_fields.specs.declared.key.DeviceId.{DeviceId}
use Rattle.counter_sets.specs.Holding.{holder_in}
use Rattle.pool_totals.specs.Counting.{AreCounted}
use Rattle.ledger_core.specs.Holding.{left_by}
use Rattle.ledger_core.proofs.holding.leave_lost.Given as goal

abbrev pub invariant-loop-grant : goal.invariant-loop-grant
invariant-loop-grant l = record {
  left : (id : DeviceId) → left_by (drop l.grant-index l.lost) id (holder_in l.holders id) ≡ left_by l.lost id (holder_in l.fn.holders id);
  counted : AreCounted l.pools l.holders l.totals;
}
