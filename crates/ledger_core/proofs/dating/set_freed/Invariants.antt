use Rattle.std.proofs.Common.{◌≡◌, drop}
use Rattle.pool_view.specs.declared.names.PoolName.{PoolName}
use Rattle.allocations.specs.Lacking.{freed_for}
use Rattle.ledger_core.specs.Remembered.{set_in}
use Rattle.ledger_core.proofs.dating.set_freed.Given as goal

abbrev pub invariant-loop-pool : goal.invariant-loop-pool
invariant-loop-pool l = record {
  objects : l.dates.objects ≡ l.fn.dates.objects;
  freed : (p : PoolName) → set_in l.index p (drop l.pool-index l.pools) (freed_for l.dates p) ≡ set_in l.index p l.pools (freed_for l.fn.dates p);
}
