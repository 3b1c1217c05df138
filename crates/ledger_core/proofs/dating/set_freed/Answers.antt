use Rattle.std.proofs.Common.{◌∙◌}
use Rattle.ledger_core.proofs.Remembering.{set_next}
use Rattle.ledger_core.proofs.dating.set_freed.Goals as goal

pub loop-pool-preserved : goal.loop-pool-preserved
loop-pool-preserved c =
    let set = c.in_ok-set_freed.ensures in
    let was = c.loop-pool.invariant in
    record {
      objects = set.objects ∙ was.objects;
      freed = λ p. set_next c.args.index c.args.pools.now c.loop-pool.pool-index c.pool-item.result c.loop-pool.dates c.set_freed.new.self p _ c.loop-pool-test.true c.pool-item.is (set.freed p) (was.freed p);
    }
