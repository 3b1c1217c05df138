use Rattle.ledger_core.proofs.Giving.{give_next}
use Rattle.ledger_core.proofs.holding.give_all.Goals as goal

pub loop-found-preserved : goal.loop-found-preserved
loop-found-preserved c = record {
  given = λ id.
      give_next c.args.claim.now c.args.results.now c.loop-found.found-index c.found-item.result c.loop-found.holders c.give.new.holders id _ c.loop-found-test.true c.found-item.is (c.in_ok-give.ensures.ok id)
      (c.loop-found.invariant.given id);
  counted = c.in_ok-give.ensures.counted;
}
