use Rattle.ledger_core.proofs.Giving.{grant_next}
use Rattle.ledger_core.proofs.holding.give_each.Goals as goal

pub loop-grant-preserved : goal.loop-grant-preserved
loop-grant-preserved c = record {
  given = λ id.
      grant_next c.args.grants.now c.loop-grant.grant-index c.grant-item.result c.loop-grant.holders c.give_all.new.holders id _ c.loop-grant-test.true c.grant-item.is
      (rw c.as_slice.ensures at c.in_ok-give_all.ensures.ok id) (c.loop-grant.invariant.given id);
  counted = c.in_ok-give_all.ensures.counted;
}
