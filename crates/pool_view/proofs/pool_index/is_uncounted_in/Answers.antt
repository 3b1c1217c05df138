use Rattle.pool_view.proofs.Indexing.{known_in}
use Rattle.pool_view.proofs.pool_index.is_uncounted_in.Goals as goal

pub returns-in-Some : goal.returns-in-Some
returns-in-Some c = known_in c.is_uncounted_at.result c.args.driver.now c.args.pool.now c.args.pools.now c.in-Some.index c.in-Some.is c.is_uncounted_at.ensures
