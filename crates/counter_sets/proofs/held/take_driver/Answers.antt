use Rattle.std.proofs.Common.{ap, sym, ◌∙◌}
use Rattle.std.proofs.lemmas.Result.{on_ok_weaker}
use Rattle.pool_view.specs.Names.{at_name}
use Rattle.counter_sets.specs.Totals.{or_empty}
use Rattle.counter_sets.proofs.Leaving.{set_seen}
use Rattle.counter_sets.proofs.held.take_driver.Goals as goal

pub returns-in-Ok-clause-gone : goal.returns-in-Ok-clause-gone
returns-in-Ok-clause-gone c =
    let seen = set_seen c.args.device.now.driver c.args.drivers.now c.in-Ok.pools.now c.take_pool.new.pools (sym (c.in-Ok.ensures.value)) in
    on_ok_weaker c.take_pool.result (λ gone. ap (λ t. at_name (or_empty (at_name t c.args.device.now.pool)) c.args.device.now.device) seen ∙ gone) c.take_pool.ensures.gone
