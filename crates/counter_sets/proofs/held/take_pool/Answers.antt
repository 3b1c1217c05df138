use Rattle.std.proofs.Common.{ap, sym, ◌∙◌}
use Rattle.std.proofs.lemmas.Result.{on_ok_weaker}
use Rattle.pool_view.specs.Names.{at_name}
use Rattle.counter_sets.proofs.Leaving.{set_seen}
use Rattle.counter_sets.proofs.held.take_pool.Goals as goal

pub returns-in-Ok-clause-gone : goal.returns-in-Ok-clause-gone
returns-in-Ok-clause-gone c =
    let seen = set_seen c.args.device.now.pool c.args.pools.now c.in-Ok.devices.now c.take_device.new.devices (sym (c.in-Ok.ensures.value)) in
    on_ok_weaker c.take_device.result (λ gone. ap (λ t. at_name t c.args.device.now.device) seen ∙ gone) c.take_device.ensures.gone
