use Rattle.std.proofs.Common.{◌∙◌}
use Rattle.pool_view.proofs.Indexed.{position_is}
use Rattle.pool_view.proofs.view.PoolView.position.Goals as goal

pub returns : goal.returns
returns c = rw (← c.self.view_is) (c.copied.ensures ∙ c.get.ensures ∙ position_is c.self.inside.devices c.self.inside.places c.args.id.now c.self.invariant)
