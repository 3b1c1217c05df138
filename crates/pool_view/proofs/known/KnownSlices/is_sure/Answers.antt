use Rattle.std.proofs.Common.{◌∙◌}
use Rattle.pool_view.proofs.Learned.{found_in}
use Rattle.pool_view.proofs.known.KnownSlices.is_sure.Goals as goal

pub returns : goal.returns
returns c = rw (← c.self.view_is) (found_in c.self.inside.slices.now c.self.inside.list.now c.args.slice.now c.copied.result c.self.invariant (c.copied.ensures ∙ c.get.ensures))
