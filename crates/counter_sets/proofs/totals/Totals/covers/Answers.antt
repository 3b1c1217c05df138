use Rattle.std.proofs.Common.{ap, ◌∙◌}
use Rattle.counter_sets.specs.Totals.{covers_sets, or_empty, pool_in}
use Rattle.counter_sets.proofs.Moves.{covered_is}
use Rattle.counter_sets.proofs.totals.Totals.covers.Goals as goal

pub returns : goal.returns
returns c =
    c.covers.ensures
    ∙ ap (λ sets. covers_sets sets c.args.device.now)
    (ap or_empty c.pool_of.ensures ∙ ap (λ s. pool_in c.self.inside.drivers s.driver s.pool.name) c.slice.ensures ∙ ap (λ t. pool_in t c.args.device.now.slice.driver c.args.device.now.slice.pool.name) c.self.view_is)
    ∙ covered_is c.args.device.now c.args.self.now
