use Rattle.std.proofs.Common.{ap, ◌∙◌}
use Rattle.counter_sets.specs.Totals.{value_of}
use Rattle.counter_sets.proofs.Holding.{held_drawn_after, held_value}
use Rattle.counter_sets.proofs.Pairs.{totals_more}
use Rattle.counter_sets.proofs.totals.Totals.add_held.Goals as goal

pub returns-clause-drawn : goal.returns-clause-drawn
returns-clause-drawn c = λ k. held_drawn_after c.args.held.now c.args.slice.now c.args.self.now c.draw_held.new.self c.draw_held.ensures k (c.requires.kept k) (c.requires.fits k)

pub returns-clause-totals : goal.returns-clause-totals
returns-clause-totals c = λ slices pairs held before.
    totals_more c.args.held.now pairs slices c.args.slice.now c.args.self.now c.draw_held.new.self held before
    (λ k. held_drawn_after c.args.held.now c.args.slice.now c.args.self.now c.draw_held.new.self c.draw_held.ensures k (c.requires.kept k) (c.requires.fits k))

pub returns-clause-value : goal.returns-clause-value
returns-clause-value c = λ k. ap (λ t. value_of t k) c.draw_held.ensures ∙ held_value c.args.held.now c.args.slice.now c.args.slice.now.devices c.args.self.now k
