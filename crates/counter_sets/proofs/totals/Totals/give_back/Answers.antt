use Rattle.std.proofs.Common.{ap, ◌∙◌}
use Rattle.counter_sets.specs.Totals.{value_of}
use Rattle.counter_sets.specs.declared.change.Change.TheVariants as change
use Rattle.counter_sets.proofs.Moves.{same_value}
use Rattle.counter_sets.proofs.totals.Totals.give_back.Goals as goal

pub returns-clause-value : goal.returns-clause-value
returns-clause-value c = λ k. ap (λ t. value_of t k) c.change.ensures ∙ same_value change.Return c.args.device.now c.args.self.now k
