use Rattle.std.proofs.Common.{ap, ◌∙◌}
use Rattle.std.proofs.lemmas.Result.{on_ok_weaker}
use Rattle.counter_sets.specs.Totals.{drawn_in, value_of}
use Rattle.counter_sets.specs.declared.change.Change.TheVariants as change
use Rattle.counter_sets.proofs.Moves.{given_back, same_value}
use Rattle.counter_sets.proofs.shared.SharedTotals.give_back.Goals as goal

pub returns-clause-drawn : goal.returns-clause-drawn
returns-clause-drawn c = on_ok_weaker c.change.result (λ is k. ap (λ t. drawn_in t k) is ∙ given_back c.args.device.now c.args.self.now k) c.change.ensures.ok

pub returns-clause-value : goal.returns-clause-value
returns-clause-value c = on_ok_weaker c.change.result (λ is k. ap (λ t. value_of t k) is ∙ same_value change.Return c.args.device.now c.args.self.now k) c.change.ensures.ok
