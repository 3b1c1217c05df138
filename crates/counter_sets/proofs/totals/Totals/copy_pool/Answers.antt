use Rattle.std.proofs.Common.{◌∙◌, ap, sym}
use Rattle.std.proofs.lemmas.Result.{on_ok_weaker}
use Rattle.std.specs.Option.{option_copied}
use Rattle.counter_sets.specs.Totals.{or_empty}
use Rattle.counter_sets.proofs.Replacing.{emptied_drawn, emptied_value, put_drawn, put_value}
use Rattle.counter_sets.proofs.totals.Totals.copy_pool.Goals as goal

pub returns-in-None-clause-value : goal.returns-in-None-clause-value
returns-in-None-clause-value c =
    emptied_value c.args.slice.now c.args.from.now c.args.self.now c.empty_pool.new.self (ap (λ o. or_empty (option_copied o)) (sym c.in-None.is) ∙ ap or_empty c.pool_of.ensures) c.empty_pool.ensures

pub returns-in-None-clause-drawn : goal.returns-in-None-clause-drawn
returns-in-None-clause-drawn c =
    emptied_drawn c.args.slice.now c.args.from.now c.args.self.now c.empty_pool.new.self (ap (λ o. or_empty (option_copied o)) (sym c.in-None.is) ∙ ap or_empty c.pool_of.ensures) c.empty_pool.ensures

pub returns-in_ok-sets-in-Some-clause-value : goal.returns-in_ok-sets-in-Some-clause-value
returns-in_ok-sets-in-Some-clause-value c =
    on_ok_weaker c.put_sets.result (put_value c.args.slice.now c.in_ok-sets-in-Some.sets c.args.from.now c.args.self.now c.put_sets.new.self (c.in_ok-sets-in-Some.ensures ∙ ap (λ o. or_empty (option_copied o)) (sym c.in-Some.is) ∙ ap or_empty c.pool_of.ensures)) c.put_sets.ensures.ok

pub returns-in_ok-sets-in-Some-clause-drawn : goal.returns-in_ok-sets-in-Some-clause-drawn
returns-in_ok-sets-in-Some-clause-drawn c =
    on_ok_weaker c.put_sets.result (put_drawn c.args.slice.now c.in_ok-sets-in-Some.sets c.args.from.now c.args.self.now c.put_sets.new.self (c.in_ok-sets-in-Some.ensures ∙ ap (λ o. or_empty (option_copied o)) (sym c.in-Some.is) ∙ ap or_empty c.pool_of.ensures)) c.put_sets.ensures.ok
