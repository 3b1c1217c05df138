use Rattle.std.proofs.Common.{◌∙◌, rules, sym}
use Rattle.std.proofs.lemmas.Result.{on_ok_weaker}
use Rattle.counter_sets.proofs.Replacing.{emptied_drawn, emptied_value, put_drawn, put_value}
use Rattle.counter_sets.proofs.shared.SharedTotals.put_pool.Goals as goal

pub returns-then-is_empty-clause-value : goal.returns-then-is_empty-clause-value
returns-then-is_empty-clause-value c =
    on_ok_weaker c.empty_pool.result (emptied_value c.args.slice.now c.args.from c.args.self.now c.empty_pool.new.self (sym (search rules) ∙ c.into_pool-sets.ensures)) c.empty_pool.ensures.ok

pub returns-then-is_empty-clause-drawn : goal.returns-then-is_empty-clause-drawn
returns-then-is_empty-clause-drawn c =
    on_ok_weaker c.empty_pool.result (emptied_drawn c.args.slice.now c.args.from c.args.self.now c.empty_pool.new.self (sym (search rules) ∙ c.into_pool-sets.ensures)) c.empty_pool.ensures.ok

pub returns-clause-value : goal.returns-clause-value
returns-clause-value c =
    on_ok_weaker c.put_sets.result (put_value c.args.slice.now c.in_ok-sets.sets c.args.from c.args.self.now c.put_sets.new.self (c.in_ok-sets.ensures ∙ c.into_pool-sets.ensures)) c.put_sets.ensures.ok

pub returns-clause-drawn : goal.returns-clause-drawn
returns-clause-drawn c =
    on_ok_weaker c.put_sets.result (put_drawn c.args.slice.now c.in_ok-sets.sets c.args.from c.args.self.now c.put_sets.new.self (c.in_ok-sets.ensures ∙ c.into_pool-sets.ensures)) c.put_sets.ensures.ok
