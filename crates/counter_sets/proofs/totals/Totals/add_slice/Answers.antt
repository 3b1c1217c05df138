use Rattle.std.proofs.lemmas.Result.{on_ok_weaker}
use Rattle.counter_sets.proofs.Fresh.{drawn_after, value_after}
use Rattle.counter_sets.proofs.totals.Totals.add_slice.Goals as goal

pub returns-clause-value : goal.returns-clause-value
returns-clause-value c = on_ok_weaker c.put_slice.result (value_after c.args.slice.now c.args.self.now c.put_slice.new.self) c.put_slice.ensures.ok

pub returns-clause-drawn : goal.returns-clause-drawn
returns-clause-drawn c = on_ok_weaker c.put_slice.result (drawn_after c.args.slice.now c.args.self.now c.put_slice.new.self) c.put_slice.ensures.ok
