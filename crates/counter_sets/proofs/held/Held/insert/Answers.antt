use Rattle.std.proofs.lemmas.Result.{on_ok_weaker}
use Rattle.counter_sets.proofs.Holding.{holder_after}
use Rattle.counter_sets.proofs.Pairs.{pairs_after}
use Rattle.counter_sets.proofs.held.Held.insert.Goals as goal

pub returns-clause-ok : goal.returns-clause-ok
returns-clause-ok c = on_ok_weaker c.put.result (holder_after c.args.device.now c.args.holder c.args.self.now c.put.new.self) c.put.ensures.ok

pub returns-clause-pairs : goal.returns-clause-pairs
returns-clause-pairs c = on_ok_weaker c.put.result (pairs_after c.args.device.now c.args.holder c.args.self.now c.put.new.self) c.put.ensures.ok
