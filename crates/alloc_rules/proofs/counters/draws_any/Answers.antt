use Rattle.alloc_rules.proofs.Lists.{here}
use Rattle.alloc_rules.proofs.counters.draws_any.Goals as goal

pub draws_one-requires : goal.draws_one-requires
draws_one-requires c = c.requires c.loop-due.due-index c.due-item.result (here c.args.dues.now c.loop-due.due-index c.due-item.result c.loop-due-test.true c.due-item.is)
