use Rattle.alloc_rules.proofs.Lists.{here}
use Rattle.alloc_rules.proofs.results.selector_no.Goals as goal

pub is_unmet-requires : goal.is_unmet-requires
is_unmet-requires c = c.requires c.loop-due.due-index c.due-item.result (here c.args.dues.now c.loop-due.due-index c.due-item.result c.loop-due-test.true c.due-item.is)
