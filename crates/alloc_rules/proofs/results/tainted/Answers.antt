use Rattle.alloc_rules.proofs.Lists.{here}
use Rattle.alloc_rules.proofs.results.tainted.Goals as goal

pub is_untolerated-requires : goal.is_untolerated-requires
is_untolerated-requires c = c.requires c.loop-due.due-index c.due-item.result (here c.args.dues.now c.loop-due.due-index c.due-item.result c.loop-due-test.true c.due-item.is)
