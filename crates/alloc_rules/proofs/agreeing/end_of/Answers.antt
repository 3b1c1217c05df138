use Rattle.alloc_rules.proofs.Lists.{here}
use Rattle.alloc_rules.proofs.agreeing.end_of.Goals as goal

pub is_of-requires : goal.is_of-requires
is_of-requires c = c.requires.dues c.loop-at.at c.index-dues-at.result (here c.args.dues.now c.loop-at.at c.index-dues-at.result c.loop-at-test.true c.index-dues-at.is)
