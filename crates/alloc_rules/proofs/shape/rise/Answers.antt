use Rattle.std.proofs.Common.{rules}
use Rattle.alloc_rules.proofs.Rising.{rise_next, rise_stops}
use Rattle.alloc_rules.proofs.shape.rise.Goals as goal

pub returns-then-due-before : goal.returns-then-due-before
returns-then-due-before c =
    rise_stops c.args.dues.now c.loop-at.at c.index-dues-at-in-loop-at.result c.index-dues-at.result c.loop-at-test.true c.index-dues-at-in-loop-at.is c.index-dues-at.is
    (search rules) c.loop-at.invariant

pub loop-at-preserved : goal.loop-at-preserved
loop-at-preserved c =
    rise_next c.args.dues.now c.loop-at.at c.index-dues-at-in-loop-at.result c.index-dues-at.result c.loop-at-test.true c.index-dues-at-in-loop-at.is c.index-dues-at.is
    (search rules) c.loop-at.invariant
