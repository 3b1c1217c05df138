use Rattle.request_rows.proofs.Ends.{next_step}
use Rattle.request_rows.proofs.choice.add_next.Goals as goal

pub loop-left-preserved : goal.loop-left-preserved
loop-left-preserved c =
    next_step c.loop-left.slots.items c.push.new.self.items c.args.row c.loop-left.left _ c.in_ok-push.ensures.items c.loop-left-test.true c.loop-left.invariant
