use Rattle.std.proofs.Common.{rules}
use Rattle.request_rows.specs.Wanted.{input_of}
use Rattle.alloc_rules.proofs.Lists.{here}
use Rattle.alloc_rules.proofs.Agreed.{agree_next}
use Rattle.alloc_rules.proofs.agreeing.agree.Goals as goal

pub picked_of-picked-requires : goal.picked_of-picked-requires
picked_of-picked-requires c = c.requires c.loop-due.due-index c.due-item.result (here c.args.dues.now c.loop-due.due-index c.due-item.result c.loop-due-test.true c.due-item.is)

pub loop-due-preserved : goal.loop-due-preserved
loop-due-preserved c =
    agree_next (input_of c.args.rows.now) c.args.constraint.now c.loop-due.agreement c.take.new.self c.args.dues.now c.loop-due.due-index c.due-item.result c.picked_of-picked.result c.loop-due-test.true c.due-item.is
    c.picked_of-picked.ensures (search rules) (search rules) c.loop-due.invariant
