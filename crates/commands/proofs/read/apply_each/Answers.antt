use Rattle.commands.specs.Commands.{list_item}
use Rattle.commands.proofs.Lists.{one_more}
use Rattle.commands.proofs.read.apply_each.Goals as goal

pub loop-value-preserved : goal.loop-value-preserved
loop-value-preserved c = rw c.in_ok-push-in-Some.ensures.ok (one_more list_item c.args.items.now c.loop-value.value-index c.value-item.result c.loop-value.all c.in_ok-given.field-0 c.in-Some.given _ c.value-item.is c.loop-value-test.true c.in_ok-given.ensures c.in-Some.is c.loop-value.invariant)
