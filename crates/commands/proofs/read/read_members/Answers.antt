use Rattle.commands.specs.Commands.{member}
use Rattle.commands.proofs.Lists.{one_more}
use Rattle.commands.proofs.read.read_members.Goals as goal

pub loop-value-preserved : goal.loop-value-preserved
loop-value-preserved c = rw c.in_ok-push-in-Some.ensures.ok (one_more (member c.args.attempts) c.args.commands.now c.loop-value.value-index c.value-item.result c.loop-value.all c.in_ok-command.field-0 c.in-Some.command _ c.value-item.is c.loop-value-test.true c.in_ok-command.ensures c.in-Some.is c.loop-value.invariant)
