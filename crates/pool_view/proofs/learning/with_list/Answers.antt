use Rattle.pool_view.proofs.Learned.{adds_list}
use Rattle.pool_view.proofs.learning.with_list.Goals as goal

pub returns-in_ok-push-2 : goal.returns-in_ok-push-2
returns-in_ok-push-2 c = adds_list c.args.list c.args.known.items _ c.in_ok-push-2.ensures.items
