use Rattle.std.proofs.Common.{rules}
use Rattle.cluster.proofs.Using.{set_here}
use Rattle.cluster.proofs.users.Users.set.Goals as goal

pub returns-then-is_eq : goal.returns-then-is_eq
returns-then-is_eq c =
    set_here c.args.pod.now c.args.how c.loop-index.self-inside.items.items _ c.loop-index.index c.index.result.now c.index_mut.result.now (search rules) c.index.ensures c.index_mut.ensures.value (search rules) c.loop-index.invariant.rest
