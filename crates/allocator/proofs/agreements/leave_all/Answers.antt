use Rattle.std.proofs.Common.{arith}
use Rattle.allocator.proofs.Changed.{rest_same, still_many}
use Rattle.allocator.proofs.Constraining.{left_step}
use Rattle.allocator.proofs.agreements.leave_all.Goals as goal

pub loop-at-preserved : goal.loop-at-preserved
loop-at-preserved c =
    let i = c.loop-at.invariant in
    let old = c.args.agreements.now.items in
    let now = c.loop-at.agreements.items in
    record {
      many = still_many old now c.loop-at.at c.leave.new.self i.many;
      same = rest_same old now c.loop-at.at c.leave.new.self (omega arith) i.many i.same;
      done = left_step c.args.claim c.args.picked.now old now c.loop-at.at c.index_mut.result.now c.leave.new.self (omega arith) i.many i.same c.index_mut.ensures.value i.done c.leave.ensures;
    }
