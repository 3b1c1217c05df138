use Rattle.std.proofs.Common.{arith}
use Rattle.allocator.proofs.Changed.{rest_same, still_many}
use Rattle.allocator.proofs.Constraining.{room_there, took_step}
use Rattle.allocator.proofs.agreements.take_all.Goals as goal

pub take-requires : goal.take-requires
take-requires c =
    let i = c.loop-at.invariant in
    room_there c.args.agreements.now.items c.loop-at.agreements.items c.loop-at.at c.index_mut.result.now c.requires (omega arith) i.many i.same c.index_mut.ensures.value

pub loop-at-preserved : goal.loop-at-preserved
loop-at-preserved c =
    let i = c.loop-at.invariant in
    let old = c.args.agreements.now.items in
    let now = c.loop-at.agreements.items in
    record {
      many = still_many old now c.loop-at.at c.take.new.self i.many;
      same = rest_same old now c.loop-at.at c.take.new.self (omega arith) i.many i.same;
      done = took_step c.args.claim c.args.picked.now old now c.loop-at.at c.index_mut.result.now c.take.new.self (omega arith) i.many i.same c.index_mut.ensures.value i.done c.take.ensures;
    }
