use Rattle.std.proofs.Common.{Some, refl}
use Rattle.counter_sets.proofs.Room.{grown_popped}
use Rattle.counter_sets.proofs.added.put_sets.Goals as goal

pub loop-set-preserved : goal.loop-set-preserved
loop-set-preserved c =
    grown_popped c.loop-set.grown.items c.pop.new.self.items (Some c.in-Some.set) c.in-Some.set c.loop-set.sets c.put_set.new.sets _ c.in-Some.ensures.items refl c.put_set.ensures c.loop-set.invariant
