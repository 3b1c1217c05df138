use Rattle.std.proofs.Common.{Some, refl}
use Rattle.counter_sets.proofs.Room.{popped}
use Rattle.counter_sets.proofs.added.take_back.Goals as goal

pub loop-name-preserved : goal.loop-name-preserved
loop-name-preserved c =
    popped c.loop-name.names.items c.pop.new.self.items (Some c.in-Some.name) c.in-Some.name c.loop-name.sets c.remove.new.self _ c.in-Some.ensures.items refl c.remove.ensures.rest c.loop-name.invariant
