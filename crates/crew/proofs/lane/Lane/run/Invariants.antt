use Rattle.std.specs.Vec.Iter.{into_iter_items, into_iter_len}
use Rattle.crew.specs.Chains.{Going}
use Rattle.crew.proofs.lane.Lane.run.Given as goal

abbrev pub invariant-loop-self : goal.invariant-loop-self
invariant-loop-self g l = Going g.J.Job.needs g.J.Job.gives (into_iter_items l.initial.self.jobs) (into_iter_items l.self.jobs) l.self.ends.items l.initial.self.pass l.self.pass

abbrev pub decreases-loop-self : goal.decreases-loop-self
decreases-loop-self g l = into_iter_len l.self.jobs
