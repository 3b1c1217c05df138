use Rattle.std.proofs.Common.{refl}
use Rattle.sched_job.proofs.Thinking.{staged_thought}
use Rattle.sched_job.proofs.Runnings.{running_same}
use Rattle.sched_job.proofs.work.Work.think_with.Goals as goal

pub returns-clause-running : goal.returns-clause-running
returns-clause-running g c = λ r h budget running.
    running_same r h c.args.self.now (record c.args.self.now { stage = c.search.new.stage }) refl refl (staged_thought r h c.args.self.now.command c.args.self.now.stage c.search.new.stage _ running.command budget c.in_ok-search.ensures.thought running.staged) running
