use Rattle.std.proofs.Common.{subst}
use Rattle.sched_job.specs.Going.{Worked}
use Rattle.sched_job.specs.Steps.{run_of}
use Rattle.sched_job.specs.declared.run.JobEnd.TheVariants as job_end
use Rattle.sched_job.specs.declared.work.Work.{Work}
use Rattle.std.proofs.Common.{length}
use Rattle.api_server.proofs.Replies.{job_ended, job_unended}
use Rattle.api_server.proofs.job.run_schedule.Goals as goal

pub returns-in-Ended-clause-job : goal.returns-in-Ended-clause-job
returns-in-Ended-clause-job g c =
    job_ended c.histories_grow.ensures.start c.histories_grow.ensures.job_state _ _ _ _ c.in-Ended.place _
    (subst (λ (w : Work). Worked (run_of (length c.args.pass.now.front) c.args.budget w) c.args.pass.now c.run_job.new.pass (job_end.Ended c.in-Ended.place)) c.new-work.ensures c.in-Ended.ensures.worked) c.reply_at.ensures.placed

pub returns-in-Full-clause-job : goal.returns-in-Full-clause-job
returns-in-Full-clause-job g c =
    subst (λ (w : Work). Worked (run_of (length c.args.pass.now.front) c.args.budget w) c.args.pass.now c.run_job.new.pass (job_end.Full c.in-Full.count)) c.new-work.ensures c.in-Full.ensures.worked

pub returns-in-Memory-clause-job : goal.returns-in-Memory-clause-job
returns-in-Memory-clause-job g c =
    job_unended _ _ _ c.run_job.ensures.free
    (subst (λ (w : Work). Worked (run_of (length c.args.pass.now.front) c.args.budget w) c.args.pass.now c.run_job.new.pass job_end.Memory) c.new-work.ensures c.in-Memory.ensures.worked)
