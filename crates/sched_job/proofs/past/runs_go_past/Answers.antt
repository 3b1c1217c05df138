use Rattle.std.proofs.Common.{ℕ, ◌≡◌, ◌+◌, ◌<◌, List, [], length, ap, arith}
use Rattle.cluster.specs.declared.entry.Entry.{Entry}
use Rattle.turn_lock.specs.Places.{times}
use Rattle.sched_job.specs.Runs.{Running}
use Rattle.histories.specs.JobRuns.{is_ended, JobBegun, JobRun}
use Rattle.sched_job.proofs.Owning.{each_back, each_front, none_past, past_others, times_past}
use Rattle.sched_job.proofs.Earlier.{begun_earlier, run_earlier}
use Rattle.sched_job.proofs.Runnings.{begun_other, run_other, running_fits, running_other}
use Rattle.sched_job.proofs.Stepping.{kept_new, none_new}
use Rattle.sched_job.proofs.past.runs_go_past.Goals as goal

pub returns-clause-running : goal.returns-clause-running
returns-clause-running c = λ r h more w none running. past_others r.job (λ (xs : List Entry). Running r xs w) (λ xs e other x. running_other c.histories_grow.ensures.job_state r xs w e other x) h more none running

pub returns-clause-fits : goal.returns-clause-fits
returns-clause-fits c = λ r h more w none running.
    running_fits r _ w (past_others r.job (λ (xs : List Entry). Running r xs w) (λ xs e other x. running_other c.histories_grow.ensures.job_state r xs w e other x) h more none running)

pub returns-clause-run : goal.returns-clause-run
returns-clause-run c = λ r h more none run. past_others r.job (JobRun r) (λ xs e other x. run_other c.histories_grow.ensures.job_state r xs e other x) h more none run

pub returns-clause-begun : goal.returns-clause-begun
returns-clause-begun c = λ r h more none begun. past_others r.job (JobBegun r) (λ xs e other x. begun_other c.histories_grow.ensures.job_state r xs e other x) h more none begun

pub returns-clause-run_earlier : goal.returns-clause-run_earlier
returns-clause-run_earlier c = λ r from h le run. run_earlier r from h le run

pub returns-clause-begun_earlier : goal.returns-clause-begun_earlier
returns-clause-begun_earlier c = λ r from h le begun. begun_earlier r from h le begun

pub returns-clause-made : goal.returns-clause-made
returns-clause-made c = λ r h more added made all.
    let P : List Entry → Entry → Type 0 = λ b e. e.job ≡ r.job → 0 < times (length b + 1) added in
    (each_front P [] h more all, none_past r.job (length h) added h more (λ k lt. times_past r h 0 added k made lt) (omega arith) (each_back P [] h more all))

pub returns-clause-fresh : goal.returns-clause-fresh
returns-clause-fresh c = λ job h fresh. none_new job h fresh

pub returns-clause-new : goal.returns-clause-new
returns-clause-new c = λ r h fresh. record { kept = kept_new r h fresh; open_yet = ap is_ended fresh }
