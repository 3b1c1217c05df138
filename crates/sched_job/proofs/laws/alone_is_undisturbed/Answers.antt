use Rattle.sched_job.proofs.Unfailing.{Checks, unfailing}
use Rattle.sched_job.proofs.Undisturbed.{Laws, alone_extends, never_set_back}
use Rattle.sched_job.proofs.laws.alone_is_undisturbed.Goals as goal

pub returns-clause-undisturbed : goal.returns-clause-undisturbed
returns-clause-undisturbed c =
    let checks : Checks = record { holds = c.plan_holds.ensures; fits = c.fitting_is_of_pod.ensures.fits; passes = c.allocations_pass.ensures.plan; limits = c.objects_keep_limits.ensures.now } in
    let laws : Laws = record {
      grows = c.histories_grow.ensures.job_state;
      state = c.histories_grow.ensures.state;
      fresh = c.histories_grow.ensures.start;
      step = c.legal_steps.ensures.step;
      prefix = c.legal_steps.ensures.prefix;
      idle = c.users_are_busy.ensures.idle;
      holds = unfailing checks;
    } in never_set_back laws

pub returns-clause-alone : goal.returns-clause-alone
returns-clause-alone c = alone_extends
