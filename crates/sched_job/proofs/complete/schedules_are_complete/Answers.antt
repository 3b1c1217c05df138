use Rattle.cluster.specs.History.{state_at}
use Rattle.sched_job.proofs.Carrying.{Laws, decided}
use Rattle.sched_job.proofs.Fitting.{bound, fit_there, full, missing, passed}
use Rattle.sched_job.proofs.complete.schedules_are_complete.Goals as goal

pub returns : goal.returns
returns c =
    let laws : Laws = record {
      grows = c.histories_grow.ensures.job_state;
      state = c.histories_grow.ensures.state;
      fresh = c.histories_grow.ensures.start;
      goes = c.reserved_goes_on.ensures;
      step = c.legal_steps.ensures.step;
      never = c.alone_is_undisturbed.ensures.undisturbed;
    } in
    record {
      decided = decided laws;
      bound = λ run h pod p node r may fit. bound run h pod p node (decided laws run h pod p r) may fit;
      passed = λ run h pod p r may fit. passed run h pod p (decided laws run h pod p r) may fit;
      found = λ run h pod p node choice grants r may all here a.
          let f = fit_there c.unsat_is_true.ensures (state_at h run.from) p.pod.object run.budget node choice grants all here a in
          (f.0, bound run h pod p f.0 (decided laws run h pod p r) may f.1);
      missing = λ run h pod p claim r lack. missing run h pod p claim (decided laws run h pod p r) r.idle lack;
      full = λ run h pod p claim r f. full run h pod p claim (decided laws run h pod p r) r.idle f;
    }
