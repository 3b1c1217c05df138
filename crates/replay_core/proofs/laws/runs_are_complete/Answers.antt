use Rattle.replay_core.proofs.Completing.{Laws, scheduled}
use Rattle.replay_core.proofs.laws.runs_are_complete.Goals as goal

pub returns : goal.returns
returns c =
    let laws : Laws = record {
      undisturbed = c.alone_is_undisturbed.ensures.undisturbed;
      prefix = c.legal_steps.ensures.prefix;
      alone = c.alone_is_undisturbed.ensures.alone;
      decided = c.schedules_are_complete.ensures.decided;
      bound = c.schedules_are_complete.ensures.bound;
      passed = c.schedules_are_complete.ensures.passed;
      found = c.schedules_are_complete.ensures.found;
      missing = c.schedules_are_complete.ensures.missing;
      full = c.schedules_are_complete.ensures.full;
    } in
    scheduled laws
