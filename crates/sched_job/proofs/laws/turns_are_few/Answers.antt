use Rattle.sched_job.proofs.Ending.{MovesOn}
use Rattle.sched_job.proofs.Fewer.{Turns, fresh_few, turn_less}
use Rattle.sched_job.proofs.Others.{Others, others_less}
use Rattle.sched_job.proofs.laws.turns_are_few.Goals as goal

pub returns-clause-first : goal.returns-clause-first
returns-clause-first c = fresh_few

pub returns-clause-fewer : goal.returns-clause-fewer
returns-clause-fewer c =
    let moves : MovesOn = record { thinks = c.turns_move_on.ensures.thinks; idle = c.turns_move_on.ensures.idle; acts = c.turns_move_on.ensures.acts } in
    let laws : Turns = record {
      grows = c.histories_grow.ensures.job_state;
      state = c.histories_grow.ensures.state;
      step = c.legal_steps.ensures.step;
      limits = c.objects_keep_limits.ensures.now;
      moves = moves;
    } in turn_less laws

pub returns-clause-others : goal.returns-clause-others
returns-clause-others c =
    let laws : Others = record {
      grows = c.histories_grow.ensures.job_state;
      state = c.histories_grow.ensures.state;
      step = c.legal_steps.ensures.step;
      prefix = c.legal_steps.ensures.prefix;
      stays = c.pods_stay_taken.ensures;
      uids = c.uids_keep_claims.ensures;
    } in others_less laws
