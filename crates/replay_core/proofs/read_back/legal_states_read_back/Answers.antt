use Rattle.replay_core.proofs.StatesRead.{Laws, states_read}
use Rattle.replay_core.proofs.read_back.legal_states_read_back.Goals as goal

pub returns : goal.returns
returns c =
    let laws : Laws = record {
      step = c.legal_steps.ensures.step;
      prefix = c.legal_steps.ensures.prefix;
      grow = c.histories_grow.ensures.state;
      limits = c.objects_keep_limits.ensures.now;
      adopted = c.adoptions_are_allocations.ensures;
    } in
    states_read laws
