use Rattle.replay_core.proofs.Empty.{is_done, needs_no_disk, never_full}
use Rattle.replay_core.proofs.laws.empty_inputs_are_done.Goals as goal

pub returns-clause-within : goal.returns-clause-within
returns-clause-within c = never_full

pub returns-clause-opens : goal.returns-clause-opens
returns-clause-opens c = needs_no_disk

pub returns-clause-done : goal.returns-clause-done
returns-clause-done c = is_done
