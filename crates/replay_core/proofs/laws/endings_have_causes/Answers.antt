use Rattle.replay_core.proofs.Causing.{checkpoint, complete, limit}
use Rattle.replay_core.proofs.laws.endings_have_causes.Goals as goal

pub returns-clause-complete : goal.returns-clause-complete
returns-clause-complete c = complete

pub returns-clause-limit : goal.returns-clause-limit
returns-clause-limit c = limit

pub returns-clause-checkpoint : goal.returns-clause-checkpoint
returns-clause-checkpoint c = checkpoint
