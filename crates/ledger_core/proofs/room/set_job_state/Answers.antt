use Rattle.ledger_core.proofs.Standing.{row_set_to}
use Rattle.ledger_core.proofs.room.set_job_state.Goals as goal

pub returns : goal.returns
returns c = row_set_to c.args.job_states.now c.set.new.self c.args.job c.args.job_state c.requires c.set.ensures
