-- Why a command wasn't done, by what the ledger says.
use Rattle.sched_job.specs.Ledgers.{LedgerError}
use Rattle.sched_job.specs.Ledgers.ledger_error as error
use Rattle.replay_core.specs.declared.stop.Stop.{Stop}
use Rattle.replay_core.specs.declared.stop.Stop.TheVariants as stop

abbrev pub stop_for : LedgerError → Stop
stop_for (error.Full count) = stop.Full count
stop_for error.Memory = stop.Memory
