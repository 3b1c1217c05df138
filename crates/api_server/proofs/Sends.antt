-- That the ledger may go to another thread, passed on.
pub use Rattle.sched_job.proofs.Sends.{ledger_send}
