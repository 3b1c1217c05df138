-- What is said of jobs and of a ledger, passed on to crates that reach them through connections.
pub use Rattle.sched_job.specs.Going.{with_added}
pub use Rattle.sched_job.specs.Ledgers.{History}
pub use Rattle.sched_job.specs.Owned.{AllIn}
