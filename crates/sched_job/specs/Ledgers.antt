-- What is said of a ledger, passed on to crates that reach it through jobs.
pub use Rattle.ledger_core.specs.Ledger.{History, appended}
pub use Rattle.ledger_core.specs.declared.error.LedgerError.{LedgerError}
pub use Rattle.ledger_core.specs.declared.error.LedgerError.TheVariants as ledger_error
