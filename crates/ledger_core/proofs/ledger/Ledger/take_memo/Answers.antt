use Rattle.std.proofs.Common.{subst}
use Rattle.ledger_core.specs.Ledger.{History}
use Rattle.ledger_core.specs.Remembered.{IsTrueOf}
use Rattle.ledger_core.proofs.ledger.Ledger.take_memo.Goals as goal

pub returns-clause-known : goal.returns-clause-known
returns-clause-known c = subst (λ (h : History). IsTrueOf h.entries c.take_last.result) c.self.view_is (c.take_last.ensures.known c.self.inside.entries.items c.self.invariant.1.known)
