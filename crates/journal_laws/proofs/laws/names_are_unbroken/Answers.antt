use Rattle.journal_laws.proofs.Names.{entry_clear}
use Rattle.journal_laws.proofs.laws.names_are_unbroken.Goals as goal

pub returns : goal.returns
returns c = entry_clear (record { state = c.histories_grow.ensures.state; step = c.legal_steps.ensures.step; prefix = c.legal_steps.ensures.prefix })
