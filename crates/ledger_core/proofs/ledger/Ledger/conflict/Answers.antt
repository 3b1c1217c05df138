use Rattle.std.proofs.Common.{refl}
use Rattle.ledger_core.proofs.ledger.Ledger.conflict.Goals as goal

pub note-requires-clause-step : goal.note-requires-clause-step
note-requires-clause-step c = rw (c.in_ok-pod.ensures, c.in_ok-claim.ensures) (record { allowed = c.requires.job_state; follows = c.requires.differ })

pub note-requires-clause-note : goal.note-requires-clause-note
note-requires-clause-note c = record { same = λ index job s. refl; undated = refl; kept = λ s. refl }
