use Rattle.std.proofs.Common.{◌≡◌, ◌∙◌, ap, refl}
use Rattle.cluster.specs.declared.entry.JobState.{JobState}
use Rattle.cluster.specs.History.{job_state_of}
use Rattle.cluster.specs.JobState.{failures}
use Rattle.ledger_core.proofs.Keeping.{may_contend}
use Rattle.ledger_core.proofs.ledger.Ledger.record_contended.Goals as goal

pub note-requires-clause-step : goal.note-requires-clause-step
note-requires-clause-step c =
    let before = c.args.self.now.entries in
    let attempts : c.failures-attempts.result ≡ failures (job_state_of before c.args.job) = c.failures-attempts.ensures ∙ ap (λ (st : JobState). failures st) c.job_state.ensures in
    rw (c.in_ok-pod.ensures, attempts) (record { allowed = may_contend (job_state_of before c.args.job) c.args.pod.now c.requires.job_state; follows = tt })

pub note-requires-clause-note : goal.note-requires-clause-note
note-requires-clause-note c = record { same = λ index job s. refl; undated = refl; kept = λ s. refl }
