use Rattle.std.proofs.Common.{ℕ, ◌≡◌, ◌≤◌, ◌+◌, List, length, drop}
use Rattle.ledger_core.specs.Ledger.{History}
use Rattle.histories.specs.Legal.{Legal}
use Rattle.sched_job.specs.declared.work.Work.{Work}
use Rattle.sched_job.specs.Steps.{Ran, Walk, jobs_of}
use Rattle.sched_job.proofs.steps.run_steps.Given as goal

abbrev pub invariant-loop-step : goal.invariant-loop-step
invariant-loop-step g l =
    Ran (length l.fn.ledger.entries) l.budget (jobs_of l.fn.works) l.fn.ledger.entries l.ledger.entries l.works × Legal l.ledger.entries × (l.turns ≤ l.step-index)
    × ((H' : History) (ws' : List Work) (n : ℕ) → Walk l.budget (drop l.step-index l.steps) l.ledger l.works H' ws' n → Walk l.budget l.steps l.fn.ledger l.fn.works H' ws' (l.turns + n))
    × (l.ledger.limit ≡ l.fn.ledger.limit)
