use Rattle.std.proofs.Common.{◌≡◌, ◌+◌, ◌*◌, ◌≤◌, [], ◌∷◌, length}
use Rattle.histories.specs.Legal.{Legal}
use Rattle.sched_job.specs.Runs.{Running}
use Rattle.histories.specs.JobRuns.{attempts_of}
use Rattle.sched_job.specs.Steps.{Extends, run_of}
use Rattle.sched_job.specs.Turns.{most_turns}
use Rattle.sched_job.proofs.alone.run_work.Given as goal

abbrev pub invariant-turns : goal.invariant-turns
invariant-turns g l =
    Running (run_of (length l.fn.ledger.entries) l.budget l.fn.work) l.ledger.entries l.work × Extends (l.fn.work.job ∷ []) l.fn.ledger.entries l.ledger.entries × Legal l.ledger.entries × (l.ledger.limit ≡ l.fn.ledger.limit)
    × (length l.ledger.entries + most_turns l.ledger.entries l.work ≤ length l.fn.ledger.entries + 35 * attempts_of l.fn.work.command + 1)

abbrev pub decreases-turns : goal.decreases-turns
decreases-turns g l = most_turns l.ledger.entries l.work
