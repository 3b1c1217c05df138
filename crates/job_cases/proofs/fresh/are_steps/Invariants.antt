use Rattle.std.proofs.Common.{ℕ, ◌<◌, get_or}
use Rattle.job_cases.proofs.fresh.are_steps.Given as goal

abbrev pub invariant-loop-step : goal.invariant-loop-step
invariant-loop-step l = (k : ℕ) → k < l.step-index → get_or l.steps k 0 < l.count
