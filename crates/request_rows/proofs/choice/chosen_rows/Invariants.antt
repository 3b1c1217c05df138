use Rattle.std.proofs.Common.{◌≡◌, ◌-◌, ◌++◌, drop, length}
use Rattle.request_rows.specs.Chosen.{chosen_rows}
use Rattle.request_rows.proofs.choice.chosen_rows.Given as goal

abbrev pub invariant-loop-at : goal.invariant-loop-at
invariant-loop-at l = l.chosen.items ++ chosen_rows (drop l.at l.requests) (drop l.at l.choice) ≡ chosen_rows l.requests l.choice

abbrev pub decreases-loop-at : goal.decreases-loop-at
decreases-loop-at l = length l.requests - l.at
