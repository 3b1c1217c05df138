use Rattle.std.proofs.Common.{◌≡◌, ◌++◌, drop}
use Rattle.request_rows.specs.Wanted.{input_of}
use Rattle.allocator.specs.Answered.{granted}
use Rattle.allocator.specs.Placing.{placed}
use Rattle.allocator.proofs.grants.results_of.Given as goal

abbrev pub invariant-loop-at : goal.invariant-loop-at
invariant-loop-at l =
    l.results ++ granted (input_of l.rows) l.claim (placed (input_of l.rows) (drop l.at l.slots) (drop l.at l.positions))
    ≡ granted (input_of l.rows) l.claim (placed (input_of l.rows) l.slots l.positions)
