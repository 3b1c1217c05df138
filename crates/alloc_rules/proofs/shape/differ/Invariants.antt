use Rattle.std.proofs.Common.{◌≡◌, drop}
use Rattle.plan_rules.specs.Shaped.{differ}
use Rattle.alloc_rules.proofs.shape.differ.Given as goal

abbrev pub invariant-loop-at : goal.invariant-loop-at
invariant-loop-at l = differ (drop l.at l.results) ≡ differ l.results
