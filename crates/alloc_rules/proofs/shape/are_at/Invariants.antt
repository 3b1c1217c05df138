use Rattle.std.proofs.Common.{◌≡◌, drop}
use Rattle.std.specs.Prelude.{nat_eq}
use Rattle.std.specs.Cmp.Lexicographic.{pointwise}
use Rattle.alloc_rules.specs.Rows.{positions_of}
use Rattle.alloc_rules.proofs.shape.are_at.Given as goal

abbrev pub invariant-loop-at : goal.invariant-loop-at
invariant-loop-at l =
    pointwise nat_eq (positions_of (drop l.at l.dues)) (drop l.at l.positions) ≡ pointwise nat_eq (positions_of l.dues) l.positions
