use Rattle.std.proofs.Common.{◌≡◌, ◌+◌, drop}
use Rattle.std.specs.List.{prefix_len}
use Rattle.request_rows.specs.Wanted.{input_of}
use Rattle.alloc_rules.specs.Rows.{is_at_place}
use Rattle.alloc_rules.proofs.agreeing.end_of.Given as goal

abbrev pub invariant-loop-at : goal.invariant-loop-at
invariant-loop-at l =
    l.at + prefix_len (is_at_place (input_of l.rows) l.place) (drop l.at l.dues) ≡ l.first + prefix_len (is_at_place (input_of l.rows) l.place) (drop l.first l.dues)
