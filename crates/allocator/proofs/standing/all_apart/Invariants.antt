use Rattle.std.proofs.Common.{◌≡◌, drop}
use Rattle.std.specs.List.{list_all}
use Rattle.request_rules.specs.Rules as rules
use Rattle.request_rows.specs.Wanted.{input_of}
use Rattle.allocator.specs.Placing.{pick_seen, placed}
use Rattle.allocator.proofs.standing.all_apart.Given as goal

abbrev pub invariant-loop-at : goal.invariant-loop-at
invariant-loop-at l =
    list_all (λ q. rules.apart (input_of l.rows) q (pick_seen (input_of l.rows) l.pick)) (placed (input_of l.rows) (drop l.at l.slots) (drop l.at l.positions))
    ≡ list_all (λ q. rules.apart (input_of l.rows) q (pick_seen (input_of l.rows) l.pick)) (placed (input_of l.rows) l.slots l.positions)
