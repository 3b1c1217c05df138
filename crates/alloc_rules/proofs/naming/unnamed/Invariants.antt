use Rattle.std.proofs.Common.{◌≡◌, ◌+◌, drop, take}
use Rattle.request_rows.specs.Wanted.{input_of}
use Rattle.request_rules.specs.Ways.{all_asked}
use Rattle.alloc_rules.specs.Rows.{unnamed}
use Rattle.alloc_rules.proofs.naming.unnamed.Given as goal

abbrev pub invariant-loop-at : goal.invariant-loop-at
invariant-loop-at l =
    l.at + unnamed l.results (drop l.at (take l.count (drop l.first (all_asked (input_of l.rows))))) ≡ unnamed l.results (take l.count (drop l.first (all_asked (input_of l.rows))))
