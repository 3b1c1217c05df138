use Rattle.std.proofs.Common.{◌≡◌, ◌++◌, drop}
use Rattle.request_rules.specs.Ways.{wishes_in}
use Rattle.request_rows.proofs.ways.add_wishes.Given as goal

abbrev pub invariant-loop-at : goal.invariant-loop-at
invariant-loop-at l = l.wishes.items ++ wishes_in l.claim l.key (drop l.at l.requests) ≡ l.fn.wishes.items ++ wishes_in l.claim l.key l.requests
