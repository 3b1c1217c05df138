use Rattle.std.proofs.Common.{◌≡◌, ◌++◌, drop}
use Rattle.request_rules.specs.Ways.{ways_from}
use Rattle.request_rows.proofs.ways.ways_of.Given as goal

abbrev pub invariant-loop-wish : goal.invariant-loop-wish
invariant-loop-wish l = l.ways.items ++ ways_from (drop l.wish-index l.wishes) ≡ ways_from l.wishes
