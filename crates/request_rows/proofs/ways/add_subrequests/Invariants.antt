use Rattle.std.proofs.Common.{◌≡◌, ◌++◌, map, drop}
use Rattle.request_rules.specs.Asked.{asked_sub}
use Rattle.request_rows.proofs.ways.add_subrequests.Given as goal

abbrev pub invariant-loop-at : goal.invariant-loop-at
invariant-loop-at l = l.ways.items ++ map (asked_sub l.wish) (drop l.at l.subs) ≡ l.fn.ways.items ++ map (asked_sub l.wish) l.subs
