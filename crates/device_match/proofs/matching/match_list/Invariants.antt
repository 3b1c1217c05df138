use Rattle.std.proofs.Common.{◌≡◌, ◌+◌, drop}
use Rattle.pool_view.specs.Match.{match_from}
use Rattle.device_match.proofs.matching.match_list.Given as goal

abbrev pub invariant-loop-i : goal.invariant-loop-i
invariant-loop-i l = match_from l.device (l.before + l.i) (drop l.i l.selectors) ≡ match_from l.device l.before l.selectors
