use Rattle.std.proofs.Common.{◌≡◌, ◌++◌, drop}
use Rattle.allocations.specs.Lost.{lost_among}
use Rattle.ledger_core.proofs.holding.lost_among.Given as goal

abbrev pub invariant-loop-key : goal.invariant-loop-key
invariant-loop-key l = l.lost.items ++ lost_among l.pod l.claims (drop l.key-index l.keys) ≡ lost_among l.pod l.claims l.keys
