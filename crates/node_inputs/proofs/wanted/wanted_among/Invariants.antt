use Rattle.std.proofs.Common.{◌≡◌, ◌++◌, drop}
use Rattle.node_inputs.specs.Wanted.{wanted_at}
use Rattle.node_inputs.proofs.wanted.wanted_among.Given as goal

abbrev pub invariant-loop-key : goal.invariant-loop-key
invariant-loop-key l = l.wanted.items ++ wanted_at l.claims (drop l.key-index l.keys) ≡ wanted_at l.claims l.keys
