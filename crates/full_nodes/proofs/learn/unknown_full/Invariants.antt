use Rattle.std.proofs.Common.{◌≤◌, length}
use Rattle.full_nodes.proofs.learn.unknown_full.Given as goal

abbrev pub invariant-loop-name : goal.invariant-loop-name
invariant-loop-name l = length l.names ≤ 16
