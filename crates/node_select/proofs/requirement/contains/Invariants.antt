use Rattle.std.proofs.Common.{◌≡◌, drop}
use Rattle.node_select.specs.Terms.{is_among}
use Rattle.node_select.proofs.requirement.contains.Given as goal

abbrev pub invariant-loop-other : goal.invariant-loop-other
invariant-loop-other l = is_among l.value (drop l.other-index l.values) ≡ is_among l.value l.values
