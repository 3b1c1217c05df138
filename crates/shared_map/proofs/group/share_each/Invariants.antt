use Rattle.std.proofs.Common.{◌≡◌, take}
use Rattle.shared_map.proofs.group.share_each.Given as goal

abbrev pub invariant-loop-value : goal.invariant-loop-value
invariant-loop-value g l = l.copy.items ≡ take l.value-index l.values
