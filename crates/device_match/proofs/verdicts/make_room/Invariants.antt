use Rattle.std.proofs.Common.{◌+◌, ◌-◌, length}
use Rattle.device_match.proofs.verdicts.make_room.Given as goal

abbrev pub decreases-loop-known : goal.decreases-loop-known
decreases-loop-known l = l.position + 1 - length l.known.items
