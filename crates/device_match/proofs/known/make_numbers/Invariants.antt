use Rattle.std.proofs.Common.{◌+◌, ◌-◌, length}
use Rattle.cel_value.specs.Device.{Device}
use Rattle.device_match.specs.True.{AreTrue}
use Rattle.device_match.proofs.known.make_numbers.Given as goal

abbrev pub invariant-loop-matches : goal.invariant-loop-matches
invariant-loop-matches l = (d : Device) → AreTrue d l.fn.matches.items → AreTrue d l.matches.items

abbrev pub decreases-loop-matches : goal.decreases-loop-matches
decreases-loop-matches l = l.number + 1 - length l.matches.items
