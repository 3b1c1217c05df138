use Rattle.std.proofs.Common.{◌≡◌, ◌++◌, length}
use Rattle.shared_map.specs.Chunks.{joined}
use Rattle.shared_map.proofs.entries.EntriesInGroup.next_entry.Given as goal

abbrev pub invariant-loop-self : goal.invariant-loop-self
invariant-loop-self g l = l.self-inside.first.now ++ joined l.self-inside.later.now ≡ l.fn.self

abbrev pub decreases-loop-self : goal.decreases-loop-self
decreases-loop-self g l = length l.self-inside.later.now
