use Rattle.std.proofs.Common.{◌≡◌, ◌++◌, length}
use Rattle.shared_map.specs.Chunks.{joined}
use Rattle.shared_map.proofs.entries.EntriesIterator.next.Given as goal

abbrev pub invariant-loop-entry : goal.invariant-loop-entry
invariant-loop-entry g l = l.self-inside.first ++ joined l.self-inside.later.now ≡ l.fn.self

abbrev pub decreases-loop-entry : goal.decreases-loop-entry
decreases-loop-entry g l = length l.self-inside.later.now
