use Rattle.std.proofs.Common.{◌≡◌, ◌≤◌, length, vec_len, vec_capacity}
use Rattle.crew.proofs.tests.lists.Given as goal

abbrev pub invariant-loop-size : goal.invariant-loop-size
invariant-loop-size l = (vec_len l.lists ≡ l.size-index) × (length l.sizes ≤ vec_capacity l.lists)
