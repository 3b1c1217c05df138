use Rattle.std.proofs.Common.{◌≡◌, ◌+◌, ◌≤◌, vec_len, vec_capacity}
use Rattle.turn_lock.specs.Known.{IsOf, IsFree}
use Rattle.crew.proofs.tests.split.Given as goal

abbrev pub invariant-loop : goal.invariant-loop
invariant-loop l = IsOf l.lock l.first × IsFree l.first × (l.first.share + l.counter ≡ l.count + 1) × (vec_len l.passes + 1 ≡ l.counter) × (l.count ≤ vec_capacity l.passes) × (l.counter ≤ l.count)
