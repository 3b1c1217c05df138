use Rattle.std.proofs.Common.{◌≡◌, ◌+◌, ◌≤◌, [], vec_len, vec_capacity}
use Rattle.turn_lock.specs.Known.{IsOf, IsFree}
use Rattle.sched_job.specs.Passes.{AreFresh, shares}
use Rattle.sched_job.proofs.passes.split_all.Given as goal

abbrev pub invariant-loop : goal.invariant-loop
invariant-loop l =
    IsOf l.lock l.first × IsFree l.first × (l.first.front ≡ l.lock.opening) × (l.first.own ≡ []) × AreFresh l.lock l.passes.items
    × (l.first.share + l.counter ≡ l.count + 1) × (shares l.passes.items + l.first.share ≡ l.count) × (vec_len l.passes + 1 ≡ l.counter) × (l.count ≤ vec_capacity l.passes) × (l.counter ≤ l.count)
