use Rattle.std.proofs.Common.{◌≡◌}
use Rattle.turn_lock.specs.Known.{IsOf, IsFree}
use Rattle.crew.proofs.tests.take_turns.Given as goal

abbrev pub invariant-loop : goal.invariant-loop
invariant-loop g l = IsOf l.lock l.pass × IsFree l.pass × (l.pass.share ≡ l.initial.pass.share)
