use Rattle.std.proofs.Common.{◌≡◌, ◌<◌, ◌+◌, ◌-◌}
use Rattle.turn_lock.specs.Known.{IsFree, IsOf}
use Rattle.api_server.specs.Talks.{WentOn, seen}
use Rattle.api_server.proofs.share.serve_share.Given as goal

abbrev pub invariant-connections : goal.invariant-connections
invariant-connections g l = record {
  of : IsOf l.lock l.pass;
  free : IsFree l.pass;
  positive : 0 < l.number;
  share : g.D.Door.share l.door ≡ record { next = l.number; step = l.workers; last = l.connections };
  went : WentOn (record { budget = l.budget; attempts = l.attempts }) l.fn.pass l.pass (seen g.D.Door.share g.D.Door.in_service g.D.Door.served g.D.Door.ended g.D.Door.faults l.fn.door) (seen g.D.Door.share g.D.Door.in_service g.D.Door.served g.D.Door.ended g.D.Door.faults l.door);
}

abbrev pub decreases-connections : goal.decreases-connections
decreases-connections g l = l.connections + 1 - l.number
