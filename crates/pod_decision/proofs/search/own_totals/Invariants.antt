use Rattle.pod_decision.proofs.Alike.{AreFirst}
use Rattle.pod_decision.proofs.search.own_totals.Given as goal

abbrev pub invariant-loop-position : goal.invariant-loop-position
invariant-loop-position l = AreFirst l.devices l.totals l.own l.position
