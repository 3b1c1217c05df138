use Rattle.pod_decision.proofs.Idle.{idle_there}
use Rattle.pod_decision.proofs.decision.decide_with.Goals as goal

pub decide_known-requires-clause-idle : goal.decide_known-requires-clause-idle
decide_known-requires-clause-idle c =
    idle_there c.args.state.now c.args.pod.now c.in-Some.found.now c.in-Some.ensures c.requires.idle
