use Rattle.pod_decision.proofs.Idle.{idle_there}
use Rattle.pod_decision.proofs.decision.decide.Goals as goal

pub decide_for-requires-clause-idle : goal.decide_for-requires-clause-idle
decide_for-requires-clause-idle c =
    idle_there c.args.state.now c.args.pod.now c.in-Some.found.now c.in-Some.ensures c.requires.idle
