use Rattle.pod_decision.proofs.decision.take_nodes.Goals as goal

pub returns-clause-memo : goal.returns-clause-memo
returns-clause-memo c = λ d at t. c.take.ensures.rest c.args.state.now d at t
