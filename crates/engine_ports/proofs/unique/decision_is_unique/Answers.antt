use Rattle.engine_ports.proofs.OneDecision.{one_decision}
use Rattle.engine_ports.proofs.unique.decision_is_unique.Goals as goal

pub returns : goal.returns
returns c = one_decision (record {
  plans = c.decisions_are_unique.ensures.plans;
  verdicts = c.decisions_are_unique.ensures.verdicts;
  apart = c.decisions_are_unique.ensures.apart;
})
