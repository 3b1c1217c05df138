use Rattle.std.proofs.Common.{◌≡◌, take}
use Rattle.std.specs.List.{AllByRecursion}
use Rattle.plan_rules.specs.Plans.{CauseBy, nodes_of}
use Rattle.pod_decision.proofs.nodes.try_nodes.Given as goal

abbrev pub invariant-loop-position : goal.invariant-loop-position
invariant-loop-position l = record {
  tries : l.tries ≡ l.fn.tries;
  names : l.passed.names ≡ l.names;
  names_are : nodes_of l.passed.nodes ≡ take l.position l.names;
  causes : AllByRecursion (λ p. CauseBy l.fn.tries.state l.fn.tries.pod l.fn.tries.budget p.node p.cause) l.passed.nodes;
}
