use Rattle.std.proofs.Common.{◌+◌, ◌∙◌, List, ℕ, drop, sym, ap, subst}
use Rattle.std.specs.Map.{keys_of}
use Rattle.pod_decision.specs.Memory.{TriesFields}
use Rattle.pod_decision.specs.declared.nodes.Tried.{Tried}
use Rattle.pod_decision.specs.Tries.{FindsGrants, IsTried}
use Rattle.pod_decision.proofs.Going.{names_taken, next_is, next_there}
use Rattle.pod_decision.proofs.nodes.try_nodes.Goals as goal

pub try_node-requires-clause-there : goal.try_node-requires-clause-there
try_node-requires-clause-there c =
    next_there c.loop-position.tries.state.inventory.nodes c.args.names.now c.loop-position.position c.index-names-position.result
    (c.requires.names ∙ ap (λ (t : TriesFields). keys_of t.state.inventory.nodes) (sym c.loop-position.invariant.tries)) c.loop-position-test.true c.index-names-position.is

pub push_passed-requires : goal.push_passed-requires
push_passed-requires c =
    next_is c.loop-position.passed.nodes c.loop-position.passed.names c.args.names.now c.loop-position.position c.index-names-position.result
    c.loop-position.invariant.names c.loop-position-test.true c.index-names-position.is c.loop-position.invariant.names_are

pub returns-in-Found-clause-tried : goal.returns-in-Found-clause-tried
returns-in-Found-clause-tried c =
    let tries = c.args.tries.now in
    let node = c.index-names-position.result in
    let found = subst (λ (t : TriesFields). IsTried t.state t.pod t.budget node c.in_ok-cause.field-0) c.loop-position.invariant.tries c.in_ok-cause.ensures.tried in
    let grants = subst (λ (t : Tried). IsTried tries.state tries.pod tries.budget node t) c.in-Found.is found in
    record {
      rest = drop (c.loop-position.position + 1) c.args.names.now;
      names_are = names_taken c.loop-position.passed.nodes c.args.names.now c.loop-position.position node c.in_ok-node-in-Found.node c.loop-position-test.true c.index-names-position.is c.in_ok-node-in-Found.ensures
          c.loop-position.invariant.names_are;
      causes = c.loop-position.invariant.causes;
      found = subst (λ (n : List ℕ). FindsGrants tries.state tries.pod tries.budget n c.in-Found.grants) (sym c.in_ok-node-in-Found.ensures) grants;
    }
