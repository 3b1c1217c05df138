use Rattle.std.proofs.Common.{ap, subst, arith}
use Rattle.std.specs.Prelude.{IfSome}
use Rattle.std.proofs.lemmas.Result.{IfOk-weaker}
use Rattle.full_nodes.specs.Sure.{IsKnownOf}
use Rattle.pod_decision.proofs.FullNodes.{known_nothing}
use Rattle.pod_decision.proofs.Lifted.{found_of_node, of_pools}
use Rattle.pod_decision.proofs.search.PodSearch.outcome_over.Goals as goal

pub returns : goal.returns
returns c = record {
  found =
      IfOk-weaker c.search_among.result _ _
      (λ found answer. found_of_node c.args.self.now.state c.self.inside.state.now c.args.self.now.claims c.args.node.now c.self.inside.pools c.self.inside.holders.now
      c.args.totals.now c.args.devices.now c.has_broken-broken.result c.self.inside.wants c.args.budget found
      (ap (λ v. v.state) c.self.view_is) c.self.invariant.pools_are (of_pools c.self.inside.pools c.self.inside.state.now c.args.self.now.state c.args.node.now c.args.devices.now c.self.invariant.pools_are (ap (λ v. v.state) c.self.view_is) c.requires.devices)
      c.has_broken-broken.ensures (ap (λ v. v.claims) c.self.view_is) c.self.invariant.classes_are c.self.invariant.holders_are c.requires.drawn answer)
      c.search_among.ensures.answer;
}

pub returns-then-is_full : goal.returns-then-is_full
returns-then-is_full c = record {
  found =
      known_nothing c.args.self.now.state c.self.inside.state.now c.args.self.now.claims c.args.node.now c.self.inside.pools c.deref.result.now c.self.inside.wants.classes c.self.inside.holders.now c.args.budget
      c.args.devices.now c.self.inside.known
      (ap (λ v. v.state) c.self.view_is) c.self.invariant.pools_are c.deref.ensures c.self.invariant.classes_are (of_pools c.self.inside.pools c.self.inside.state.now c.args.self.now.state c.args.node.now c.args.devices.now c.self.invariant.pools_are (ap (λ v. v.state) c.self.view_is) c.requires.devices) c.self.invariant.holders_are
      (subst (λ cs. IfSome c.self.inside.known (IsKnownOf c.self.inside.state.now.inventory.slices c.self.inside.wants.classes cs)) (ap (λ v. v.claims) c.self.view_is) c.self.invariant.known_is)
      (c.is_full.ensures c.if-is_full.true) c.devices_differ.ensures.named c.devices_differ.ensures.listed (omega (arith, c.if-budget-gt0.true));
}
