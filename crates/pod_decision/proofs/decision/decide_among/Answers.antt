use Rattle.std.proofs.Common.{◌∙◌, List, ℕ, ap, subst}
use Rattle.cluster.specs.declared.plan.Passed.{Passed}
use Rattle.cluster.specs.declared.state.State.{State}
use Rattle.api_cluster.specs.declared.types.Pod.{Pod}
use Rattle.engine_ports.specs.Decisions.{IsDecision}
use Rattle.pod_decision.specs.Parts.{decision_by}
use Rattle.pod_decision.specs.Tries.{AreTried}
use Rattle.pod_decision.proofs.Decided.{decided}
use Rattle.pod_decision.proofs.Lists.{ok_as, ok_has}
use Rattle.pod_decision.proofs.decision.decide_among.Goals as goal

pub returns-clause-decision : goal.returns-clause-decision
returns-clause-decision c =
    let s = c.args.state.now in
    let p = c.args.pod.now in
    let budget = c.args.tries.now.budget in
    let passed = c.try_nodes.new.passed.nodes in
    let taken = c.in_ok-taken.taken in
    let same = ap (λ (ps : List Passed). decision_by s p c.args.at ps taken) c.finish-passed.ensures in
    let made = ok_as c.decision_by.result (decision_by s p c.args.at c.finish-passed.result taken) (decision_by s p c.args.at passed taken) c.decision_by.ensures same in
    let names = c.as_slice-2.ensures ∙ c.deref-2.ensures ∙ c.in_ok-names.ensures in
    let tried = subst (λ (t : State). AreTried t c.args.tries.now.pod budget c.as_slice-2.result.now passed taken) c.requires.state c.in_ok-taken.ensures.tried in
    let of_pod = subst (λ (o : Pod). AreTried s o budget c.as_slice-2.result.now passed taken) c.requires.pod tried in
    ok_has (IsDecision s c.args.key.now budget c.args.at) c.decision_by.result (decision_by s p c.args.at passed taken) made
    (decided s c.args.key.now p budget c.args.at passed taken c.unsat_is_true.ensures c.requires.may_search (rw (c.nodes.ensures ∙ ap (λ v. v.nodes) c.deref.ensures) at c.in_order.ensures)
    (subst (λ (l : List (List ℕ)). AreTried s p.pod.object budget l passed taken) names of_pod))
