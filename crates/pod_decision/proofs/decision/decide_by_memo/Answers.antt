use Rattle.std.proofs.Common.{Some, subst, sym, ◌∙◌}
use Rattle.std.specs.Option.{IfSome}
use Rattle.api_cluster.specs.declared.types.Pod.{Pod}
use Rattle.node_memo.specs.Memo.{TellsOf}
use Rattle.pod_decision.specs.Memory.{Remembers, TriesFields}
use Rattle.pod_decision.proofs.decision.decide_by_memo.Goals as goal

pub returns-in_err-nodes-clause-memo : goal.returns-in_err-nodes-clause-memo
returns-in_err-nodes-clause-memo c = c.take_nodes.ensures.memo c.args.dates.now c.args.at c.requires.memo

pub of-tries-requires-clause-nodes : goal.of-tries-requires-clause-nodes
of-tries-requires-clause-nodes c =
    subst (λ (p : Pod). Remembers c.args.state.now p c.args.budget c.args.dates.now c.args.at (Some c.in_ok-nodes.nodes)) (c.deref.ensures ∙ sym c.deref-2.ensures)
    (c.in_ok-nodes.ensures.nodes c.args.dates.now c.args.at c.requires.memo)

pub returns-in_err-decision-clause-memo : goal.returns-in_err-decision-clause-memo
returns-in_err-decision-clause-memo c = c.take_nodes.ensures.memo c.args.dates.now c.args.at c.requires.memo

pub returns-in_err-put_nodes-clause-memo : goal.returns-in_err-put_nodes-clause-memo
returns-in_err-put_nodes-clause-memo c =
    c.put_nodes.ensures c.args.state.now c.args.dates.now c.args.at (c.take_nodes.ensures.memo c.args.dates.now c.args.at c.requires.memo)
    (subst (λ (t : TriesFields). IfSome c.into_nodes.result (λ n. TellsOf t.state t.dates n t.at)) (c.in_ok-decision.ensures.same ∙ c.of-tries.ensures) c.into_nodes.ensures)

pub returns-clause-memo : goal.returns-clause-memo
returns-clause-memo c =
    c.put_nodes.ensures c.args.state.now c.args.dates.now c.args.at (c.take_nodes.ensures.memo c.args.dates.now c.args.at c.requires.memo)
    (subst (λ (t : TriesFields). IfSome c.into_nodes.result (λ n. TellsOf t.state t.dates n t.at)) (c.in_ok-decision.ensures.same ∙ c.of-tries.ensures) c.into_nodes.ensures)
