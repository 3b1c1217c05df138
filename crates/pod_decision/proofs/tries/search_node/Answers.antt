use Rattle.std.proofs.Common.{Option, subst, sym}
use Rattle.node_memo.specs.Memo.{NodesFields}
use Rattle.pod_decision.specs.Memory.{Remembers}
use Rattle.pod_decision.proofs.Tried.{found_unsat}
use Rattle.pod_decision.proofs.tries.search_node.Goals as goal

pub returns-in_err-keep-in-Unsat-clause-nodes : goal.returns-in_err-keep-in-Unsat-clause-nodes
returns-in_err-keep-in-Unsat-clause-nodes c = λ pod d same r.
    c.keep.ensures pod c.args.budget d same
    (found_unsat c.args.search.now.state pod c.args.search.now.claims c.args.budget c.args.node.now c.in_ok-outcome_of.field-0 same c.in-Unsat.is c.in_ok-outcome_of.ensures.found)
    (subst (λ (nodes : Option NodesFields). Remembers c.args.search.now.state pod c.args.budget d c.args.at nodes) (sym c.outcome_of.ensures.nodes) r)

pub returns-in-Unsat-clause-nodes : goal.returns-in-Unsat-clause-nodes
returns-in-Unsat-clause-nodes c = λ pod d same r.
    c.keep.ensures pod c.args.budget d same
    (found_unsat c.args.search.now.state pod c.args.search.now.claims c.args.budget c.args.node.now c.in_ok-outcome_of.field-0 same c.in-Unsat.is c.in_ok-outcome_of.ensures.found)
    (subst (λ (nodes : Option NodesFields). Remembers c.args.search.now.state pod c.args.budget d c.args.at nodes) (sym c.outcome_of.ensures.nodes) r)
