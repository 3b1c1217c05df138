use Rattle.std.proofs.Common.{List, Option, subst}
use Rattle.node_memo.specs.Memo.{IsKnownAt, NodesFields}
use Rattle.node_memo.specs.declared.nodes.LackingNode.{LackingNode}
use Rattle.node_memo.proofs.Rows.{known_lacks, known_tells}
use Rattle.node_memo.proofs.nodes.LackingNodes.has.Goals as goal

inside : (c : goal.After-set_index) → IsKnownAt c.self.inside.rows.items c.args.position c.args.node.now c.args.dates.now
inside c = subst (λ (rows : List (Option LackingNode)). IsKnownAt rows c.args.position c.args.node.now c.args.dates.now) c.deref.ensures.value (c.is_known.ensures c.if-is_known.true)

known : (c : goal.After-set_index) → IsKnownAt c.args.self.now.rows c.args.position c.args.node.now c.args.dates.now
known c = subst (λ (n : NodesFields). IsKnownAt n.rows c.args.position c.args.node.now c.args.dates.now) c.self.view_is (inside c)

pub returns-then-is_known-clause-unsat : goal.returns-then-is_known-clause-unsat
returns-then-is_known-clause-unsat c = λ _ s pod t same. known_lacks c.lacking_is_found.ensures.used s c.args.dates.now pod c.args.self.now c.args.position c.args.node.now c.args.at (known c) t same

pub returns-then-is_known-clause-tells : goal.returns-then-is_known-clause-tells
returns-then-is_known-clause-tells c = λ s t. known_tells s c.args.dates.now _ c.args.self.now c.set_index.new.rows.items c.args.position c.args.node.now c.args.at c.self.view_is (inside c) c.set_index.ensures t
