use Rattle.std.proofs.Common.{List, subst, sym}
use Rattle.node_memo.specs.Memo.{NodesFields, Tells}
use Rattle.node_memo.proofs.memo.Memo.take.Goals as goal

pub returns-in_err-nodes-clause-rest : goal.returns-in_err-nodes-clause-rest
returns-in_err-nodes-clause-rest c = λ s d at t. c.take_list.ensures.rest s d at (subst (λ (m : List NodesFields). Tells s d m at) (sym c.self.view_is) t)

pub returns-clause-rest : goal.returns-clause-rest
returns-clause-rest c = λ s d at t. c.take_list.ensures.rest s d at (subst (λ (m : List NodesFields). Tells s d m at) (sym c.self.view_is) t)
