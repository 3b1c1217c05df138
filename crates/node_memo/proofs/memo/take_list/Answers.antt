use Rattle.std.proofs.Common.{List, subst, sym}
use Rattle.node_memo.specs.Memo.{NodesFields, Tells}
use Rattle.node_memo.proofs.Rows.{tells_less}
use Rattle.node_memo.proofs.memo.take_list.Goals as goal

pub returns-in-Some-clause-rest : goal.returns-in-Some-clause-rest
returns-in-Some-clause-rest c = λ s d at t.
    subst (λ (m : List NodesFields). Tells s d m at) (sym c.remove.ensures.items) (tells_less s d c.args.lists.now.items c.in-Some.position at t)
