use Rattle.std.proofs.Common.{List, subst, sym}
use Rattle.node_memo.specs.Memo.{NodesFields, Tells}
use Rattle.node_memo.proofs.Rows.{tells_less}
use Rattle.node_memo.proofs.memo.make_place.Goals as goal

pub returns : goal.returns
returns c = λ s d at t.
    subst (λ (m : List NodesFields). Tells s d m at) (sym c.remove.ensures.items) (tells_less s d c.args.lists.now.items 0 at t)
