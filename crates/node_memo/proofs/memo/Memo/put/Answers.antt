use Rattle.std.proofs.Common.{List, subst, sym}
use Rattle.node_memo.specs.Memo.{NodesFields, Tells, TellsOf}
use Rattle.node_memo.proofs.Rows.{tells_more}
use Rattle.node_memo.proofs.memo.Memo.put.Goals as goal

pub returns-in_err-push : goal.returns-in_err-push
returns-in_err-push c = λ s d at t new.
    subst (λ (m : List NodesFields). Tells s d m at) (sym c.in_err-push.ensures.items)
    (c.make_place.ensures s d at (subst (λ (m : List NodesFields). Tells s d m at) (sym c.self.view_is) t))

pub returns : goal.returns
returns c = λ s d at t new.
    subst (λ (m : List NodesFields). Tells s d m at) (sym c.in_ok-push.ensures.items)
    (tells_more s d c.make_place.new.lists.items c.swap_verdicts.new.self at (c.make_place.ensures s d at (subst (λ (m : List NodesFields). Tells s d m at) (sym c.self.view_is) t))
    (subst (λ (n : NodesFields). TellsOf s d n at) (sym c.swap_verdicts.ensures) new))
