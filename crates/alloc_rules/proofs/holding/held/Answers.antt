use Rattle.std.proofs.Common.{sym, ◌∙◌}
use Rattle.alloc_rules.proofs.SoFar.{held_here, held_next}
use Rattle.alloc_rules.proofs.holding.held.Goals as goal

pub returns-in-Some : goal.returns-in-Some
returns-in-Some c = λ w pairs a.
    held_here c.args.holders.now c.loop-due.own c.args.dues.now c.loop-due.due-index c.due-item.result c.in-Some.found w pairs c.loop-due-test.true c.due-item.is
    (sym c.in-Some.is ∙ c.in_ok-found.ensures.found w) c.loop-due.invariant a

pub loop-due-preserved : goal.loop-due-preserved
loop-due-preserved c =
    held_next c.args.holders.now c.loop-due.own c.hold.new.own c.args.dues.now c.loop-due.due-index c.due-item.result c.loop-due-test.true c.due-item.is
    (λ w. sym c.in_default.is ∙ c.in_ok-found.ensures.found w) (λ w pairs a. c.in_ok-found.ensures.pairs w pairs a c.in_default.is) c.loop-due.invariant
