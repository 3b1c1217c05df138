use Rattle.std.proofs.Common.{refl}
use Rattle.allocator.proofs.Constraining.{added_step}
use Rattle.allocator.proofs.agreements.add_agreements.Goals as goal

pub loop-constraint-preserved : goal.loop-constraint-preserved
loop-constraint-preserved c =
    λ v rs a. added_step v c.args.claim rs c.args.constraints.now c.loop-constraint.constraint-index c.constraint-item.result c.loop-constraint.agreements.items c.push.new.self.items
    (record { claim = c.args.claim; agreement = c.of.result }) c.loop-constraint-test.true c.constraint-item.is c.in_ok-push.ensures.items (c.loop-constraint.invariant v rs a) refl c.of.ensures
