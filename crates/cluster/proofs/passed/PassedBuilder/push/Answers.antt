use Rattle.std.proofs.Common.{arith, ◌+◌, ◌∙◌, List, ap, length, subst, sym}
use Rattle.cluster.specs.declared.passed.NodeCause.{NodeCause}
use Rattle.cluster.specs.PassedOver.{ArePassed}
use Rattle.cluster.proofs.PassedNext.{kept_more, name_left, pushed}
use Rattle.cluster.proofs.passed.PassedBuilder.push.Goals as goal

pub overflow_add-self : goal.overflow_add-self
overflow_add-self c =
    let left = name_left c.args.self.now c.self.inside.names c.self.inside.count c.self.inside.causes c.self.invariant c.self.view_is c.requires in
    omega (arith, left, ap length (c.as_slice-most.ensures ∙ c.deref.ensures))

pub invariant_of-self-2 : goal.invariant_of-self-2
invariant_of-self-2 c =
    let left = name_left c.args.self.now c.self.inside.names c.self.inside.count c.self.inside.causes c.self.invariant c.self.view_is c.requires in
    subst (λ (l : List NodeCause). ArePassed c.self.inside.names (c.self.inside.count + 1) l) (sym c.in_ok-push_cause.ensures.ok)
    (kept_more c.self.inside.names c.self.inside.count c.self.inside.causes c.args.cause left c.self.invariant)

pub returns-clause-ok : goal.returns-clause-ok
returns-clause-ok c =
    pushed c.args.self.now c.self.inside.names c.self.inside.count c.self.inside.causes c.push_cause.new.causes c.args.cause c.self.invariant c.self.view_is c.in_ok-push_cause.ensures.ok
