use Rattle.std.proofs.Common.{◌∙◌, ap}
use Rattle.pool_view.specs.Usable.{pool_named}
use Rattle.pool_view.proofs.PoolGroups.{group_step}
use Rattle.pool_view.proofs.groups.by_pool.Goals as goal

pub loop-stored-preserved : goal.loop-stored-preserved
loop-stored-preserved c =
    group_step c.loop-stored.groups c.add.new.groups c.in-Some.field-0-0.now c.in-Some.stored.now c.loop-stored.stored-iterator c.next.new.self c.in_ok-name.name c.of-in-loop-stored.result _
    c.in-Some.ensures.steps (c.in_ok-name.ensures ∙ ap (λ v. pool_named v) c.deref.ensures) c.of-in-loop-stored.ensures c.in_ok-add.ensures c.loop-stored.invariant
