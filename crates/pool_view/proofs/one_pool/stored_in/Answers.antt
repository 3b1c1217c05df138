use Rattle.std.proofs.Common.{rules, ◌∙◌, ap, sym}
use Rattle.pool_view.specs.OnePool.{is_in}
use Rattle.pool_view.proofs.OnePool.{grows}
use Rattle.pool_view.proofs.one_pool.stored_in.Goals as goal

pub loop-name-preserved-in_ok-insert : goal.loop-name-preserved-in_ok-insert
loop-name-preserved-in_ok-insert c =
    grows c.args.driver.now c.args.pool.now c.args.slices.now c.loop-name.name-iterator c.next.new.self c.loop-name.some c.insert.new.self c.in-Some.name.now c.in_ok-name.name c.in-Some.stored.now c.in_ok-duplicate.field-0
    c.in_order.ensures c.loop-name.invariant c.in-Some.ensures.steps (ap (is_in c.args.driver.now c.args.pool.now) (sym c.deref.ensures) ∙ sym c.is_in.ensures ∙ (search rules)) c.in_ok-name.ensures c.in_ok-duplicate.ensures c.in_ok-insert.ensures.ok
