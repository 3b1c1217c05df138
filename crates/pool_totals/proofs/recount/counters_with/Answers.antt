use Rattle.std.proofs.Common.{◌∙◌, ap, filter, refl, sym}
use Rattle.api_slice.specs.declared.types.ResourceSlice.{ResourceSlice}
use Rattle.pool_view.specs.declared.inventory.Inventory.{Inventory}
use Rattle.pool_view.specs.Inventory.{with_slice}
use Rattle.pool_view.specs.OnePool.{is_in}
use Rattle.pool_view.specs.Usable.{usable_slices}
use Rattle.pool_totals.proofs.Recounting.{anew_if, uncounted_of}
use Rattle.pool_totals.proofs.recount.counters_with.Goals as goal

pub returns-then-branch : goal.returns-then-branch
returns-then-branch c =
    uncounted_of (with_slice c.args.index c.args.slice.now c.args.inventory.now) c.args.holders.now c.args.of.now c.new.result c.as_text.result.now c.of.inside.pool.name
    (c.as_text.ensures.value ∙ ap (λ (y : ResourceSlice). y.driver) c.of.view_is) (ap (λ (y : ResourceSlice). y.pool.name) c.of.view_is)
    (c.in_ok-is_uncounted_with.ensures c.if-branch.true) c.new.ensures.none c.new.ensures.zero

pub returns : goal.returns
returns c =
    let driver = c.args.of.now.driver in
    let pool = c.args.of.now.pool.name in
    anew_if c.kept_totals.result (with_slice c.args.index c.args.slice.now c.args.inventory.now) c.in_ok-pool.pool c.args.holders.now c.args.of.now driver pool refl refl
    (c.pools_change_alone.ensures.put c.args.inventory.now c.args.index c.args.slice.now driver pool c.keeps_order.ensures ∙ ap (λ (j : Inventory). filter (is_in driver pool) (usable_slices j)) (sym c.in_ok-pool.ensures)) c.kept_totals.ensures
