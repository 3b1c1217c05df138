use Rattle.std.proofs.Common.{◌∙◌, ap, subst}
use Rattle.std.specs.Prelude.{option_copied}
use Rattle.api_slice.specs.declared.types.ResourceSlice.{ResourceSlice}
use Rattle.pool_view.specs.PoolIndexes.{AreIndexed, stored_by}
use Rattle.pool_view.specs.Usable.{pool_named}
use Rattle.pool_view.proofs.Indexing.{With, absent, index_put}
use Rattle.pool_view.proofs.pool_index.index_with.Goals as goal

pub add-requires : goal.add-requires
add-requires c =
    absent c.args.slices.now c.in-Some.index c.take_old.new.index (option_copied c.get-old.result) c.in_ok-name.name c.in_order.ensures c.get-old.ensures (subst (AreIndexed c.args.slices.now) c.in-Some.is c.requires)
    c.in_ok-take_old.ensures (pool_named c.deref-2.result.now)

pub returns : goal.returns
returns c =
    index_put c.args.slices.now c.in-Some.index c.take_old.new.index c.add.new.index (option_copied c.get-old.result) c.args.place c.args.slice.now c.in_ok-name.name c.stored_by-stored.result
    (c.in_ok-name.ensures ∙ ap (λ v. v.name) (c.behind-slice.view_is ∙ c.deref.ensures))
    (c.stored_by-stored.ensures ∙ ap (λ x. stored_by c.args.place x (option_copied c.get-old.result)) c.in_ok-share.ensures)
    c.in_order.ensures c.get-old.ensures (subst (AreIndexed c.args.slices.now) c.in-Some.is c.requires) c.in_ok-take_old.ensures
    (subst (λ (x : ResourceSlice). With c.take_old.new.index c.add.new.index x c.in_ok-name.name c.stored_by-stored.result) c.deref-2.ensures c.in_ok-add.ensures)
