use Rattle.std.proofs.Common.{◌≡◌, ◌∙◌, true, length, ap, sym, subst}
use Rattle.pool_view.specs.Inventory.{has_room_for}
use Rattle.pool_view.proofs.Counts.{few_at, kept_with}
use Rattle.pool_view.proofs.Indexing.{indexed_by}
use Rattle.pool_view.proofs.Learned.{forgotten}
use Rattle.pool_view.proofs.inventory.Inventory.put_slice.Goals as goal

pub overflow_sub-devices : goal.overflow_sub-devices
overflow_sub-devices c = few_at _ c.self.inside.slices c.self.inside.devices c.devices_of.result c.self.invariant.0.sum c.devices_of.ensures

pub invariant_of-self-2 : goal.invariant_of-self-2
invariant_of-self-2 c =
    let name = c.in_ok-name.ensures ∙ ap (λ v. v.name) (c.behind-slice.view_is ∙ c.deref.ensures) in (
      kept_with c.args.place c.in_ok-name.name c.args.slice c.self.inside.slices c.put_named.new.objects c.self.inside.devices c.devices_of.result (length c.as_slice.result.now)
          c.self.invariant.0 name c.devices_of.ensures
          (ap length (c.as_slice.ensures ∙ ap (λ v. v.devices) (c.behind-slice-2.view_is ∙ c.deref-2.ensures)))
          (subst (λ v. has_room_for v.slices c.args.slice ≡ true) (sym c.self.view_is) c.requires) c.in_ok-put_named.ensures.ok,
      tt,
      forgotten _ _ c.clear.ensures.items,
      c.self.invariant.3,
      indexed_by c.args.place c.in_ok-name.name c.args.slice c.self.inside.slices c.put_named.new.objects c.in_ok-pools.pools name c.in_ok-put_named.ensures.ok c.in_ok-pools.ensures,
    )
