use Rattle.std.proofs.Common.{◌∙◌, subst, sym}
use Rattle.api_slice.specs.declared.types.ResourceSlice.{ResourceSlice}
use Rattle.pool_view.proofs.Tallying.{Takes, gone_tally, same_tally}
use Rattle.pool_view.proofs.pool_slices.PoolSlices.remove.Goals as goal

pub invariant_of-self-in-None : goal.invariant_of-self-in-None
invariant_of-self-in-None c =
    same_tally c.args.name.now c.self.inside.slices c.remove.new.self c.self.inside.tally (sym c.in_ok-remove.ensures.value ∙ c.in-None.is) c.in_ok-remove.ensures.rest c.self.invariant

pub invariant_of-self-in-Some : goal.invariant_of-self-in-Some
invariant_of-self-in-Some c =
    gone_tally c.args.name.now c.in-Some.old c.self.inside.slices c.remove.new.self c.self.inside.tally c.without-self-inside.result (sym c.in_ok-remove.ensures.value ∙ c.in-Some.is) c.in_ok-remove.ensures.rest c.self.invariant
    (subst (λ (x : ResourceSlice). Takes x c.self.inside.tally c.without-self-inside.result) c.deref.ensures c.without-self-inside.ensures)
