use Rattle.std.proofs.Common.{◌∙◌, ap, subst}
use Rattle.std.specs.BTreeMap.{insert_entry}
use Rattle.api_slice.specs.declared.types.ResourceSlice.{ResourceSlice}
use Rattle.pool_view.specs.Names.{at_name, text_cmp}
use Rattle.pool_view.proofs.Tallying.{Adds, has_room, put_tally}
use Rattle.pool_view.proofs.pool_slices.PoolSlices.insert.Goals as goal

pub with-self-inside-requires : goal.with-self-inside-requires
with-self-inside-requires c =
    has_room c.args.name c.args.stored c.self.inside.slices c.insert.new.self c.self.inside.tally c.len-len.result (ap (λ es. at_name es c.args.name) c.self.view_is ∙ c.requires) c.in_ok-insert.ensures.ok c.len-len.ensures
    c.self.invariant

pub invariant_of-self-2 : goal.invariant_of-self-2
invariant_of-self-2 c =
    put_tally c.args.name c.args.stored c.self.inside.slices c.insert.new.self c.self.inside.tally c.with-self-inside.result (ap (λ es. at_name es c.args.name) c.self.view_is ∙ c.requires) c.in_ok-insert.ensures.ok c.self.invariant
    (subst (λ (x : ResourceSlice). Adds x c.self.inside.tally c.with-self-inside.result) (c.deref.ensures ∙ c.in_ok-slice.ensures) c.with-self-inside.ensures)

pub returns-clause-ok : goal.returns-clause-ok
returns-clause-ok c = c.in_ok-insert.ensures.ok ∙ ap (λ es. insert_entry text_cmp es c.args.name c.args.stored) c.self.view_is
