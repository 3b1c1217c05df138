use Rattle.std.proofs.Common.{◌∙◌, ap}
use Rattle.std.specs.BTreeMap.{insert_entry}
use Rattle.pool_view.specs.Names.{text_cmp}
use Rattle.pool_view.proofs.Indexing.{changed, on_ok}
use Rattle.pool_view.proofs.pool_index.add.Goals as goal

pub returns : goal.returns
returns c =
    on_ok c.insert-2.result _ _
    (λ is. changed c.args.index.now c.in_ok-pool.pool c.args.slice.now (c.in_ok-pool.ensures ∙ c.in_ok-of.ensures) (λ es. insert_entry text_cmp es c.args.name c.args.stored) c.insert.new.self
    (c.in_ok-insert.ensures.ok ∙ ap (λ es. insert_entry text_cmp es c.args.name c.args.stored) c.in_ok-slices.ensures) c.insert-2.new.self is)
    c.insert-2.ensures.ok
