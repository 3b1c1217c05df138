use Rattle.std.proofs.Common.{◌∙◌, ap}
use Rattle.std.specs.BTreeMap.{is_at}
use Rattle.std.specs.Map.{remove_entry}
use Rattle.pool_view.specs.Names.{text_cmp}
use Rattle.pool_view.proofs.Indexing.{changed, on_ok, taken}
use Rattle.pool_view.proofs.pool_index.take_out.Goals as goal

pub returns-in_ok-remove-2 : goal.returns-in_ok-remove-2
returns-in_ok-remove-2 c =
    taken c.args.index.now c.in_ok-pool.pool c.args.slice.now (c.in_ok-pool.ensures ∙ c.in_ok-of.ensures) (λ es. remove_entry (is_at (text_cmp c.args.name.now)) es) c.remove.new.self
    (c.in_ok-remove.ensures.ok ∙ ap (λ es. remove_entry (is_at (text_cmp c.args.name.now)) es) c.in_ok-slices.ensures) c.remove-then-is_empty.new.self c.in_ok-remove-2.ensures.rest
    (c.is_empty.ensures.0 c.if-is_empty.true) c.in_order.ensures

pub returns-else-is_empty : goal.returns-else-is_empty
returns-else-is_empty c =
    on_ok c.insert.result _ _
    (λ is. changed c.args.index.now c.in_ok-pool.pool c.args.slice.now (c.in_ok-pool.ensures ∙ c.in_ok-of.ensures) (λ es. remove_entry (is_at (text_cmp c.args.name.now)) es) c.remove.new.self
    (c.in_ok-remove.ensures.ok ∙ ap (λ es. remove_entry (is_at (text_cmp c.args.name.now)) es) c.in_ok-slices.ensures) c.insert.new.self is)
    c.insert.ensures.ok
