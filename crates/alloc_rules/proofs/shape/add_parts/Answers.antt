use Rattle.std.proofs.Common.{rules, ◌∙◌, sym}
use Rattle.request_rows.specs.Wanted.{input_of}
use Rattle.alloc_rules.proofs.Picking.{get_any}
use Rattle.alloc_rules.proofs.Shaping.{left_on_node, until_all, until_parts}
use Rattle.alloc_rules.proofs.shape.add_parts.Goals as goal

pub add_part-requires-clause-on_node : goal.add_part-requires-clause-on_node
add_part-requires-clause-on_node c = left_on_node c.args.view.now.devices c.args.results.now c.loop-place.at c.due_of-count.result c.loop-place.invariant.on_node

pub loop-place-preserved : goal.loop-place-preserved
loop-place-preserved c =
    until_parts (input_of c.args.rows.now) c.args.claim.now c.args.view.now.devices c.args.dues.now.items c.loop-place.dues.items c.add_part.new.dues.items c.args.picked.now c.args.results.now c.loop-place.place c.loop-place.at _ c.due_of-count.result c.row.result.now
    c.loop-place-test.true (get_any c.args.picked.now c.loop-place.place _ _ c.loop-place-test.true) c.due_of-count.ensures c.row.ensures (search rules) (sym c.if-not-branch.false ∙ c.in_ok-add_part.ensures.shaped) (c.in_ok-add_part.ensures.dues c.if-not-branch.false) c.loop-place.invariant

pub returns-clause-shaped : goal.returns-clause-shaped
returns-clause-shaped c = until_all (input_of c.args.rows.now) c.args.claim.now c.args.view.now.devices c.args.dues.now.items c.loop-place.dues.items c.args.picked.now c.args.results.now c.loop-place.place c.loop-place.at c.loop-place-test.false c.loop-place.invariant
