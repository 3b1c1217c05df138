use Rattle.std.proofs.Common.{refl, ap, ◌∙◌, ◌+◌}
use Rattle.cel_cost.specs.Capped.{seen}
use Rattle.cel_cost.proofs.Capping.{made, one_more, part-cap, kind_of, weight_of, steps_of}
use Rattle.cel_tree.specs.Faults.{row}
use Rattle.cel_tree.specs.Estimate.{typed, member_bounds, part_weight}
use Rattle.cel_tree.specs.Types.{member_type}
use Rattle.cel_cost.proofs.bounds.member_bounds.Goals as goal

pub returns : goal.returns
unfolding member_bounds
returns c = λ x e.
    let b = seen c.args.object in
    let k = kind_of b x e in
    made _ c.typed-kind.result (typed (row c.args.span (member_type x.kind)))
    c.part_weight-weight.result 0 c.saturating_add.result
    (part_weight x.kind x.weight) 0 (1 + x.steps) c.new.ensures
    (c.typed-kind.ensures ∙ ap typed (c.row.ensures ∙ ap (row c.args.span) (c.member_type.ensures ∙ ap member_type k)))
    (c.part_weight-weight.ensures ∙ (λ i. part_weight (k i) (weight_of b x e i)) ∙ part-cap x.kind x.weight)
    refl (one_more _ _ _ c.saturating_add.ensures (steps_of b x e))
