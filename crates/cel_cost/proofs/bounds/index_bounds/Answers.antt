use Rattle.std.proofs.Common.{refl, ap, ◌∙◌, ◌+◌}
use Rattle.cel_cost.specs.Capped.{seen}
use Rattle.cel_cost.proofs.Capping.{made, sum_more, part-cap, kind_of, weight_of, steps_of}
use Rattle.cel_tree.specs.Faults.{row}
use Rattle.cel_tree.specs.Estimate.{typed, index_bounds, part_weight}
use Rattle.cel_tree.specs.Types.{index_type}
use Rattle.cel_cost.proofs.bounds.index_bounds.Goals as goal

pub returns : goal.returns
unfolding index_bounds
returns c = λ x y e f.
    let b = seen c.args.object in
    let d = seen c.args.index in
    let k = kind_of b x e in
    let j = kind_of d y f in
    made _ c.typed-kind.result (typed (row c.args.span (index_type x.kind y.kind)))
    c.part_weight-weight.result 0 c.saturating_add-steps.result
    (part_weight x.kind x.weight) 0 (1 + (x.steps + y.steps)) c.new.ensures
    (c.typed-kind.ensures ∙ ap typed (c.row.ensures ∙ ap (row c.args.span) (c.index_type.ensures ∙ (λ i. index_type (k i) (j i)))))
    (c.part_weight-weight.ensures ∙ (λ i. part_weight (k i) (weight_of b x e i)) ∙ part-cap x.kind x.weight)
    refl (sum_more _ _ _ _ _ _ c.saturating_add.ensures c.saturating_add-steps.ensures (steps_of b x e) (steps_of d y f))
