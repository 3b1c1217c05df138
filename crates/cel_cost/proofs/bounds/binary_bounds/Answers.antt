use Rattle.std.proofs.Common.{◌≡◌, ap, ◌∙◌, arith, ◌+◌}
use Rattle.cel_cost.specs.Capped.{cap, seen}
use Rattle.cel_cost.proofs.Capping.{made, sum_more, weighing-cap, kind_of, weight_of, number_of, steps_of}
use Rattle.cel_tree.specs.Faults.{row}
use Rattle.cel_tree.specs.Estimate.{typed, binary_bounds, weighing}
use Rattle.cel_tree.specs.Types.{binary_type}
use Rattle.cel_cost.proofs.bounds.binary_bounds.Goals as goal

pub returns : goal.returns
unfolding binary_bounds
returns c = λ x y e f.
    let l = seen c.args.left in
    let r = seen c.args.right in
    let k = kind_of l x e in
    let j = kind_of r y f in
    let weights = x.weight + y.weight in
    let w : c.saturating_add-weight.result ≡ cap weights = omega (arith, weight_of l x e, weight_of r y f) in
    let n : c.saturating_add-number.result ≡ cap (x.number + y.number) = omega (arith, number_of l x e, number_of r y f) in
    let s : c.saturating_add-steps.result ≡ cap (1 + (x.steps + y.steps)) =
    sum_more _ _ _ _ _ _ c.saturating_add.ensures c.saturating_add-steps.ensures (steps_of l x e) (steps_of r y f) in
    let weighed : c.weighing.result ≡ cap (weighing c.args.op weights) = c.weighing.ensures ∙ ap (weighing c.args.op) w ∙ weighing-cap c.args.op weights in
    made _ c.typed-kind.result (typed (row c.args.span (binary_type c.args.op x.kind y.kind)))
    c.saturating_add-weight.result c.saturating_add-number.result c.saturating_add-all.result
    weights (x.number + y.number) (1 + (x.steps + y.steps) + weighing c.args.op weights) c.new.ensures
    (c.typed-kind.ensures ∙ ap typed (c.row.ensures ∙ ap (row c.args.span) (c.binary_type.ensures ∙ (λ i. binary_type c.args.op (k i) (j i)))))
    w n (omega arith)
