use Rattle.std.proofs.Common.{◌≡◌, ap, ◌∙◌, arith, ◌+◌, ◌*◌}
use Rattle.cel_tree.specs.Faults.{comprehension_type}
use Rattle.cel_tree.specs.Estimate.{typed, arguments_of, steps_of, element_of, gathered_weight, comprehension_bounds}
use Rattle.cel_cost.specs.Capped.{cap, seen}
use Rattle.cel_cost.proofs.Capping.{made, one_more, sum_more, product, unwrap-cap}
use Rattle.cel_cost.proofs.Capping as bounds
use Rattle.cel_cost.proofs.Gathered.{arguments_are, steps_are}
use Rattle.cel_cost.proofs.parts.comprehension_bounds.Goals as goal

pub returns : goal.returns
unfolding comprehension_bounds
returns c = λ x xs e f.
    let b = seen c.args.range in
    let p = c.args.bodies in
    let k = bounds.kind_of b x e in
    let given = arguments_are p xs f in
    let number = bounds.number_of b x e in
    let element = c.element_of-element.ensures ∙ ap element_of k in
    let steps = steps_are p xs f in
    let turn : c.saturating_add-turn.result ≡ cap (2 + steps_of xs) = omega arith in
    let turns : c.saturating_mul-turns.result ≡ cap (x.number * (2 + steps_of xs)) = product _ _ _ _ _ c.saturating_mul-turns.ensures number turn in
    made _ c.typed-kind.result (typed (comprehension_type c.args.span c.args.comprehension (element_of x.kind) (arguments_of xs)))
    c.gathered_weight-weight.result b.number c.saturating_add-steps.result
    (gathered_weight c.args.comprehension x xs) x.number (1 + (x.steps + x.number * (2 + steps_of xs))) c.new.ensures
    (c.typed-kind.ensures ∙ ap typed (c.comprehension_type.ensures ∙ (λ i. comprehension_type c.args.span c.args.comprehension (element i) (given i))))
    (c.gathered_weight-weight.ensures x xs e f)
    number
    (sum_more _ _ _ _ _ _ c.saturating_add.ensures c.saturating_add-steps.ensures (bounds.steps_of b x e) turns)
