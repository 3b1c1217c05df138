use Rattle.std.proofs.Common.{◌∷◌, refl, ap, ◌∙◌, arith, ◌+◌}
use Rattle.cel_tree.specs.Faults.{method_called_type}
use Rattle.cel_tree.specs.Estimate.{typed, arguments_of, weights_of, steps_of, plain_bounds}
use Rattle.cel_cost.specs.Capped.{seen}
use Rattle.cel_cost.proofs.Capping.{made, one_more, sum_more, product, unwrap-cap}
use Rattle.cel_cost.proofs.Capping as bounds
use Rattle.cel_cost.proofs.Gathered.{arguments_are, weights_are, steps_are, weights-more, steps-more}
use Rattle.cel_cost.proofs.parts.method_bounds.Goals as goal

pub returns : goal.returns
unfolding plain_bounds
returns c = λ x xs e f.
    let b = seen c.args.object in
    let p = c.args.arguments in
    let k = bounds.kind_of b x e in
    let w = bounds.weight_of b x e in
    let s = bounds.steps_of b x e in
    let given = arguments_are p xs f in
    let weights = weights_are p xs f in
    let steps = steps_are p xs f in
    made _ c.typed-kind.result (typed (method_called_type c.args.span c.args.called x.kind (arguments_of xs))) 1 0 c.saturating_add-steps.result
    1 0 (1 + (steps_of (x ∷ xs) + weights_of (x ∷ xs))) c.new.ensures
    (c.typed-kind.ensures ∙ ap typed (c.method_called_type.ensures ∙ (λ i. method_called_type c.args.span c.args.called (k i) (given i))))
    refl refl
    (omega (arith, weights-more x xs, steps-more x xs))
