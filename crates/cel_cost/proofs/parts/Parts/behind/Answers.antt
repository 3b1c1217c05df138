use Rattle.std.proofs.Common.{◌≡◌, ◌∷◌, Some, ap, ◌∙◌, arith, length}
use Rattle.std.specs.Prelude.{unwrap_or}
use Rattle.cel_tree.specs.Faults.{joined}
use Rattle.cel_tree.specs.Typing.{with_first}
use Rattle.cel_tree.specs.Estimate.{arguments_of, elements_type, weights_of, steps_of, last_weight, scalar_in}
use Rattle.cel_cost.specs.Capped.{cap, seen, parts_of}
use Rattle.cel_cost.proofs.Capping.{made, one_more, sum_more, product, unwrap-cap}
use Rattle.cel_cost.proofs.Capping as bounds
use Rattle.cel_cost.proofs.Gathered.{arguments_are, elements_are, number_is, weights_are, steps_are, last_is, weights-more, steps-more}
use Rattle.cel_cost.proofs.parts.Parts.behind.Goals as goal

pub returns : goal.returns
unfolding parts_of
returns c = λ x xs e f.
    let p = c.args.self in
    let b = seen c.args.first in
    let k = bounds.kind_of b x f in
    let w = bounds.weight_of b x f in
    let s = bounds.steps_of b x f in
    let given = arguments_are p xs e in
    let elements = elements_are p xs e in
    let n = number_is p xs e in
    let weights = weights_are p xs e in
    let steps = steps_are p xs e in
    let last = last_is p xs e in
    let scalars = c.scalar_in.ensures ∙ ap scalar_in k in
    let given_more : c.with_first.result ≡ with_first x.kind (arguments_of xs) = c.with_first.ensures ∙ (λ i. with_first (k i) (given i)) in
    let elements_more : c.joined.result ≡ joined (scalar_in x.kind) (elements_type xs) = c.joined.ensures ∙ (λ i. joined (scalars i) (elements i)) in
    let n_more : c.saturating_add.result ≡ cap (length (x ∷ xs)) = omega arith in
    let weights_more : c.saturating_add-2.result ≡ cap (weights_of (x ∷ xs)) = omega (arith, weights-more x xs) in
    let steps_more : c.saturating_add-3.result ≡ cap (steps_of (x ∷ xs)) = omega (arith, steps-more x xs) in
    let last_more : c.or.result ≡ cap (unwrap_or (last_weight xs) x.weight) = c.or.ensures ∙ (λ i. unwrap_or (last i) (w i)) ∙ unwrap-cap (last_weight xs) x.weight in
    (λ i. record {
      arguments = given_more i;
      elements = Some (elements_more i);
      number = n_more i;
      weight = weights_more i;
      steps = steps_more i;
      last = Some (last_more i);
    })
