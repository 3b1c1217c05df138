use Rattle.std.proofs.Common.{ap, ◌∙◌, ◌+◌, length}
use Rattle.std.specs.Prelude.{unwrap_or}
use Rattle.cel_tree.specs.declared.types.Scalar.TheVariants as scalar
use Rattle.cel_tree.specs.declared.types.CelType.TheVariants as kind
use Rattle.cel_tree.specs.Estimate.{elements_type, weights_of, steps_of, list_bounds}
use Rattle.cel_cost.proofs.Capping.{made, one_more}
use Rattle.cel_cost.proofs.Gathered.{elements_are, number_is, weights_are, steps_are}
use Rattle.cel_cost.proofs.parts.list_bounds.Goals as goal

pub returns : goal.returns
unfolding list_bounds
returns c = λ xs e.
    let p = c.args.items in
    made _ (kind.List c.scalar_or.result) (kind.List (unwrap_or (elements_type xs) scalar.Dyn))
    c.saturating_add-weight.result p.number c.saturating_add-steps.result (1 + weights_of xs) (length xs) (1 + steps_of xs) c.new.ensures
    (ap kind.List (c.scalar_or.ensures ∙ (λ i. unwrap_or (elements_are p xs e i) scalar.Dyn)))
    (one_more _ _ _ c.saturating_add-weight.ensures (weights_are p xs e))
    (number_is p xs e)
    (one_more _ _ _ c.saturating_add-steps.ensures (steps_are p xs e))
