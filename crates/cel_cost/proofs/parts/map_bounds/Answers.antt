use Rattle.std.proofs.Common.{◌∙◌, ◌+◌, length}
use Rattle.std.specs.Prelude.{unwrap_or}
use Rattle.cel_tree.specs.declared.types.Scalar.TheVariants as scalar
use Rattle.cel_tree.specs.declared.types.CelType.TheVariants as kind
use Rattle.cel_tree.specs.Estimate.{elements_type, weights_of, steps_of, map_bounds}
use Rattle.cel_cost.proofs.Capping.{made, sum_more}
use Rattle.cel_cost.proofs.Gathered.{elements_are, number_is, weights_are, steps_are}
use Rattle.cel_cost.proofs.parts.map_bounds.Goals as goal

pub returns : goal.returns
unfolding map_bounds
returns c = λ ks vs d e.
    let p = c.args.keys in
    let q = c.args.values in
    let value_eq = c.scalar_or.ensures ∙ (λ i. unwrap_or (elements_are q vs e i) scalar.Dyn) in
    made _ (kind.Map c.args.key c.scalar_or.result)
    (kind.Map c.args.key (unwrap_or (elements_type vs) scalar.Dyn))
    c.saturating_add-weight.result p.number c.saturating_add-steps.result
    (1 + (weights_of ks + weights_of vs)) (length ks) (1 + (steps_of ks + steps_of vs)) c.new.ensures
    (λ i. kind.Map c.args.key (value_eq i))
    (sum_more _ _ _ _ _ _ c.saturating_add.ensures c.saturating_add-weight.ensures (weights_are p ks d) (weights_are q vs e))
    (number_is p ks d)
    (sum_more _ _ _ _ _ _ c.saturating_add-2.ensures c.saturating_add-steps.ensures (steps_are p ks d) (steps_are q vs e))
