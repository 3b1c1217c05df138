use Rattle.std.proofs.Common.{refl, ap, ◌∙◌}
use Rattle.cel_cost.specs.Capped.{seen}
use Rattle.cel_cost.proofs.Capping.{made, element-cap, kind_of, weight_of}
use Rattle.cel_tree.specs.declared.types.CelType.TheVariants as kind
use Rattle.cel_tree.specs.Estimate.{element_bounds, element_of, element_weight}
use Rattle.cel_cost.proofs.bounds.element_bounds.Goals as goal

pub returns : goal.returns
unfolding element_bounds
returns c = λ x e.
    let b = seen c.args.range in
    let k = kind_of b x e in
    made _ (kind.Scalar c.element_of.result) (kind.Scalar (element_of x.kind)) c.element_weight.result 0 1
    (element_weight x.kind x.weight) 0 1 c.new.ensures
    (ap kind.Scalar (c.element_of.ensures ∙ ap element_of k))
    (c.element_weight.ensures ∙ (λ i. element_weight (k i) (weight_of b x e i)) ∙ element-cap x.kind x.weight)
    refl refl
