use Rattle.std.proofs.Common.{refl, ap, ◌∙◌, ◌+◌}
use Rattle.cel_cost.specs.Capped.{seen}
use Rattle.cel_cost.proofs.Capping.{made, one_more, kind_of, steps_of}
use Rattle.cel_tree.specs.Faults.{row}
use Rattle.cel_tree.specs.Estimate.{typed, unary_bounds}
use Rattle.cel_tree.specs.Types.{unary_type}
use Rattle.cel_cost.proofs.bounds.unary_bounds.Goals as goal

pub returns : goal.returns
unfolding unary_bounds
returns c = λ x e.
    let b = seen c.args.operand in
    made _ c.typed-kind.result (typed (row c.args.span (unary_type c.args.op x.kind))) 1 0 c.saturating_add.result 1 0 (1 + x.steps) c.new.ensures
    (c.typed-kind.ensures ∙ ap typed (c.row.ensures ∙ ap (row c.args.span) (c.unary_type.ensures ∙ ap (unary_type c.args.op) (kind_of b x e))))
    refl refl (one_more _ _ _ c.saturating_add.ensures (steps_of b x e))
