use Rattle.std.proofs.Common.{refl}
use Rattle.cel_cost.proofs.Capping.{made}
use Rattle.cel_tree.specs.Estimate.{constant_bounds, constant_weight}
use Rattle.cel_tree.specs.Typing.{constant_type}
use Rattle.cel_tree.specs.Ast.{constant_view}
use Rattle.cel_cost.proofs.bounds.literal_bounds.Goals as goal

pub returns : goal.returns
unfolding constant_bounds
returns c =
    let l = constant_view c.args.literal.now in
    made _ c.literal_type.result (constant_type l) c.literal_weight.result 0 1 (constant_weight l) 0 1 c.new.ensures c.literal_type.ensures c.literal_weight.ensures refl refl
