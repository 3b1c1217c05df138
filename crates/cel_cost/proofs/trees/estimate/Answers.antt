use Rattle.std.proofs.Common.{[], refl, ap, ◌∙◌}
use Rattle.cel_tree.specs.Ast.{Ast}
use Rattle.cel_tree.specs.Estimate.{Estimate}
use Rattle.cel_cost.specs.Capped.{seen}
use Rattle.cel_cost.proofs.Capping.{steps_of}
use Rattle.cel_cost.proofs.trees.estimate.Goals as goal

pub returns : goal.returns
returns c = steps_of (seen c.bounds_of.result) _ (c.bounds_of.ensures [] refl) ∙ ap (λ (t : Ast). Estimate t) c.tree.ensures.tree
