use Rattle.std.proofs.Common.{refl}
use Rattle.cel_tree.specs.Estimate.{kinds}
use Rattle.cel_cost.proofs.TypesOfBounds.{kind_is}
use Rattle.cel_cost.proofs.laws.bounds_have_the_type.Goals as goal

pub returns : goal.returns
returns c = λ names t k d. kind_is names (kinds names) refl t k d
