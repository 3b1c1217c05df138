use Rattle.cel_tree.proofs.Typing.{one_type}
use Rattle.cel_tree.proofs.laws.has_one_type.Goals as goal

pub returns : goal.returns
returns c = λ names t k l h i. one_type h i
