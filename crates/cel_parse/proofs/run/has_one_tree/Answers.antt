use Rattle.cel_parse.proofs.Exact.{one_tree}
use Rattle.cel_parse.proofs.run.has_one_tree.Goals as goal

pub returns : goal.returns
returns c = one_tree
