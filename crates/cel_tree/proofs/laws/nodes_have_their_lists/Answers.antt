use Rattle.cel_tree.proofs.Rows.{call_of, method_of, list_of, map_of}
use Rattle.cel_tree.proofs.laws.nodes_have_their_lists.Goals as goal

pub returns : goal.returns
returns c = record { call = call_of; method = method_of; list = list_of; map = map_of }
