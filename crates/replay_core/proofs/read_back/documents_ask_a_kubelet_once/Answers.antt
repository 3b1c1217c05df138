use Rattle.replay_core.proofs.OneOfKubelet.{asks_once}
use Rattle.replay_core.proofs.read_back.documents_ask_a_kubelet_once.Goals as goal

pub returns : goal.returns
returns c = asks_once
