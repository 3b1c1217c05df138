use Rattle.node_inputs.proofs.Keys.{key_found}
use Rattle.node_inputs.proofs.wanted.claim_at.Goals as goal

pub returns-clause-key : goal.returns-clause-key
returns-clause-key c = key_found c.get_key_value.result c.args.key.now c.get_key_value.ensures.same_key
