use Rattle.cluster.proofs.state.State.is_found.Goals as goal

pub returns-in-Claim : goal.returns-in-Claim
returns-in-Claim c = rw c.in-Claim.is c.contains_key-in-Claim.ensures

pub returns-in-Pod : goal.returns-in-Pod
returns-in-Pod c = rw c.in-Pod.is c.contains_key-in-Pod.ensures
