use Rattle.histories.proofs.Reserving.{conflict_reserved, wrote_reserved}
use Rattle.histories.proofs.headline.versions_are_reserved.Goals as goal

pub returns-clause-wrote : goal.returns-clause-wrote
returns-clause-wrote c = wrote_reserved c.same_is_equal.ensures.claims

pub returns-clause-conflict : goal.returns-clause-conflict
returns-clause-conflict c = conflict_reserved c.same_is_equal.ensures.claims
