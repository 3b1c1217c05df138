use Rattle.request_rules.proofs.GrowthDrawn.{matched_same}
use Rattle.request_rules.proofs.growth.matches_are_by_selectors.Goals as goal

pub returns : goal.returns
returns c = matched_same
