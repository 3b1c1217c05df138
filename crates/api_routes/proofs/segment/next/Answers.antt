use Rattle.std.proofs.Common.{rules}
use Rattle.api_routes.proofs.Segments.{split_first, split_none}
use Rattle.api_routes.proofs.segment.next.Goals as goal

pub returns-in-Some : goal.returns-in-Some
returns-in-Some c = split_first _ _ _ (search rules) (search rules) (search rules)

pub returns-in-None : goal.returns-in-None
returns-in-None c = split_none _ (search rules)
