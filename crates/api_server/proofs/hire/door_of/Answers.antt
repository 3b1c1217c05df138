use Rattle.api_server.proofs.Hiring.{only_one}
use Rattle.api_server.proofs.hire.door_of.Goals as goal

pub returns : goal.returns
returns g c = only_one (λ w. w.door) _ _ _ c.in-Some.ensures.items c.requires
