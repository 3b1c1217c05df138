use Rattle.histories.proofs.Headlines.{grant_at}
use Rattle.histories.proofs.headline.grants_are_allocations.Goals as goal

pub returns : goal.returns
returns c = grant_at
