use Rattle.histories.proofs.Adopting.{adoption_at}
use Rattle.histories.proofs.headline.adoptions_are_allocations.Goals as goal

pub returns : goal.returns
returns c = adoption_at c.checked_is_allocation.ensures.status
