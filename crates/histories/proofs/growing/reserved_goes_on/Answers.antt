use Rattle.histories.proofs.GoingOn.{goes_on}
use Rattle.histories.proofs.growing.reserved_goes_on.Goals as goal

pub returns : goal.returns
returns c = goes_on
