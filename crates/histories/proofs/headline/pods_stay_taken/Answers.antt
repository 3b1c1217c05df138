use Rattle.histories.proofs.Taken.{stay_taken}
use Rattle.histories.proofs.headline.pods_stay_taken.Goals as goal

pub returns : goal.returns
returns c = stay_taken
