use Rattle.histories.proofs.Busy.{busy_release, busy_schedule}
use Rattle.histories.proofs.headline.busy_is_another.Goals as goal

pub returns-clause-schedule : goal.returns-clause-schedule
returns-clause-schedule c = busy_schedule

pub returns-clause-release : goal.returns-clause-release
returns-clause-release c = busy_release
