use Rattle.histories.proofs.Headlines.{denial_at, denial_kept}
use Rattle.histories.proofs.headline.denials_change_nothing.Goals as goal

pub returns-clause-due : goal.returns-clause-due
returns-clause-due c = denial_at

pub returns-clause-kept : goal.returns-clause-kept
returns-clause-kept c = denial_kept
