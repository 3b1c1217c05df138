use Rattle.device_taints.proofs.Facts.{all_fit, fits, only, only_all}
use Rattle.device_taints.proofs.tolerating.tolerations_are_by_facts.Goals as goal

pub returns-clause-fits : goal.returns-clause-fits
returns-clause-fits c = fits

pub returns-clause-only : goal.returns-clause-only
returns-clause-only c = only

pub returns-clause-all_fit : goal.returns-clause-all_fit
returns-clause-all_fit c = all_fit

pub returns-clause-only_all : goal.returns-clause-only_all
returns-clause-only_all c = only_all
