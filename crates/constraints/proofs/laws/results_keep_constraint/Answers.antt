use Rattle.constraints.proofs.Kept.{agreed, kept}
use Rattle.constraints.proofs.laws.results_keep_constraint.Goals as goal

pub returns-clause-kept : goal.returns-clause-kept
returns-clause-kept c = kept

pub returns-clause-agreed : goal.returns-clause-agreed
returns-clause-agreed c = agreed
