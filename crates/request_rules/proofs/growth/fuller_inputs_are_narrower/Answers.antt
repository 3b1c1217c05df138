use Rattle.request_rules.specs.Problem.{problem_of}
use Rattle.request_rules.proofs.GrowthGood.{narrower_by}
use Rattle.request_rules.proofs.growth.fuller_inputs_are_narrower.Goals as goal

pub returns-clause-narrower : goal.returns-clause-narrower
returns-clause-narrower c = narrower_by

pub returns-clause-unsat : goal.returns-clause-unsat
returns-clause-unsat c = λ v w b h e. c.narrower_walks_are_parts.ensures.unsat (problem_of v) (problem_of w) b (narrower_by v w h) e
