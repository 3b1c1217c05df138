use Rattle.std.proofs.Common.{refl}
use Rattle.walk.specs.Walk.{Full}
use Rattle.request_rules.specs.Problem.{problem_of}
use Rattle.request_rules.proofs.Meant.{meant_of, meant_from}
use Rattle.request_rules.proofs.laws.walk_is_meant.Goals as goal

pub returns-clause-full : goal.returns-clause-full
returns-clause-full c = λ w x h m. meant_of w x.choice x.positions c.tolerations_are_by_facts.ensures.all_fit (c.walk_is_exact.ensures.full (problem_of w) x h m)

pub returns-clause-every : goal.returns-clause-every
returns-clause-every c = λ w k rs a.
    let r = meant_from w k rs c.tolerations_are_by_facts.ensures.only_all a in
    (r.0, r.1, c.walk_is_exact.ensures.every (problem_of w) k r.0 r.2)

pub returns-clause-meant : goal.returns-clause-meant
returns-clause-meant c = λ w k l a. meant_of w k l c.tolerations_are_by_facts.ensures.all_fit a

pub returns-clause-placed : goal.returns-clause-placed
returns-clause-placed c = λ w k rs a. meant_from w k rs c.tolerations_are_by_facts.ensures.only_all a

pub returns-clause-least : goal.returns-clause-least
returns-clause-least c = λ w x k rs f a.
    let r = meant_from w k rs c.tolerations_are_by_facts.ensures.only_all a in
    (record { choice = k; positions = r.0; mark = Full }, refl, r.1, c.walk_is_exact.ensures.least (problem_of w) x (record { choice = k; positions = r.0; mark = Full }) f r.2 refl)

pub returns-clause-none : goal.returns-clause-none
returns-clause-none c = λ w k rs f a.
    let r = meant_from w k rs c.tolerations_are_by_facts.ensures.only_all a in
    c.walk_is_exact.ensures.none (problem_of w) k r.0 f r.2
