use Rattle.std.proofs.Common.{subst}
use Rattle.cluster.specs.declared.entry.Event.TheVariants.{VerdictGiven, Reserved}
use Rattle.cluster.specs.History.{state_at}
use Rattle.plan_rules.specs.Plans.{PlanBy, VerdictBy}
use Rattle.replay_core.proofs.Searched.{entry_tells, part_tells}
use Rattle.replay_core.proofs.laws.runs_search_within.Goals as goal

pub returns-clause-plans : goal.returns-clause-plans
returns-clause-plans c = λ budget commands prefix back job pod plan run.
    let tells = entry_tells budget commands prefix (record { job = job; event = Reserved pod plan }) back run in
    subst (λ b. PlanBy (state_at prefix plan.at) pod b plan) tells.1 tells.2.by

pub returns-clause-verdicts : goal.returns-clause-verdicts
returns-clause-verdicts c = λ budget commands prefix back job pod verdict run.
    let tells = entry_tells budget commands prefix (record { job = job; event = VerdictGiven pod verdict }) back run in
    subst (λ b. VerdictBy (state_at prefix verdict.at) pod b verdict) tells.1 tells.2.by

pub returns-clause-part_plans : goal.returns-clause-part_plans
returns-clause-part_plans c = λ budget n commands more before segment prefix back job pod plan run begun is.
    let tells = part_tells budget n commands more before segment prefix (record { job = job; event = Reserved pod plan }) back run begun is in
    subst (λ b. PlanBy (state_at prefix plan.at) pod b plan) tells.1 tells.2.by

pub returns-clause-part_verdicts : goal.returns-clause-part_verdicts
returns-clause-part_verdicts c = λ budget n commands more before segment prefix back job pod verdict run begun is.
    let tells = part_tells budget n commands more before segment prefix (record { job = job; event = VerdictGiven pod verdict }) back run begun is in
    subst (λ b. VerdictBy (state_at prefix verdict.at) pod b verdict) tells.1 tells.2.by
