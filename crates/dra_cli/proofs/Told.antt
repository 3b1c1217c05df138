-- What a run states about its options.
use Rattle.std.proofs.Common.{ℕ, ◌≡◌, List, subst}
use Rattle.std.proofs.lemmas.List.Elements.{All-contains}
use Rattle.object_fields.specs.declared.key.Key.{Key}
use Rattle.api_cluster.specs.declared.types.Pod.{Pod}
use Rattle.cluster.specs.declared.plan.Cause.{Cause}
use Rattle.cluster.specs.declared.plan.Cause.TheVariants as cause
use Rattle.cluster.specs.declared.plan.Passed.{Passed}
use Rattle.cluster.specs.declared.plan.Reason.{Reason}
use Rattle.cluster.specs.declared.plan.Reason.TheVariants as reason
use Rattle.cluster.specs.declared.plan.Verdict.{Verdict}
use Rattle.cluster.specs.declared.state.State.{State}
use Rattle.plan_rules.specs.Plans.{CauseBy, ReasonBy, VerdictBy}
use Rattle.dra_cli.specs.Headline.{NamesBudget}

-- the steps of a search that reached its budget are the budget
cause_names : (s : State) (pod : Pod) (budget : ℕ) (node : List ℕ) (c : Cause) (steps : ℕ) → CauseBy s pod budget node c → c ≡ cause.Budget steps → steps ≡ budget
cause_names s pod budget node c steps by is = (subst (λ (x : Cause). CauseBy s pod budget node x) is by).0

reason_names : (s : State) (pod : Pod) (budget : ℕ) (r : Reason) → ReasonBy s pod budget r → NamesBudget budget r
reason_names s pod budget (reason.Missing claim) by = tt
reason_names s pod budget (reason.Users claim) by = tt
reason_names s pod budget (reason.Nodes nodes) by = λ p steps among is. cause_names s pod budget p.node p.cause steps (All-contains (λ (x : Passed). CauseBy s pod budget x.node x.cause) nodes p by among) is

pub verdict_names : (s : State) (pod : Key) (budget : ℕ) (verdict : Verdict) → VerdictBy s pod budget verdict → NamesBudget budget verdict.reason
verdict_names s pod budget verdict by = reason_names s by.state.pod.object budget verdict.reason by.reason
