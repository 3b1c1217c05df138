use Rattle.std.proofs.Common.{rules, ◌∙◌, Some, ap, sym}
use Rattle.object_fields.specs.declared.key.Key.{Key}
use Rattle.cluster.specs.declared.failure.Failure.TheVariants.{ClaimChanged}
use Rattle.plan_rules.specs.Known.{claim_gone}
use Rattle.alloc_rules.proofs.Checked.{claim_first, pod_gone, pod_there}
use Rattle.alloc_rules.proofs.Lists.{if_ok}
use Rattle.alloc_rules.proofs.checking.check.Goals as goal

pub returns-in-Some : goal.returns-in-Some
returns-in-Some c = claim_first c.args.state.now c.args.pod.now c.args.plan.now c.in-Some.found (sym c.in-Some.is ∙ c.in_ok-found.ensures ∙ ap (claim_gone c.args.state.now) c.as_slice.ensures)

pub returns-in_ok-copy-in-None : goal.returns-in_ok-copy-in-None
returns-in_ok-copy-in-None c =
    ap (λ (k : Key). Some (ClaimChanged k)) c.in_ok-copy-in-None.ensures
    ∙ pod_gone c.args.state.now c.args.pod.now c.args.plan.now (sym c.in_default.is ∙ c.in_ok-found.ensures ∙ ap (claim_gone c.args.state.now) c.as_slice.ensures) (search rules)

pub returns-in-Some-get : goal.returns-in-Some-get
returns-in-Some-get c =
    if_ok _ _ c.failing_for.result
    (λ found e. pod_there c.args.state.now c.args.pod.now c.in-Some-get.found.now c.args.plan.now found (sym c.in_default.is ∙ c.in_ok-found.ensures ∙ ap (claim_gone c.args.state.now) c.as_slice.ensures) (search rules) e) c.failing_for.ensures
