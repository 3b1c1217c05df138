use Rattle.std.proofs.Common.{rules, ◌∙◌, ap}
use Rattle.api_claim.specs.declared.types.ResourceClaim.{ResourceClaim}
use Rattle.plan_rules.specs.Failing.{failing_results}
use Rattle.alloc_rules.proofs.Checked.{status_there}
use Rattle.alloc_rules.proofs.Lists.{if_ok}
use Rattle.alloc_rules.proofs.checking.check_status.Goals as goal

pub returns : goal.returns
returns c =
    if_ok _ _ c.failing_write.result
    (λ found e. status_there c.args.state.now c.args.claim.now c.in-Some.found.now c.args.status.now found (search rules) (e ∙ ap (λ (x : ResourceClaim). failing_results c.args.state.now c.args.claim.now x c.args.status.now) c.deref.ensures)) c.failing_write.ensures
