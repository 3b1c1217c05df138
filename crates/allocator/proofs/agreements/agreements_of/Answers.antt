use Rattle.std.proofs.Common.{ap, ◌∙◌}
use Rattle.api_claim.specs.declared.types.ResourceClaim.{ResourceClaim}
use Rattle.allocator.proofs.Constraining.{claims_step}
use Rattle.allocator.proofs.agreements.agreements_of.Goals as goal

pub loop-claim-preserved : goal.loop-claim-preserved
loop-claim-preserved c =
    let same =
    c.as_slice-constraints.ensures
    ∙ ap (λ (r : ResourceClaim). r.constraints) c.behind-ready.view_is
    ∙ ap (λ (r : ResourceClaim). r.constraints) c.claim.ensures.value
    ∙ ap (λ (r : ResourceClaim). r.constraints) c.wanted.view_is in
    λ v. claims_step v c.args.claims.now c.loop-claim.claim c.index-claims-claim.result c.as_slice-constraints.result.now c.loop-claim.agreements.items c.add_agreements.new.agreements.items
    c.loop-claim-test.true c.index-claims-claim.is same c.in_ok-add_agreements.ensures (c.loop-claim.invariant v)
