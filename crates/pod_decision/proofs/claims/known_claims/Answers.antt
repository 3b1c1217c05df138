use Rattle.std.specs.Option.{option_copied}
use Rattle.pod_decision.proofs.Gathering.{known_more}
use Rattle.pod_decision.proofs.claims.known_claims.Goals as goal

pub loop-claim-preserved : goal.loop-claim-preserved
loop-claim-preserved c =
    known_more c.args.state.now c.args.claims.now c.loop-claim.claim-index c.claim-item.result (option_copied c.get.result) c.loop-claim.known c.push_known.new.known _ c.loop-claim-test.true c.claim-item.is c.get.ensures
    c.in_ok-push_known.ensures c.loop-claim.invariant
