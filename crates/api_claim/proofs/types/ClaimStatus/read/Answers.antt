use Rattle.std.proofs.Common.{rules}
use Rattle.serde_json.specs.View.{view}
use Rattle.api_claim.proofs.types.ClaimStatus.read.Goals as goal

pub invariant_of-result : goal.invariant_of-result
invariant_of-result c = c.limits_are_kept.ensures.status (view c.args.value.now) _ (Prim.search rules)
