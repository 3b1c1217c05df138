use Rattle.std.proofs.Common.{◌≡◌, [], ◌∷◌, ◌++◌, codes, sym}
use Rattle.serde_json.specs.View.{view}
use Rattle.object_fields.specs.Fields.{object_at}
use Rattle.object_fields.specs.declared.path.Step.TheVariants.{Member}
use Rattle.api_claim.specs.Status.{allocation_in}
use Rattle.api_claim.proofs.Readings.{behind}
use Rattle.api_claim.proofs.status.read_allocation.Goals as goal

pub returns : goal.returns
returns c =
    let at : c.args.path.now ++ Member (codes "allocation") ∷ [] ≡ c.member-path.result = sym c.member-path.ensures in
    behind c.read_parts.result (object_at c.args.path.now (codes "allocation") (view c.args.status.now)) (view c.in_ok-allocation.allocation.now) _ _ allocation_in c.in_ok-allocation.ensures at c.read_parts.ensures
