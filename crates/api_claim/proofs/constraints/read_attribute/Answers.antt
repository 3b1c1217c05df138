use Rattle.std.proofs.Common.{codes, sym}
use Rattle.serde_json.specs.View.{view}
use Rattle.object_fields.specs.Fields.{text_at}
use Rattle.api_claim.specs.Constraints.{full_name_in}
use Rattle.api_claim.proofs.Readings.{behind}
use Rattle.api_claim.proofs.constraints.read_attribute.Goals as goal

pub returns : goal.returns
returns c =
    behind c.read_full_name.result (text_at c.args.path.now (codes "matchAttribute") (view c.args.constraint.now)) c.in_ok-text.text.now _ _ full_name_in c.in_ok-text.ensures (sym c.member-path.ensures) c.read_full_name.ensures
