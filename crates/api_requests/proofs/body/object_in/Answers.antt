use Rattle.std.proofs.Common.{◌∙◌, sym}
use Rattle.serde_json.specs.View.{view}
use Rattle.api_requests.proofs.Documents.{no_text_is, object_is, text_is}
use Rattle.api_requests.proofs.body.object_in.Goals as goal

pub returns-in_default : goal.returns-in_default
returns-in_default c = sym (no_text_is _ c.in_default.ensures.cases.0)

pub returns-then-is_object : goal.returns-then-is_object
returns-then-is_object c =
    let is = rw c.in-Ok.ensures.cases.0 at c.in-Ok-from_str.ensures.ok in
    sym (text_is _ _ c.in-Ok.ensures.cases.1 is ∙ object_is (view c.in-Ok-from_str.value) (sym c.is_object.ensures ∙ c.if-is_object.true))
