use Rattle.std.proofs.Common.{◌∙◌, sym}
use Rattle.serde_json.specs.View.{view}
use Rattle.commands.proofs.Documents.{no_text_is, object_is, text_is}
use Rattle.commands.proofs.read.read_object.Goals as goal

pub returns-in_default-clause-fails : goal.returns-in_default-clause-fails
returns-in_default-clause-fails c = no_text_is _ c.in_default.ensures.cases.0

pub returns-then-is_object-clause-value : goal.returns-then-is_object-clause-value
returns-then-is_object-clause-value c =
    let is = rw c.in-Ok.ensures.cases.0 at c.in-Ok-from_str.ensures.ok in
    text_is _ _ c.in-Ok.ensures.cases.1 is ∙ object_is (view c.in-Ok-from_str.value) (sym c.is_object.ensures ∙ c.if-is_object.true)
