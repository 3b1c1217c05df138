use Rattle.serde_json.specs.View.{view}
use Rattle.commands.proofs.Documents.{asks_is, json_fails, refused_is}
use Rattle.commands.proofs.read.read_document.Goals as goal

pub returns-in-Err-clause-fails : goal.returns-in-Err-clause-fails
returns-in-Err-clause-fails c = json_fails c.args.attempts c.args.bytes.now c.in-Err.error c.in-Err.ensures.fails

pub returns-in-Ok-Some-clause-given : goal.returns-in-Ok-Some-clause-given
returns-in-Ok-Some-clause-given c =
    rw c.into_vec.ensures (asks_is c.args.attempts c.args.bytes.now (view c.in-Ok.value) c.in-Ok-Some.field-0 c.in-Ok-Some.given c.in-Ok.ensures.value c.in-Ok-Some.ensures c.in-Ok-Some.field-0-is)

pub returns-in-Ok-None-clause-fails : goal.returns-in-Ok-None-clause-fails
returns-in-Ok-None-clause-fails c =
    refused_is c.args.attempts c.args.bytes.now (view c.in-Ok.value) c.in-Ok-None.field-0 c.in-Ok.ensures.value c.in-Ok-None.ensures c.in-Ok-None.field-0-is
