use Rattle.script_commands.proofs.Script.{script_asks}
use Rattle.script_commands.proofs.laws.documents_are_commands.Goals as goal

pub returns : goal.returns
returns c = script_asks c.documents_are_counted.ensures.earlier
