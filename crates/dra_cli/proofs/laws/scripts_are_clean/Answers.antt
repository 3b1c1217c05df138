use Rattle.dra_cli.proofs.Script.{script_is}
use Rattle.dra_cli.proofs.laws.scripts_are_clean.Goals as goal

pub returns-clause-commands : goal.returns-clause-commands
returns-clause-commands c = λ attempts from pods few. (script_is c.documents_are_commands.ensures c.scripts_are_inputs.ensures.documents attempts from pods few).commands

pub returns-clause-ending : goal.returns-clause-ending
returns-clause-ending c = λ attempts from pods few. (script_is c.documents_are_commands.ensures c.scripts_are_inputs.ensures.documents attempts from pods few).ends
