use Rattle.std.proofs.Common.{map}
use Rattle.std.specs.Prelude.{string_bytes}
use Rattle.dra_cli.proofs.Asked.{fits_by}
use Rattle.dra_cli.proofs.task.asked.Goals as goal

pub returns-in-Some-clause-fit : goal.returns-in-Some-clause-fit
returns-in-Some-clause-fit c = fits_by (map string_bytes c.args.words.now) c.in_ok-command.field-0 c.in-Some.command c.task_of.result c.in_ok-command.ensures.usage c.in-Some.is c.task_of.ensures
