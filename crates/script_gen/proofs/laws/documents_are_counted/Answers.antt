use Rattle.script_gen.proofs.Counted.{least, most}
use Rattle.script_gen.proofs.laws.documents_are_counted.Goals as goal

pub returns-clause-least : goal.returns-clause-least
returns-clause-least c = least

pub returns-clause-most : goal.returns-clause-most
returns-clause-most c = most
