use Rattle.std.proofs.Common.{arith}
use Rattle.std.proofs.lemmas.Grind.{common_steps}
use Rattle.quantity.specs.Printed.{magnitude_text}
use Rattle.quantity.proofs.print.write_magnitude.Goals as goal

pub returns : goal.returns
unfolding magnitude_text
returns g c = grind (arith, common_steps)
