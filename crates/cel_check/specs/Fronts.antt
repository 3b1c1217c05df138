-- What was found in a prefix of a list, and one more.
use Rattle.std.specs.Prelude.{Option, Some, None}
use Rattle.cel_tree.specs.declared.types.Scalar.{Scalar}
use Rattle.cel_tree.specs.declared.types.CelType.{CelType}
use Rattle.cel_tree.specs.declared.calls.Arguments.{Arguments}
use Rattle.cel_tree.specs.declared.calls.Arguments.TheVariants as arguments
use Rattle.cel_tree.specs.Faults.{joined}

abbrev pub with_last : Arguments → CelType → Arguments
with_last arguments.None k = arguments.One k
with_last (arguments.One l) k = arguments.Two l k
with_last (arguments.Two l m) k = arguments.Many
with_last arguments.Many k = arguments.Many

abbrev pub also : Option Scalar → Scalar → Scalar
also None s = s
also (Some found) s = joined found (Some s)
