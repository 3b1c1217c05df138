use Rattle.std.proofs.Common.{◌≡◌, ◌++◌, map}
use Rattle.cel_value.specs.declared.value.Single.TheVariants as single
use Rattle.cel_value.proofs.lookups.singles.Given as goal

abbrev pub invariant-loop-text : goal.invariant-loop-text
invariant-loop-text l = l.singles ++ map single.Text l.text-iterator.rest.items ≡ map single.Text l.fn.texts
