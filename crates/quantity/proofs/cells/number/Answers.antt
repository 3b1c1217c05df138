use Rattle.std.proofs.Common.{arith, ℕ, ◌≡◌, ◌<◌, ◌+◌, ◌-◌, Err}
use Rattle.std.specs.Prelude.{Result}
use Rattle.std.proofs.lemmas.Bool.Decides.{nat_tests}
use Rattle.quantity.specs.Value.{up_to_most}
use Rattle.quantity.specs.Range.{most}
use Rattle.quantity.specs.declared.error.QuantityError.{QuantityError}
use Rattle.quantity.specs.declared.error.QuantityError.TheVariants.{OutOfRange}
use Rattle.quantity.proofs.CellLemmas.{value_of-drop, value_of-drop-le}
use Rattle.quantity.proofs.cells.number.Goals as goal

over_most : (n : ℕ) → most < n → ◌≡◌ {A = Result ℕ QuantityError} (Err OutOfRange) (up_to_most n)
over_most n h = grind (arith, nat_tests)

pub returns-then-number-gt-MOST : goal.returns-then-number-gt-MOST
returns-then-number-gt-MOST c =
    let at = c.loop-at.at - 1 in
    let one : at + 1 ≡ c.loop-at.at = omega (arith, c.loop-at-test.true) in
    over_most _ (omega (arith, rw one at (value_of-drop at c.args.cells.now (omega (arith, c.loop-at-test.true, c.loop-at.invariant.within))), value_of-drop-le at c.args.cells.now))
