use Rattle.std.proofs.Common.{◌≡◌, ◌<◌, arith, ℕ, Option, None, Some, if◌then◌else◌, nat_le}
use Rattle.std.proofs.lemmas.Bool.Decides.{nat_tests}
use Rattle.quantity.proofs.CellLemmas.{push_step, AreDigits-at}
use Rattle.quantity.proofs.NumberLemmas.{at_least}
use Rattle.quantity.proofs.text.small_number.Goals as goal

over_18 : (n : ℕ) → 18 < n → ◌≡◌ {A = Option ℕ} None (if nat_le n 18 then Some n else None)
over_18 n h = grind (arith, nat_tests)

pub returns-then-number-gt18 : goal.returns-then-number-gt18
returns-then-number-gt18 c =
    let step = push_step _ _ c.loop-digit.digit-index c.args.digits.now c.loop-digit-test.true c.loop-digit.invariant.value in
    over_18 _ (omega (arith, at_least _ _ _ _ step, c.from.ensures, c.if-number-gt18.true))

pub loop-digit-preserved : goal.loop-digit-preserved
loop-digit-preserved c =
    let digit = AreDigits-at c.loop-digit.digit-index c.args.digits.now c.loop-digit-test.true c.loop-digit.invariant.rest in
    record {
      small = c.if-number-gt18.false;
      rest = digit.2;
      value = rw c.from.ensures (push_step _ _ c.loop-digit.digit-index c.args.digits.now c.loop-digit-test.true c.loop-digit.invariant.value);
    }
