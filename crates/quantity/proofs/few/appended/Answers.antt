use Rattle.std.proofs.Common.{◌≡◌, ◌-◌, arith, get_or, refl, rules}
use Rattle.quantity.proofs.CellLemmas.{push_step, AreDigits-at, length-drop_more, fits_step, room_next}
use Rattle.quantity.proofs.few.appended.Goals as goal

pub overflow_mul-number : goal.overflow_mul-number
overflow_mul-number c =
    let digit = AreDigits-at c.loop-digit.digit-index c.args.digits.now c.loop-digit-test.true c.loop-digit.invariant.rest in
    let below = fits_step c.loop-digit.number (get_or c.args.digits.now c.loop-digit.digit-index 0 - 48) _ _ (omega (arith, digit.0, digit.1)) (length-drop_more c.loop-digit.digit-index c.args.digits.now c.loop-digit-test.true) c.loop-digit.invariant.room in
    omega (arith, below)

pub overflow_add-number : goal.overflow_add-number
overflow_add-number c =
    let digit = AreDigits-at c.loop-digit.digit-index c.args.digits.now c.loop-digit-test.true c.loop-digit.invariant.rest in
    let added : c.from.result ≡ get_or c.args.digits.now c.loop-digit.digit-index 0 - 48 = search rules in
    let below = fits_step c.loop-digit.number (get_or c.args.digits.now c.loop-digit.digit-index 0 - 48) _ _ (omega (arith, digit.0, digit.1)) (length-drop_more c.loop-digit.digit-index c.args.digits.now c.loop-digit-test.true) c.loop-digit.invariant.room in
    omega (arith, below, added)

pub loop-digit-preserved : goal.loop-digit-preserved
loop-digit-preserved c =
    let digit = AreDigits-at c.loop-digit.digit-index c.args.digits.now c.loop-digit-test.true c.loop-digit.invariant.rest in
    let added : c.from.result ≡ get_or c.args.digits.now c.loop-digit.digit-index 0 - 48 = search rules in
    record {
      room = room_next c.loop-digit.number (c.from.result) _ _ _ 10 10 (omega (arith, added, digit.0, digit.1)) (length-drop_more c.loop-digit.digit-index c.args.digits.now c.loop-digit-test.true) refl refl c.loop-digit.invariant.room;
      rest = digit.2;
      value = rw added (push_step _ _ c.loop-digit.digit-index c.args.digits.now c.loop-digit-test.true c.loop-digit.invariant.value);
    }
