use Rattle.std.proofs.Common.{◌≡◌, ◌-◌, arith, get_or, rules}
use Rattle.quantity.specs.Cells.{value_of}
use Rattle.quantity.proofs.CellLemmas.{push_step, AreDigits-at, length-drop_more, fits_step, room_next}
use Rattle.quantity.proofs.cells.push_digits.Goals as goal

pub scale-requires-clause-fits : goal.scale-requires-clause-fits
scale-requires-clause-fits c =
    let digit = AreDigits-at c.loop-digit.digit-index c.args.digits.now c.loop-digit-test.true c.loop-digit.invariant.rest in
    fits_step _ _ _ _ (omega (arith, digit.0, digit.1)) (length-drop_more c.loop-digit.digit-index c.args.digits.now c.loop-digit-test.true) c.loop-digit.invariant.room

pub loop-digit-preserved : goal.loop-digit-preserved
loop-digit-preserved c =
    let digit = AreDigits-at c.loop-digit.digit-index c.args.digits.now c.loop-digit-test.true c.loop-digit.invariant.rest in
    let added : c.from.result ≡ get_or c.args.digits.now c.loop-digit.digit-index 0 - 48 = search rules in
    record {
      cells = c.scale.ensures.cells;
      room = room_next (value_of c.loop-digit.cells) _ _ _ _ _ _ (omega (arith, digit.0, digit.1)) (length-drop_more c.loop-digit.digit-index c.args.digits.now c.loop-digit-test.true) c.scale.ensures.value c.scale.auto.cells c.loop-digit.invariant.room;
      rest = digit.2;
      value = rw (c.scale.ensures.value, added) (push_step _ _ c.loop-digit.digit-index c.args.digits.now c.loop-digit-test.true c.loop-digit.invariant.value);
    }
