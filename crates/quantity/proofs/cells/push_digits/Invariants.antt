use Rattle.std.proofs.Common.{◌≡◌, ◌≤◌, ◌+◌, ◌*◌, ◌^◌, drop, length}
use Rattle.quantity.specs.Cells.{AreCells, value_of}
use Rattle.quantity.specs.Value.{digits_value, AreDigits}
use Rattle.quantity.proofs.cells.push_digits.Given as goal

abbrev pub invariant-loop-digit : goal.invariant-loop-digit
invariant-loop-digit l = record {
  cells : AreCells l.cells;
  room : (value_of l.cells + 1) * 10 ^ length (drop l.digit-index l.digits) ≤ 10 ^ length l.cells;
  rest : AreDigits (drop l.digit-index l.digits);
  value : value_of l.cells * 10 ^ length (drop l.digit-index l.digits) + digits_value (drop l.digit-index l.digits)
      ≡ value_of l.fn.cells * 10 ^ length l.digits + digits_value l.digits;
}
