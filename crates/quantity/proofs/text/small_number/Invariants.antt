use Rattle.std.proofs.Common.{◌≡◌, ◌≤◌, ◌+◌, ◌*◌, ◌^◌, drop, length}
use Rattle.quantity.specs.Value.{digits_value, AreDigits}
use Rattle.quantity.proofs.text.small_number.Given as goal

abbrev pub invariant-loop-digit : goal.invariant-loop-digit
invariant-loop-digit l = record {
  small : l.number ≤ 18;
  rest : AreDigits (drop l.digit-index l.digits);
  value : l.number * 10 ^ length (drop l.digit-index l.digits) + digits_value (drop l.digit-index l.digits) ≡ digits_value l.digits;
}
