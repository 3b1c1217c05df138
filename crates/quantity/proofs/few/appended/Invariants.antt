use Rattle.std.proofs.Common.{◌≡◌, ◌≤◌, ◌+◌, ◌*◌, ◌^◌, drop, length}
use Rattle.quantity.specs.Value.{digits_value, AreDigits}
use Rattle.quantity.proofs.few.appended.Given as goal

abbrev pub invariant-loop-digit : goal.invariant-loop-digit
invariant-loop-digit l = record {
  room : (l.number + 1) * 10 ^ length (drop l.digit-index l.digits) ≤ 10 ^ 10;
  rest : AreDigits (drop l.digit-index l.digits);
  value : l.number * 10 ^ length (drop l.digit-index l.digits) + digits_value (drop l.digit-index l.digits)
      ≡ l.fn.number * 10 ^ length l.digits + digits_value l.digits;
}
