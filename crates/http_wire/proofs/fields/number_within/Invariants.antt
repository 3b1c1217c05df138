use Rattle.std.proofs.Common.{◌≡◌, ◌≤◌, drop}
use Rattle.http_wire.specs.Firsts.{number_within}
use Rattle.http_wire.proofs.fields.number_within.Given as goal

abbrev pub invariant-loop-digit : goal.invariant-loop-digit
invariant-loop-digit l = record {
  bound : l.number ≤ 2097153;
  rest : number_within l.number (drop l.digit-index l.digits) ≡ number_within 0 l.digits;
}
