use Rattle.std.proofs.Common.{◌∙◌, ◌+◌, ◌*◌, ℕ, ap, min, arith}
use Rattle.http_wire.proofs.Numbers.{number_goes}
use Rattle.http_wire.proofs.fields.number_within.Goals as goal

pub loop-digit-preserved : goal.loop-digit-preserved
loop-digit-preserved c = record {
  bound = omega (arith, c.min-number.ensures);
  rest = number_goes 2097153 c.args.digits.now c.loop-digit.digit-index c.loop-digit.number c.min-number.result (omega arith) (c.min-number.ensures ∙ ap (λ (k : ℕ). min (c.loop-digit.number * 10 + k) 2097153) (c.from-value.ensures ∙ c.saturating_sub.ensures)) ∙ c.loop-digit.invariant.rest;
}
