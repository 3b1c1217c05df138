use Rattle.std.proofs.Common.{ap, ◌∙◌}
use Rattle.cel_value.specs.Values.{whole}
use Rattle.cel_value.proofs.Wide.{wide_quotient, not_zero}
use Rattle.cel_value.proofs.operators.quotient.Goals as goal

pub returns-else-right-eq0 : goal.returns-else-right-eq0
returns-else-right-eq0 c =
    rw (not_zero c.args.right c.if-right-eq0.false)
    (c.whole.ensures ∙ ap whole (wide_quotient c.args.left c.args.right c.ranges.left c.ranges.right))
