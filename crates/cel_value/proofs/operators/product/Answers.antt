use Rattle.std.proofs.Common.{ap, ◌∙◌}
use Rattle.cel_value.specs.Values.{whole}
use Rattle.cel_value.proofs.Wide.{wide_product}
use Rattle.cel_value.proofs.operators.product.Goals as goal

pub returns : goal.returns
returns c = c.whole.ensures ∙ ap whole (wide_product c.args.left c.args.right c.ranges.left c.ranges.right)
