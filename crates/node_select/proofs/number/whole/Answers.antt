use Rattle.std.proofs.Common.{◌∙◌}
use Rattle.node_select.proofs.Numbers.{whole_is}
use Rattle.node_select.proofs.number.whole.Goals as goal

pub returns : goal.returns
returns c = c.ok.ensures.value ∙ whole_is c.args.text.now c.parse.result c.parse.ensures.value.0
