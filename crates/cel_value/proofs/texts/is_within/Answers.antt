use Rattle.std.proofs.Common.{◌∙◌, sym}
use Rattle.cel_value.proofs.Within.{next_byte}
use Rattle.cel_value.proofs.texts.is_within.Goals as goal

pub loop-from-preserved : goal.loop-from-preserved
loop-from-preserved c =
    next_byte c.args.text.now c.args.part.now c.loop-from.from c.loop-from-test.true (sym c.begins.ensures ∙ c.if-begins.false) c.loop-from.invariant
