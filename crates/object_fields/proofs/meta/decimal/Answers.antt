use Rattle.object_fields.proofs.Texts.{version_is}
use Rattle.object_fields.proofs.meta.decimal.Goals as goal
use Rattle.std.proofs.Common.{rules, ◌∙◌}

pub returns-then-plain_decimal : goal.returns-then-plain_decimal
returns-then-plain_decimal c =
    c.ok.ensures.value ∙ version_is c.args.text.now c.parse.result c.parse.ensures.value.0 (search rules)
