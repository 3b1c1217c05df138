use Rattle.std.proofs.Common.{rules, ◌∙◌}
use Rattle.api_replies.proofs.Texts.{line_is}
use Rattle.api_replies.proofs.message.line_text.Goals as goal

pub returns : goal.returns
returns c = c.pop.ensures.rest ∙ line_is _ _ _ _ c.in_ok-text.ensures (search rules)
