use Rattle.std.proofs.Common.{◌≡◌, IfOk, subst}
use Rattle.api_replies.specs.Answers.{Answer, answer_of}
use Rattle.api_replies.proofs.Shows.{ended_is}
use Rattle.api_replies.proofs.ending.ended.Goals as goal

pub returns : goal.returns
returns c = λ s shows. subst (λ (a : Answer). IfOk c.by_event.result (λ r. answer_of r ≡ a)) (ended_is s c.args.place c.args.entry.now _ shows) c.by_event.ensures
