use Rattle.std.proofs.Common.{rules, ◌≡◌, ◌∙◌, ℕ, List, IfOk, subst}
use Rattle.api_replies.proofs.Texts.{refusal_is}
use Rattle.api_replies.proofs.message.refusal_text.Goals as goal

pub returns : goal.returns
returns c =
    subst (λ (x : List ℕ). IfOk c.behind.result (λ v. v.items ≡ x))
    (refusal_is 0 c.args.entry.now _ _ c.len.result (c.deref.ensures.value ∙ c.in_ok-text.ensures) c.in_ok-before.ensures.ok (search rules)) c.behind.ensures
