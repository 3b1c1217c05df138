use Rattle.std.proofs.Common.{ℕ, ◌∙◌, ◌++◌, ap}
use Rattle.std.specs.Prelude.{codes, decimal}
use Rattle.json.specs.Print.{quoted}
use Rattle.api_replies.proofs.Texts.{failure_made}
use Rattle.api_replies.proofs.failures.failure_body.Goals as goal

pub returns : goal.returns
returns c =
    failure_made c.args.reason c.args.message.now _ _ _ _ _
    (ap (λ v. v.items) c.into_bytes-body.ensures.value ∙ c.in_ok-head.ensures.ok
    ∙ ap (λ (n : ℕ). codes "{\"apiVersion\":\"v1\",\"code\":" ++ (decimal n ++ codes ",\"kind\":\"Status\",\"message\":")) (c.as_u16-code.ensures.value ∙ c.status_of.ensures))
    c.in_ok-push_quoted.ensures c.in_ok-extend_from_slice.ensures.items
    (c.in_ok-push_quoted-2.ensures ∙ ap (λ l. c.extend_from_slice.new.self.items ++ quoted l) (c.as_bytes.ensures.value ∙ c.word_of.ensures))
    c.in_ok-extend_from_slice-2.ensures.items
