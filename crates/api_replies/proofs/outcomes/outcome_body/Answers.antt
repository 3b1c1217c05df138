use Rattle.api_replies.proofs.Texts.{outcome_made}
use Rattle.api_replies.proofs.outcomes.outcome_body.Goals as goal

pub returns : goal.returns
returns c =
    outcome_made c.args.line.now _ _ _ _ c.new-body.ensures.items c.in_ok-extend_from_slice.ensures.items c.in_ok-push_quoted.ensures c.in_ok-extend_from_slice-2.ensures.items
