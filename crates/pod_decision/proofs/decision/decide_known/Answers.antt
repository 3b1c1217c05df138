use Rattle.std.proofs.Common.{rules, ◌∙◌, sym}
use Rattle.pod_decision.proofs.Decided.{ready_is, unready_is}
use Rattle.pod_decision.proofs.decision.decide_known.Goals as goal

pub returns-in-Some-clause-decision : goal.returns-in-Some-clause-decision
returns-in-Some-clause-decision c =
    unready_is c.args.state.now c.args.key.now c.args.pod.now c.args.budget c.args.at c.as_slice.result.now c.in-Some.reason c.requires.idle (search rules) (sym c.in_ok-reason.ensures ∙ c.in-Some.is)

pub decide_by_memo-requires-clause-may_search : goal.decide_by_memo-requires-clause-may_search
decide_by_memo-requires-clause-may_search c =
    ready_is c.args.state.now c.args.key.now c.args.pod.now c.as_slice.result.now c.requires.idle (search rules) (sym c.in_ok-reason.ensures ∙ c.in-None.is)
