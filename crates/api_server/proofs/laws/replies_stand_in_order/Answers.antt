use Rattle.api_server.proofs.Placing.{Laws, full_begun, limit_met, one_more, stand_in_order}
use Rattle.api_server.proofs.laws.replies_stand_in_order.Goals as goal

pub returns-clause-replies : goal.returns-clause-replies
returns-clause-replies c =
    let p = c.runs_go_past.ensures in
    let l : Laws = record { run = p.run; run_earlier = p.run_earlier; begun_earlier = p.begun_earlier; made = p.made } in
    stand_in_order l

pub returns-clause-push : goal.returns-clause-push
returns-clause-push c = one_more

pub returns-clause-full : goal.returns-clause-full
returns-clause-full c =
    let p = c.runs_go_past.ensures in
    let l : Laws = record { run = p.run; run_earlier = p.run_earlier; begun_earlier = p.begun_earlier; made = p.made } in
    full_begun l

pub returns-clause-limit : goal.returns-clause-limit
returns-clause-limit c = limit_met
