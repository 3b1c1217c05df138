use Rattle.request_rows.proofs.Ends.{ended_choice, ended_requests}
use Rattle.request_rows.proofs.choice.chosen_rows.Goals.{then-loop-at-test+else-at-choice, else-loop-at-test}
use Rattle.request_rows.proofs.choice.chosen_rows.Goals as goal

pub returns : goal.returns
returns c = elim c.loop-at-test.branch [
  | then-loop-at-test+else-at-choice w ↦ ended_choice c.loop-at.chosen.items _ c.args.requests.now c.args.choice.now c.loop-at.at c.loop-at.invariant w.if-at-choice.false
  | else-loop-at-test w ↦ ended_requests c.loop-at.chosen.items _ c.args.requests.now c.args.choice.now c.loop-at.at c.loop-at.invariant w.loop-at-test.false
]
