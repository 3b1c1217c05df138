use Rattle.api_server.proofs.Replies.{once_done}
use Rattle.api_server.proofs.job.run_once.Goals as goal

pub returns-clause-job : goal.returns-clause-job
returns-clause-job g c = λ budget.
    once_done c.runs_go_past.ensures.new c.runs_go_past.ensures.begun c.runs_go_past.ensures.made c.histories_grow.ensures.start c.histories_grow.ensures.job_state _ budget _ _ _ _ _ _
    c.requires.once c.take_turn-acted.ensures.of.1 c.take_turn-acted.ensures.took c.reply_by-replied.ensures
