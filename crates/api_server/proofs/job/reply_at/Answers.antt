use Rattle.api_server.proofs.Replies.{placed_found}
use Rattle.api_server.proofs.job.reply_at.Goals as goal

pub returns-clause-placed : goal.returns-clause-placed
returns-clause-placed g c = placed_found _ _ _ _ _ c.look_at-found.ensures.looked c.look_at-found.ensures.entry c.reply_found-replied.ensures
