use Rattle.std.proofs.Common.{◌∙◌, sym}
use Rattle.sched_job.proofs.Noting.{known_since}
use Rattle.sched_job.proofs.notes.give_back.Goals as goal

pub put_memo-requires : goal.put_memo-requires
put_memo-requires c = known_since c.memory_goes_on.ensures.known _ _ _ (sym c.take.ensures.value ∙ c.in-Some.is) c.len-len.ensures.legal c.requires
