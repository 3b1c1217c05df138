use Rattle.sched_job.proofs.Turning.{acts, answers, idles, thinks}
use Rattle.sched_job.proofs.laws.turns_move_on.Goals as goal

pub returns-clause-thinks : goal.returns-clause-thinks
returns-clause-thinks c = thinks c.pods_stay_taken.ensures

pub returns-clause-idle : goal.returns-clause-idle
returns-clause-idle c = idles c.pods_stay_taken.ensures

pub returns-clause-acts : goal.returns-clause-acts
returns-clause-acts c = acts

pub returns-clause-answers : goal.returns-clause-answers
returns-clause-answers c = answers c.pods_stay_taken.ensures
