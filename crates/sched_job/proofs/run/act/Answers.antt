use Rattle.sched_job.proofs.Noting.{present_ok}
use Rattle.sched_job.proofs.run.act.Goals as goal

pub returns-then-has_reserved-clause-present : goal.returns-then-has_reserved-clause-present
returns-then-has_reserved-clause-present g c = present_ok c.turn-next.result c.args.ledger.now c.turn-next.new.ledger c.args.work.now c.turn-next.new.self.stage c.turn-next.ensures.ok c.turn-next.ensures.stage

pub returns-else-has_reserved-clause-present : goal.returns-else-has_reserved-clause-present
returns-else-has_reserved-clause-present g c = present_ok c.turn-next.result c.args.ledger.now c.turn-next.new.ledger c.args.work.now c.turn-next.new.self.stage c.turn-next.ensures.ok c.turn-next.ensures.stage
