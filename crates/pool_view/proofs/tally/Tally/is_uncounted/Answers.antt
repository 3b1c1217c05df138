use Rattle.pool_view.proofs.Tallying.{incomplete, none_counted}
use Rattle.pool_view.proofs.tally.Tally.is_uncounted.Goals as goal

pub returns-then-self-eq0 : goal.returns-then-self-eq0
returns-then-self-eq0 c = λ _. none_counted c.args.self.now c.if-self-eq0.true

pub returns-then-self-gt0 : goal.returns-then-self-gt0
returns-then-self-gt0 c = λ other. incomplete c.args.self.now c.if-self-gt0.true other
