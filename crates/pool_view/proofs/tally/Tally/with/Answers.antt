use Rattle.std.proofs.Common.{ap}
use Rattle.pool_view.proofs.Tallying.{adds_higher}
use Rattle.pool_view.proofs.tally.Tally.with.Goals as goal

pub returns-then-self-pool : goal.returns-then-self-pool
returns-then-self-pool c =
    adds_higher c.args.slice.now c.args.self.now c.slice.inside.pool.generation c.slice.inside.pool.slices c.counted_by.result (ap (λ x. x.pool.generation) c.slice.view_is) (ap (λ x. x.pool.slices) c.slice.view_is) c.counted_by.ensures
    c.if-self-pool.true
