use Rattle.std.proofs.Common.{◌≡◌, ◌++◌}
use Rattle.pool_view.specs.OnePool.{stored_in}
use Rattle.pool_view.proofs.one_pool.stored_in.Given as goal

abbrev pub invariant-loop-name : goal.invariant-loop-name
invariant-loop-name l = l.some ++ stored_in l.driver l.pool l.name-iterator ≡ stored_in l.driver l.pool l.slices
