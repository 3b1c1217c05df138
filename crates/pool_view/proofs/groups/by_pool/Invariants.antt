use Rattle.std.proofs.Common.{◌≡◌, []}
use Rattle.pool_view.specs.Groups.{grouped, objects}
use Rattle.pool_view.specs.Usable.{pool_cmp, pool_named}
use Rattle.pool_view.proofs.groups.by_pool.Given as goal

abbrev pub invariant-loop-stored : goal.invariant-loop-stored
invariant-loop-stored l = grouped pool_cmp pool_named l.groups (objects l.stored-iterator) ≡ grouped pool_cmp pool_named [] (objects l.slices)
