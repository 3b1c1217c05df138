use Rattle.std.proofs.Common.{◌≡◌, ◌++◌}
use Rattle.std.specs.List.{flat_map}
use Rattle.pool_view.specs.declared.names.PoolName.{PoolName}
use Rattle.pool_view.specs.Groups.{group_at}
use Rattle.pool_view.specs.Pools.{newest}
use Rattle.pool_view.specs.Usable.{if_broken, if_usable, pool_cmp}
use Rattle.pool_view.proofs.sorting.sort_pools.Given as goal

abbrev pub invariant-loop-pool : goal.invariant-loop-pool
invariant-loop-pool l = record {
  usable : l.out.usable ++ flat_map (λ (p : PoolName). if_usable (newest (group_at pool_cmp l.groups p))) l.pool-iterator ≡ flat_map (λ (p : PoolName). if_usable (newest (group_at pool_cmp l.groups p))) l.names.keys;
  broken : l.out.broken ++ flat_map (λ (p : PoolName). if_broken (newest (group_at pool_cmp l.groups p))) l.pool-iterator ≡ flat_map (λ (p : PoolName). if_broken (newest (group_at pool_cmp l.groups p))) l.names.keys;
}
