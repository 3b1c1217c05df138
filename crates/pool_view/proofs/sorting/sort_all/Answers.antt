use Rattle.std.proofs.Common.{◌∙◌, [], ap}
use Rattle.pool_view.specs.Groups.{objects}
use Rattle.pool_view.specs.Groups.{grouped}
use Rattle.pool_view.specs.Usable.{pool_cmp, pool_named, pools}
use Rattle.pool_view.proofs.PoolGroups.{broken_ok}
use Rattle.pool_view.proofs.sorting.sort_all.Goals as goal

pub returns-clause-broken : goal.returns-clause-broken
returns-clause-broken c =
    broken_ok c.args.inventory.now _ _ c.sort_pools.result (c.in_ok-groups.ensures ∙ ap (λ ss. grouped pool_cmp pool_named [] (objects ss)) c.slices.ensures) (c.in_ok-names.ensures ∙ ap (λ ss. pools ss) c.slices-2.ensures)
    c.sort_pools.ensures.broken
