use Rattle.std.proofs.Common.{refl, rules}
use Rattle.std.proofs.lemmas.List.{take_rest}
use Rattle.std.proofs.lemmas.List.Sorted.{IsPartitionPoint-from_clause}
use Rattle.pool_view.specs.OnePool.{is_before, is_in}
use Rattle.pool_view.proofs.PoolOrder.{parted_before, parted_in, those_of}
use Rattle.pool_view.proofs.one_pool.slices_of.Goals as goal

pub returns : goal.returns
returns c =
    let driver = c.args.driver.now in
    let pool = c.args.pool.now in
    let first = IsPartitionPoint-from_clause (is_before driver pool) _ _ c.partition_point-first.ensures.partitioned (parted_before driver pool c.args.slices.now c.requires) (λ a r q k. search rules) in
    let rest = take_rest c.args.slices.now c.partition_point-first.result in
    let count = IsPartitionPoint-from_clause (is_in driver pool) _ _ c.partition_point-count.ensures.partitioned (parted_in driver pool c.args.slices.now _ c.partition_point-first.result c.requires first.1 rest) (λ a r q k. search rules) in
    those_of driver pool c.args.slices.now _ _ c.partition_point-first.result c.partition_point-count.result first rest count refl
