use Rattle.std.proofs.Common.{◌∙◌, ap, sym}
use Rattle.pool_view.specs.declared.names.PoolName.{PoolName}
use Rattle.node_memo.specs.Dated.{names}
use Rattle.node_memo.proofs.PoolDates.{at_entry}
use Rattle.node_memo.proofs.dates.index_at.Goals as goal

pub returns-then-is_pool : goal.returns-then-is_pool
returns-then-is_pool c =
    at_entry c.args.freed.now _ c.args.pool.now _ c.in_order.ensures c.in_ok-name.ensures
    (ap (λ (p : PoolName). names p c.args.pool.now) (sym c.value.ensures) ∙ sym c.is_pool.ensures ∙ c.if-is_pool.true)
