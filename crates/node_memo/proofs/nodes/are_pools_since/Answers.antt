use Rattle.std.proofs.Common.{◌∙◌, List, ap, sym, nat_le}
use Rattle.std.specs.List.{list_all}
use Rattle.pool_view.specs.declared.names.PoolName.{PoolName}
use Rattle.allocations.specs.Lacking.{freed_for}
use Rattle.node_memo.proofs.Rows.{each_since}
use Rattle.node_memo.proofs.nodes.are_pools_since.Goals as goal

pub returns-else-latest-row : goal.returns-else-latest-row
returns-else-latest-row c = λ e.
    each_since c.args.dates.now c.args.row.now.index c.args.row.now.pools
    (ap (λ (ps : List PoolName). list_all (λ p. nat_le (freed_for c.args.dates.now p) c.args.row.now.index) ps) (sym c.as_slice.ensures) ∙ sym c.are_since.ensures ∙ e)
