use Rattle.node_memo.proofs.Rows.{kept_tells}
use Rattle.node_memo.proofs.nodes.LackingNodes.keep.Goals as goal

pub returns-clause-tells : goal.returns-clause-tells
returns-clause-tells c = λ s d are lacking t.
    kept_tells s d _ c.args.self.now c.put_row.new.rows.items c.args.node.now c.in_ok-copy.field-0 c.args.devices.now c.in_ok-pools.pools c.in_ok-places.places c.args.at c.self.view_is c.in_ok-copy.ensures c.in_ok-pools.ensures c.put_row.ensures are lacking t
