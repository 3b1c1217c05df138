use Rattle.cluster.specs.declared.object.Object.TheVariants as object
use Rattle.ledger_core.proofs.Unsliced.{put_counted}
use Rattle.ledger_core.proofs.counting.put.Goals as goal

pub returns-in-Node-clause-counted : goal.returns-in-Node-clause-counted
returns-in-Node-clause-counted c =
    put_counted c.put.result c.args.state.now c.put.new.self c.args.holders.now c.args.index (object.Node c.in-Node.node) c.args.totals.now tt c.put.ensures.ok c.put.ensures.err c.requires.counted
