use Rattle.std.proofs.Common.{sym, subst}
use Rattle.ledger_core.proofs.Unsliced.{IsNoSliceName, gone_counted}
use Rattle.ledger_core.proofs.counting.remove.Goals as goal

pub returns-in-Node-clause-counted : goal.returns-in-Node-clause-counted
returns-in-Node-clause-counted c =
    gone_counted c.remove.result c.args.state.now c.remove.new.self c.args.holders.now c.args.target.now c.args.totals.now (subst IsNoSliceName (sym c.in-Node.is) tt) c.remove.ensures.ok c.remove.ensures.err c.requires.counted
