use Rattle.std.proofs.Common.{sym, subst}
use Rattle.api_server.specs.Connections.{Refusing}
use Rattle.api_server.specs.declared.end.ConnEnd.{ConnEnd}
use Rattle.api_server.proofs.Sent.{refuses_sent}
use Rattle.api_server.proofs.connection.refuse.Goals as goal

pub returns-clause-refusing : goal.returns-clause-refusing
returns-clause-refusing g c =
    subst (λ (e : ConnEnd). Refusing c.args.why c.args.error (g.C.Sink.written c.args.conn.now) (g.C.Sink.written c.send.new.conn) e) (sym c.refused_end.ensures)
    (refuses_sent c.args.why c.args.error _ _ c.in-Ok.reply _ c.in-Ok.ensures c.send.ensures.sends)
