use Rattle.std.proofs.Common.{Option, Some, sym, subst}
use Rattle.http_wire.specs.Replies.{reply_bytes}
use Rattle.api_server.specs.Connections.{Sends}
use Rattle.api_server.specs.declared.end.ConnEnd.{ConnEnd}
use Rattle.api_server.proofs.Sent.{sends_all, sends_part}
use Rattle.api_server.proofs.connection.send.Goals as goal

pub returns-in-Ok-clause-sends : goal.returns-in-Ok-clause-sends
returns-in-Ok-clause-sends g c =
    subst (λ (e : Option ConnEnd). Sends (g.C.Sink.written c.args.conn.now) (g.C.Sink.written c.write_reply.new.to) (reply_bytes c.args.reply.now) c.args.last e) (sym c.closed_if.ensures)
    (sends_all _ _ _ c.args.last c.in-Ok.ensures.bytes)

pub returns-in-Err-clause-sends : goal.returns-in-Err-clause-sends
returns-in-Err-clause-sends g c =
    subst (λ (e : ConnEnd). Sends (g.C.Sink.written c.args.conn.now) (g.C.Sink.written c.write_reply.new.to) (reply_bytes c.args.reply.now) c.args.last (Some e)) (sym c.broken.ensures)
    (sends_part _ _ _ c.args.last c.in-Err.error c.in-Err.ensures.errors c.in-Err.ensures.prefix)
