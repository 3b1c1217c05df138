use Rattle.std.proofs.Common.{ℕ, ◌∙◌, ◌+◌, List, Option, ap, arith}
use Rattle.door_ports.specs.Visits.{Ended, ending, with_conn, with_ended}
use Rattle.api_server.specs.Talks.{seen}
use Rattle.api_server.proofs.Sharing.{next_by}
use Rattle.api_server.proofs.share.serve_next.Goals as goal

pub returns-in-Ok-clause-did : goal.returns-in-Ok-clause-did
returns-in-Ok-clause-did g c =
    let given = c.in-Ok.ensures.given in
    let taken = c.end.ensures.taken in
    next_by g.D.Conn.Source.left g.D.Conn.Sink.written g.D.Conn.Source.faults (record { budget = c.args.budget; attempts = c.args.attempts }) c.args.pass.now c.serve_connection-end.new.pass
    (seen g.D.Door.share g.D.Door.in_service g.D.Door.served g.D.Door.ended g.D.Door.faults c.args.door.now) (seen g.D.Door.share g.D.Door.in_service g.D.Door.served g.D.Door.ended g.D.Door.faults c.end.new.self)
    c.in-Ok.accepted c.conn-conn.result.now c.serve_connection-end.new.conn c.serve_connection-end.result c.number-number.result c.stop_after.result c.in-Ok.ensures.start c.conn-conn.ensures.value c.in-Ok.ensures.unwritten c.in-Ok.ensures.faultless c.number-number.ensures
    c.serve_connection-end.ensures.connected c.serve_connection-end.ensures.cause c.requires.left c.in-Ok.ensures.number c.stop_after.ensures
    (c.end.ensures.share ∙ c.in-Ok.ensures.next) (omega (arith, given, taken)) (c.end.ensures.served ∙ ap (λ (n : ℕ). n + 1) c.accept.ensures.same_served)
    (c.end.ensures.ended ∙ ap (λ (es : Option (List Ended)). with_ended es (ending g.D.Conn.Source.left g.D.Conn.Sink.written g.D.Conn.Source.faults (with_conn c.in-Ok.accepted c.serve_connection-end.new.conn))) c.accept.ensures.same_ended)
    (c.end.ensures.faults ∙ c.in-Ok.ensures.cause.ok)
