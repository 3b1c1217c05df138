use Rattle.std.proofs.Common.{◌≡◌, Option, Ok, subst}
use Rattle.http_wire.specs.Reader.{Answers, count_after, message}
use Rattle.http_wire.specs.Requests.{IsRequest}
use Rattle.http_wire.specs.declared.request.Request.{Request}
use Rattle.api_server.proofs.Talk.{closes, on_served, over_served, over_stopped}
use Rattle.api_server.proofs.connection.go_on.Goals as goal

pub returns-in-Some-clause-on : goal.returns-in-Some-clause-on
returns-in-Some-clause-on g c =
    on_served c.requests_lie_in_order.ensures.more c.args.service c.args.pass.now c.serve.new.pass c.args.reader.now.ahead c.hear.new.reader.ahead (g.C.Source.left c.args.conn.now) (g.C.Source.left c.hear.new.conn) (g.C.Source.left c.serve.new.conn) (g.C.Sink.written c.args.conn.now) (g.C.Sink.written c.hear.new.conn) (g.C.Sink.written c.serve.new.conn)
    c.args.index c.args.reader.now.taken c.hear.new.reader.taken (message c.in-Some.request) c.serve.result c.hear.ensures.written
    (subst (λ (o : Option Request). Answers (IsRequest c.args.reader.now.taken) c.args.reader.now.ahead c.hear.new.reader.ahead (g.C.Source.left c.args.conn.now) (g.C.Source.left c.hear.new.conn) (Ok o)) c.in-Some.is c.in-Ok.ensures.answers)
    c.serve.ensures.left c.requires.index (subst (λ (o : Option Request). c.hear.new.reader.taken ≡ count_after c.args.reader.now.taken o) c.in-Some.is c.in-Ok.ensures.counts) c.serve.ensures.serving

pub returns-in-Some-clause-over : goal.returns-in-Some-clause-over
returns-in-Some-clause-over g c =
    over_served c.requests_lie_in_order.ensures.ends c.args.service c.args.pass.now c.serve.new.pass c.args.reader.now.ahead c.hear.new.reader.ahead (g.C.Source.left c.args.conn.now) (g.C.Source.left c.hear.new.conn) (g.C.Source.left c.serve.new.conn) (g.C.Sink.written c.args.conn.now) (g.C.Sink.written c.hear.new.conn) (g.C.Sink.written c.serve.new.conn)
    c.args.index c.args.reader.now.taken (message c.in-Some.request) c.serve.result c.hear.ensures.written
    (subst (λ (o : Option Request). Answers (IsRequest c.args.reader.now.taken) c.args.reader.now.ahead c.hear.new.reader.ahead (g.C.Source.left c.args.conn.now) (g.C.Source.left c.hear.new.conn) (Ok o)) c.in-Some.is c.in-Ok.ensures.answers)
    c.serve.ensures.left c.serve.ensures.serving

pub returns-in-None-clause-over : goal.returns-in-None-clause-over
returns-in-None-clause-over g c = λ began l w on.
    closes c.requests_lie_in_order.ensures.ends c.args.service began c.args.pass.now c.args.reader.now.ahead c.hear.new.reader.ahead l (g.C.Source.left c.args.conn.now) (g.C.Source.left c.hear.new.conn) w (g.C.Sink.written c.args.conn.now) (g.C.Sink.written c.hear.new.conn) c.args.index c.args.reader.now.taken
    (subst (λ (o : Option Request). Answers (IsRequest c.args.reader.now.taken) c.args.reader.now.ahead c.hear.new.reader.ahead (g.C.Source.left c.args.conn.now) (g.C.Source.left c.hear.new.conn) (Ok o)) c.in-None.is c.in-Ok.ensures.answers) c.hear.ensures.written on

pub returns-in-Err-clause-over : goal.returns-in-Err-clause-over
returns-in-Err-clause-over g c =
    over_stopped c.requests_lie_in_order.ensures.ends c.args.service c.args.pass.now c.args.reader.now.ahead c.hear.new.reader.ahead (g.C.Source.left c.args.conn.now) (g.C.Source.left c.hear.new.conn) (g.C.Source.left c.stop.new.conn) (g.C.Sink.written c.args.conn.now) (g.C.Sink.written c.hear.new.conn) (g.C.Sink.written c.stop.new.conn)
    c.args.index c.args.reader.now.taken (IsRequest c.args.reader.now.taken) c.in-Err.error c.stop.result c.hear.ensures.written c.in-Err.ensures.answers c.stop.ensures.left c.stop.ensures.stopping
