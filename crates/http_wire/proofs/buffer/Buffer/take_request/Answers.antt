use Rattle.std.proofs.Common.{refl}
use Rattle.http_wire.specs.Reader.{Answers}
use Rattle.http_wire.specs.Requests.{IsSaid}
use Rattle.http_wire.proofs.Joining.{body_failed, request_is}
use Rattle.http_wire.proofs.Known.{by_error}
use Rattle.http_wire.proofs.buffer.Buffer.take_request.Goals as goal

pub returns-in_err-body-clause-answers : goal.returns-in_err-body-clause-answers
returns-in_err-body-clause-answers g c =
    by_error (Answers IsSaid c.args.self.now c.take_body.new.self (g.S.Source.left c.args.from.now) (g.S.Source.left c.take_body.new.from)) c.from_residual-in_err-body.result c.in_err-body.field-0.0 c.from_residual-in_err-body.ensures.1
    (body_failed IsSaid c.args.self.now c.take_head.new.self c.take_body.new.self (g.S.Source.left c.args.from.now) (g.S.Source.left c.take_head.new.from) (g.S.Source.left c.take_body.new.from) c.in-Some.head c.in_err-body.field-0.0
    (rw c.in-Some.is at c.in_ok-head.ensures.takes) c.in_err-body.ensures.takes)

pub returns-clause-answers : goal.returns-clause-answers
returns-clause-answers g c =
    request_is c.args.self.now c.take_head.new.self c.take_body.new.self (g.S.Source.left c.args.from.now) (g.S.Source.left c.take_head.new.from) (g.S.Source.left c.take_body.new.from) c.in-Some.head
    (record { method = c.in-Some.head.method; target = c.in-Some.head.target; body = c.in_ok-body.body; last = c.in-Some.head.last })
    (rw c.in-Some.is at c.in_ok-head.ensures.takes) c.in_ok-body.ensures.takes refl
