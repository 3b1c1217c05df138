use Rattle.std.proofs.Common.{◌∙◌, ◌-◌, arith, length}
use Rattle.http_wire.specs.declared.error.WireError.TheVariants as error
use Rattle.http_wire.specs.Reader.{read_error}
use Rattle.http_wire.specs.Steps.{TakesBody}
use Rattle.http_wire.proofs.Joining.{body_goes, body_short, more_failed, piece_failed}
use Rattle.http_wire.proofs.Known.{by_error}
use Rattle.http_wire.proofs.buffer.Buffer.take_body.Goals as goal

pub pieces-preserved : goal.pieces-preserved
pieces-preserved g c = record {
  consumed = body_goes c.args.self.now c.pieces.self c.has_more.new.self c.take_piece.new.self (g.S.Source.left c.args.from.now) (g.S.Source.left c.pieces.from) (g.S.Source.left c.has_more.new.from) c.pieces.body.items c.take_piece.new.body.items
      (c.args.length - length c.pieces.body.items) c.pieces.invariant.consumed c.in_ok-has_more.ensures.more.kept c.in_ok-take_piece.ensures.took c.in_ok-take_piece.ensures.left;
  short = body_short c.has_more.new.self c.pieces.body.items c.take_piece.new.body.items c.args.length c.pieces.invariant.short c.in_ok-take_piece.ensures.took;
  sent = c.in_ok-has_more.ensures.sent ∙ c.pieces.invariant.sent;
  faultless = c.in_ok-has_more.ensures.cause.ok ∙ c.pieces.invariant.faultless;
}

pub returns-in_err-has_more-clause-takes : goal.returns-in_err-has_more-clause-takes
returns-in_err-has_more-clause-takes g c =
    by_error (TakesBody c.args.self.now c.has_more.new.self (g.S.Source.left c.args.from.now) (g.S.Source.left c.has_more.new.from) c.args.length) c.from_residual.result (read_error c.in_err-has_more.field-0.0) c.from_residual.ensures.1
    (more_failed c.args.self.now c.pieces.self c.has_more.new.self c.pieces.body.items (g.S.Source.left c.args.from.now) (g.S.Source.left c.pieces.from) (g.S.Source.left c.has_more.new.from) c.args.length c.in_err-has_more.field-0.0
    c.pieces.invariant.consumed (omega (arith, c.len.ensures, c.pieces-test.true)) c.in_err-has_more.ensures.more)

pub returns-in_err-take_piece-clause-takes : goal.returns-in_err-take_piece-clause-takes
returns-in_err-take_piece-clause-takes g c =
    by_error (TakesBody c.args.self.now c.take_piece.new.self (g.S.Source.left c.args.from.now) (g.S.Source.left c.has_more.new.from) c.args.length) c.from_residual-in_err-take_piece.result error.Memory c.from_residual-in_err-take_piece.ensures.1
    (piece_failed c.args.self.now c.pieces.self c.has_more.new.self c.take_piece.new.self c.pieces.body.items (g.S.Source.left c.args.from.now) (g.S.Source.left c.pieces.from) (g.S.Source.left c.has_more.new.from) c.args.length
    c.pieces.invariant.consumed c.in_ok-has_more.ensures.more.kept)
