use Rattle.std.proofs.Common.{arith}
use Rattle.http_wire.proofs.Finding.{finds_done, finds_end, finds_failed, finds_long, stopped_is}
use Rattle.http_wire.proofs.Known.{by_error}
use Rattle.http_wire.specs.Reader.{read_error}
use Rattle.http_wire.specs.Steps.{Finds}
use Rattle.http_wire.proofs.buffer.Buffer.find_head.Goals as goal

pub returns-then-is_done-clause-finds : goal.returns-then-is_done-clause-finds
returns-then-is_done-clause-finds g c =
    finds_done c.args.self.now c.pieces.self (g.S.Source.left c.args.from.now) (g.S.Source.left c.pieces.from) c.over-scan.result c.pieces.invariant.kept
    (stopped_is c.pieces.self c.ahead.result.now c.over-scan.result c.ahead.ensures c.over-scan.ensures.within c.over-scan.ensures.behind c.over-scan.ensures.all)
    c.if-is_done.ensures

pub returns-then-ahead-gt-HEAD-clause-finds : goal.returns-then-ahead-gt-HEAD-clause-finds
returns-then-ahead-gt-HEAD-clause-finds g c =
    finds_long c.args.self.now c.pieces.self (g.S.Source.left c.args.from.now) (g.S.Source.left c.pieces.from) c.over-scan.result c.pieces.invariant.kept
    (stopped_is c.pieces.self c.ahead.result.now c.over-scan.result c.ahead.ensures c.over-scan.ensures.within c.over-scan.ensures.behind c.over-scan.ensures.all)
    c.if-is_done.ensures (rw c.ahead-in-pieces.ensures at c.if-ahead-gt-HEAD.true)

pub returns-in_err-fill-clause-finds : goal.returns-in_err-fill-clause-finds
returns-in_err-fill-clause-finds g c =
    by_error (Finds c.args.self.now c.fill.new.self (g.S.Source.left c.args.from.now) (g.S.Source.left c.fill.new.from)) c.from_residual.result (read_error c.in_err-fill.field-0.0) c.from_residual.ensures.1
    (finds_failed c.args.self.now c.pieces.self c.fill.new.self (g.S.Source.left c.args.from.now) (g.S.Source.left c.pieces.from) (g.S.Source.left c.fill.new.from) c.over-scan.result c.in_err-fill.field-0.0 c.pieces.invariant.kept
    (stopped_is c.pieces.self c.ahead.result.now c.over-scan.result c.ahead.ensures c.over-scan.ensures.within c.over-scan.ensures.behind c.over-scan.ensures.all)
    c.if-is_done.ensures (omega (arith, rw c.ahead-in-pieces.ensures at c.if-ahead-gt-HEAD.false)) c.in_err-fill.ensures.fills)

pub returns-then-not-branch-clause-finds : goal.returns-then-not-branch-clause-finds
returns-then-not-branch-clause-finds g c =
    finds_end c.args.self.now c.pieces.self c.fill.new.self (g.S.Source.left c.args.from.now) (g.S.Source.left c.pieces.from) (g.S.Source.left c.fill.new.from) c.over-scan.result c.at_end.result c.pieces.invariant.kept
    (stopped_is c.pieces.self c.ahead.result.now c.over-scan.result c.ahead.ensures c.over-scan.ensures.within c.over-scan.ensures.behind c.over-scan.ensures.all)
    c.if-is_done.ensures (omega (arith, rw c.ahead-in-pieces.ensures at c.if-ahead-gt-HEAD.false)) (rw c.if-not-branch.true at c.in_ok-fill.ensures.fills) c.at_end.ensures
