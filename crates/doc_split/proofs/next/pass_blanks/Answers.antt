use Rattle.std.proofs.Common.{◌∙◌, refl, arith}
use Rattle.doc_split.proofs.Passing.{passes_kept, passes_piece}
use Rattle.doc_split.proofs.next.pass_blanks.Goals as goal

pub returns-then-pass_piece-clause-passes : goal.returns-then-pass_piece-clause-passes
returns-then-pass_piece-clause-passes g c =
    let kept = passes_kept c.args.limits c.args.splitter.now c.pieces.splitter c.fill.new.self (g.S.Source.left c.args.from.now) (g.S.Source.left c.pieces.from) (g.S.Source.left c.fill.new.from) c.pieces.invariant.passes c.fill.ensures.kept c.fill.ensures.at in
    passes_piece c.args.limits c.args.splitter.now c.fill.new.self c.pass_piece.new.splitter (g.S.Source.left c.args.from.now) (g.S.Source.left c.fill.new.from) _ kept (omega (arith, c.at.ensures)) refl c.pass_piece.ensures.passes

pub pieces-preserved : goal.pieces-preserved
pieces-preserved g c =
    let kept = passes_kept c.args.limits c.args.splitter.now c.pieces.splitter c.fill.new.self (g.S.Source.left c.args.from.now) (g.S.Source.left c.pieces.from) (g.S.Source.left c.fill.new.from) c.pieces.invariant.passes c.fill.ensures.kept c.fill.ensures.at in
    record {
      passes = passes_piece c.args.limits c.args.splitter.now c.fill.new.self c.pass_piece.new.splitter (g.S.Source.left c.args.from.now) (g.S.Source.left c.fill.new.from) _ kept (omega (arith, c.at.ensures)) refl c.pass_piece.ensures.passes;
      faultless = c.in_ok-fill.ensures.cause.ok ∙ c.pieces.invariant.faultless;
    }
