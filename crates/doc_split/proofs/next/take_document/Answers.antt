use Rattle.std.proofs.Common.{ℕ, List, ◌∙◌, refl, sym, subst, arith}
use Rattle.doc_split.specs.declared.place.Place.TheVariants.{Outside}
use Rattle.doc_split.specs.Begun.{Going}
use Rattle.doc_split.proofs.Going.{going_begins, going_kept, going_more}
use Rattle.doc_split.proofs.next.take_document.Goals as goal

pub pieces-init : goal.pieces-init
pieces-init g c = record {
  going = subst (λ (l : List ℕ). Going c.args.limits c.args.splitter.now c.advance.new.self (g.S.Source.left c.args.from.now) (g.S.Source.left c.args.from.now) l (record { place = Outside; depth = 1 })) (sym c.in_ok-bytes.ensures.items)
      (going_begins c.args.limits c.args.splitter.now c.advance.new.self (g.S.Source.left c.args.from.now) c.requires.begins.0 c.requires.begins.1 c.advance.ensures c.requires.room c.requires.some);
  faultless = refl;
}

pub pieces-preserved : goal.pieces-preserved
pieces-preserved g c =
    let kept = going_kept c.args.limits c.args.splitter.now c.pieces.splitter c.fill.new.self (g.S.Source.left c.args.from.now) (g.S.Source.left c.pieces.from) (g.S.Source.left c.fill.new.from) c.pieces.bytes.items c.pieces.scan c.pieces.invariant.going c.fill.ensures.kept c.fill.ensures.at in
    record {
      going = going_more c.args.limits c.args.splitter.now c.fill.new.self c.take_piece.new.splitter (g.S.Source.left c.args.from.now) (g.S.Source.left c.fill.new.from) c.pieces.bytes.items c.take_piece.new.bytes.items c.pieces.scan c.take_piece.new.scan kept (omega arith) (omega (arith, c.at.ensures)) (omega (arith, c.len.ensures)) c.in_ok-take_piece.ensures.takes;
      faultless = c.in_ok-fill.ensures.cause.ok ∙ c.pieces.invariant.faultless;
    }
