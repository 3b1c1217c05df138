use Rattle.std.proofs.Common.{◌≡◌, ◌-◌}
use Rattle.doc_split.specs.Begun.{Going}
use Rattle.doc_split.proofs.next.take_document.Given as goal

abbrev pub invariant-pieces : goal.invariant-pieces
invariant-pieces g l = record {
  going : Going l.fn.limits l.fn.splitter l.splitter (g.S.Source.left l.fn.from) (g.S.Source.left l.from) l.bytes.items l.scan;
  faultless : g.S.Source.faults l.from ≡ g.S.Source.faults l.fn.from;
}

abbrev pub decreases-pieces : goal.decreases-pieces
decreases-pieces g l = l.fn.limits.input - l.splitter.at
