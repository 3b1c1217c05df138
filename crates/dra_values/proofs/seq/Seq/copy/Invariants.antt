use Rattle.std.proofs.Common.{◌≡◌, take}
use Rattle.dra_values.proofs.seq.Seq.copy.Given as goal

abbrev pub invariant-loop-item : goal.invariant-loop-item
invariant-loop-item g l = record { copied : l.copy ≡ take l.item-index l.item-items; all : l.item-items ≡ l.fn.self }
