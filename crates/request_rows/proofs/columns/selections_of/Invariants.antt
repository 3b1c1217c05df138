use Rattle.std.proofs.Common.{◌≡◌, ◌++◌, map, drop}
use Rattle.request_rows.specs.Columns.{parts_in}
use Rattle.request_rows.proofs.columns.selections_of.Given as goal

abbrev pub invariant-loop-way : goal.invariant-loop-way
invariant-loop-way l = l.selections.items ++ map (parts_in l.classes) (drop l.way-index l.ways) ≡ map (parts_in l.classes) l.ways
