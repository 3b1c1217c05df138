use Rattle.std.proofs.Common.{◌≡◌, ◌++◌, map, drop}
use Rattle.device_match.specs.Selected.{plain_match}
use Rattle.device_match.proofs.selection.plain_column.Given as goal

abbrev pub invariant-loop-selection : goal.invariant-loop-selection
invariant-loop-selection l = l.column ++ map plain_match (drop l.selection-index l.selections) ≡ map plain_match l.selections
