use Rattle.std.proofs.Common.{◌≡◌, ◌++◌, map, drop}
use Rattle.device_match.specs.Selected.{says}
use Rattle.device_match.proofs.selection.match_each.Given as goal

abbrev pub invariant-loop-selection : goal.invariant-loop-selection
invariant-loop-selection l = l.column ++ map (says l.device) (drop l.selection-index l.selections) ≡ map (says l.device) l.selections
