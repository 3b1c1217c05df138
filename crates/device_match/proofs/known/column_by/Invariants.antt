use Rattle.std.proofs.Common.{◌≡◌, ◌++◌, map, drop}
use Rattle.device_match.specs.Selected.{device_in, says}
use Rattle.device_match.proofs.known.column_by.Given as goal

abbrev pub invariant-loop-at : goal.invariant-loop-at
invariant-loop-at l = (l.known ≡ device_in l.device) × (l.column ++ map (says (device_in l.device)) (drop l.at l.selections) ≡ map (says (device_in l.device)) l.selections)
