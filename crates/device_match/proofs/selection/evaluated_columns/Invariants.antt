use Rattle.std.proofs.Common.{◌≡◌, ◌++◌, map, drop}
use Rattle.device_match.specs.Selected.{device_in, says}
use Rattle.device_match.proofs.selection.evaluated_columns.Given as goal

abbrev pub invariant-loop-device : goal.invariant-loop-device
invariant-loop-device l = l.columns ++ map (λ o. map (says (device_in o)) l.selections) (drop l.device-index l.devices) ≡ map (λ o. map (says (device_in o)) l.selections) l.devices
