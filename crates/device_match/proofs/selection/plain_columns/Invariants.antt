use Rattle.std.proofs.Common.{◌≡◌, ◌++◌, map, drop}
use Rattle.device_match.specs.Selected.{plain_match}
use Rattle.device_match.proofs.selection.plain_columns.Given as goal

abbrev pub invariant-loop-device : goal.invariant-loop-device
invariant-loop-device l = l.columns ++ map (λ _. map plain_match l.selections) (drop l._device-index l.devices) ≡ map (λ _. map plain_match l.selections) l.devices
