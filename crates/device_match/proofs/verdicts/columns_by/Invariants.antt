use Rattle.std.proofs.Common.{◌≡◌, ◌++◌, map, drop}
use Rattle.device_match.specs.Selected.{device_in, says}
use Rattle.device_match.proofs.verdicts.columns_by.Given as goal

abbrev pub invariant-loop-at : goal.invariant-loop-at
invariant-loop-at l = l.columns ++ map (λ o. map (says (device_in o)) l.selections) (drop l.at l.devices) ≡ map (λ o. map (says (device_in o)) l.selections) l.devices
