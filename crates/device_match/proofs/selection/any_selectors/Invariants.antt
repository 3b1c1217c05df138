use Rattle.std.proofs.Common.{◌≡◌, drop}
use Rattle.std.specs.List.{list_any}
use Rattle.device_match.specs.Selected.{has_selectors}
use Rattle.device_match.proofs.selection.any_selectors.Given as goal

abbrev pub invariant-loop-selection : goal.invariant-loop-selection
invariant-loop-selection l = list_any has_selectors (drop l.selection-index l.selections) ≡ list_any has_selectors l.selections
