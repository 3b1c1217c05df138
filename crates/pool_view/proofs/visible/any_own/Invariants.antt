use Rattle.std.proofs.Common.{◌≡◌, drop}
use Rattle.std.specs.List.{list_any}
use Rattle.pool_view.specs.Visibility.{own_are_on}
use Rattle.pool_view.proofs.visible.any_own.Given as goal

abbrev pub invariant-loop-device : goal.invariant-loop-device
invariant-loop-device l = list_any (λ d. own_are_on d.nodes l.node) (drop l.device-index l.devices) ≡ list_any (λ d. own_are_on d.nodes l.node) l.devices
