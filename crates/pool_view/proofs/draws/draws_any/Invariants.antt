use Rattle.std.proofs.Common.{◌≡◌, drop}
use Rattle.std.specs.List.{list_any}
use Rattle.pool_view.specs.Usable.{draws_any}
use Rattle.pool_view.proofs.draws.draws_any.Given as goal

abbrev pub invariant-loop-device : goal.invariant-loop-device
invariant-loop-device l = list_any (λ d. draws_any d.consumes) (drop l.device-index l.devices) ≡ list_any (λ d. draws_any d.consumes) l.devices
