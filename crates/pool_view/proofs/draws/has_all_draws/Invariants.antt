use Rattle.std.proofs.Common.{◌≡◌, drop}
use Rattle.std.specs.List.{list_all}
use Rattle.pool_view.specs.Sets.{has_draws}
use Rattle.pool_view.proofs.draws.has_all_draws.Given as goal

abbrev pub invariant-loop-device : goal.invariant-loop-device
invariant-loop-device l = list_all (has_draws l.named) (drop l.device-index l.slice.devices) ≡ list_all (has_draws l.named) l.slice.devices
