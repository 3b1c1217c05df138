use Rattle.std.proofs.Common.{◌≡◌, drop}
use Rattle.std.specs.List.{list_all}
use Rattle.pool_view.specs.Sets.{has_draw}
use Rattle.pool_view.proofs.draws.has_draws.Given as goal

abbrev pub invariant-loop-consumption : goal.invariant-loop-consumption
invariant-loop-consumption l = list_all (has_draw l.named) (drop l.consumption-index l.device.consumes) ≡ list_all (has_draw l.named) l.device.consumes
