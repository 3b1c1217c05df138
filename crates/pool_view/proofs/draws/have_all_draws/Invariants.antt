use Rattle.std.proofs.Common.{◌≡◌, drop}
use Rattle.std.specs.List.{list_all}
use Rattle.pool_view.specs.Sets.{has_all_draws}
use Rattle.pool_view.proofs.draws.have_all_draws.Given as goal

abbrev pub invariant-loop-slice : goal.invariant-loop-slice
invariant-loop-slice l = list_all (has_all_draws l.named) (drop l.slice-index l.slices) ≡ list_all (has_all_draws l.named) l.slices
