use Rattle.std.proofs.Common.{◌≡◌}
use Rattle.pool_view.specs.Usable.{pools, pools_with}
use Rattle.pool_view.proofs.groups.pool_names.Given as goal

abbrev pub invariant-loop-stored : goal.invariant-loop-stored
invariant-loop-stored l = pools_with l.names.keys l.stored-iterator ≡ pools l.slices
