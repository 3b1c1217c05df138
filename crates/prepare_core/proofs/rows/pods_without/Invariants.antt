use Rattle.std.proofs.Common.{◌≡◌, ◌++◌, drop}
use Rattle.prepare_core.specs.Table.{without_pod}
use Rattle.prepare_core.proofs.rows.pods_without.Given as goal

abbrev pub invariant-loop-other : goal.invariant-loop-other
invariant-loop-other l = l.left ++ without_pod l.fn.pod (drop l.other-index l.pods) ≡ without_pod l.fn.pod l.pods
