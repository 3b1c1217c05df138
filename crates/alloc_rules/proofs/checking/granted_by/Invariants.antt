use Rattle.std.proofs.Common.{◌≡◌, ◌++◌, drop, map}
use Rattle.plan_rules.specs.Failing.{result_of}
use Rattle.alloc_rules.proofs.checking.granted_by.Given as goal

abbrev pub invariant-loop-found : goal.invariant-loop-found
invariant-loop-found l = l.results ++ map result_of (drop l.found-index l.status.results) ≡ map result_of l.status.results
