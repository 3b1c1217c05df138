use Rattle.std.proofs.Common.{◌≡◌, map, take}
use Rattle.cluster.specs.Adopted.{result_of}
use Rattle.ledger_core.proofs.holding.status_results.Given as goal

abbrev pub invariant-loop-found : goal.invariant-loop-found
invariant-loop-found l = record {
  made : l.results ≡ map result_of (take l.found-index l.found-items);
  all : l.found-items ≡ l.status.results;
}
