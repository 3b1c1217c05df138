use Rattle.std.proofs.Common.{◌≡◌, map, take}
use Rattle.cluster.specs.Adopted.{result_of}
use Rattle.cluster.proofs.state.status_results.Given as goal

abbrev pub invariant-loop-picked : goal.invariant-loop-picked
invariant-loop-picked l = record {
  made : l.results ≡ map result_of (take l.picked-index l.picked-items);
  all : l.picked-items ≡ l.fn.status.results;
}
