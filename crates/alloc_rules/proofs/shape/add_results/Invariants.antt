use Rattle.std.proofs.Common.{drop, take}
use Rattle.request_rows.specs.Wanted.{input_of}
use Rattle.request_rules.specs.Ways.{asked_at}
use Rattle.alloc_rules.proofs.Shaping.{AddedSoFar}
use Rattle.alloc_rules.proofs.shape.add_results.Given as goal

abbrev pub invariant-loop-found : goal.invariant-loop-found
invariant-loop-found l =
    AddedSoFar (input_of l.rows) (asked_at (input_of l.rows) l.row) l.claim l.view.devices l.fn.dues.items l.dues.items l.results (take l.found-index l.results) (drop l.found-index l.results)
