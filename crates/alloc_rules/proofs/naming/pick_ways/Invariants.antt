use Rattle.std.proofs.Common.{drop, take}
use Rattle.request_rows.specs.Wanted.{input_of}
use Rattle.request_rules.specs.Ways.{wishes_in}
use Rattle.alloc_rules.proofs.Picking.{PickedSoFar}
use Rattle.alloc_rules.proofs.naming.pick_ways.Given as goal

abbrev pub invariant-loop-request : goal.invariant-loop-request
invariant-loop-request l =
    PickedSoFar (input_of l.rows) l.results l.fn.named l.named (wishes_in l.place l.key l.requests) (wishes_in l.place l.key (take l.request-index l.requests)) (wishes_in l.place l.key (drop l.request-index l.requests))
