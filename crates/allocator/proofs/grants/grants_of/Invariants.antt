use Rattle.std.proofs.Common.{◌≡◌, ◌++◌, drop, map}
use Rattle.request_rules.specs.Allocation.{result_of}
use Rattle.request_rules.specs.Grants.{grants_from}
use Rattle.allocator.specs.Answered.{grant_of}
use Rattle.request_rows.specs.Wanted.{input_of}
use Rattle.allocator.specs.Placing.{placed}
use Rattle.allocator.proofs.grants.grants_of.Given as goal

abbrev pub invariant-loop-claim : goal.invariant-loop-claim
invariant-loop-claim l =
    l.grants ++ map grant_of (grants_from l.claim (drop l.claim l.claims) (map (result_of (input_of l.rows)) (placed (input_of l.rows) l.slots l.positions)))
    ≡ map grant_of (grants_from 0 l.claims (map (result_of (input_of l.rows)) (placed (input_of l.rows) l.slots l.positions)))
