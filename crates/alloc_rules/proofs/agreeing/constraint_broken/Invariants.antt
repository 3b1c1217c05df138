use Rattle.std.proofs.Common.{drop}
use Rattle.request_rows.specs.Wanted.{input_of}
use Rattle.alloc_rules.proofs.Breaking.{KeptSoFar}
use Rattle.alloc_rules.proofs.agreeing.constraint_broken.Given as goal

abbrev pub invariant-loop-place : goal.invariant-loop-place
invariant-loop-place l = KeptSoFar (input_of l.rows) l.dues l.place l.first (drop l.place l.claims)
