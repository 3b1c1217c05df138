use Rattle.std.proofs.Common.{◌≡◌, drop}
use Rattle.request_rows.specs.Wanted.{input_of}
use Rattle.alloc_rules.specs.Rows.{draws_any}
use Rattle.alloc_rules.proofs.counters.draws_any.Given as goal

abbrev pub invariant-loop-due : goal.invariant-loop-due
invariant-loop-due l = draws_any (input_of l.rows) (drop l.due-index l.dues) ≡ draws_any (input_of l.rows) l.dues
