use Rattle.std.proofs.Common.{◌≡◌, drop, map}
use Rattle.request_rows.specs.Wanted.{input_of}
use Rattle.alloc_rules.specs.Rows.{due_seen}
use Rattle.plan_rules.specs.Standing.{tainted}
use Rattle.alloc_rules.proofs.results.tainted.Given as goal

abbrev pub invariant-loop-due : goal.invariant-loop-due
invariant-loop-due l =
    tainted (input_of l.rows) (map (due_seen (input_of l.rows)) (drop l.due-index l.dues)) ≡ tainted (input_of l.rows) (map (due_seen (input_of l.rows)) l.dues)
