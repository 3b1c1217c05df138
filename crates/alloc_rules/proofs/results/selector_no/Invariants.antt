use Rattle.std.proofs.Common.{◌≡◌, drop, map}
use Rattle.request_rows.specs.Wanted.{input_of}
use Rattle.alloc_rules.specs.Rows.{due_seen}
use Rattle.plan_rules.specs.Standing.{selector_no}
use Rattle.alloc_rules.proofs.results.selector_no.Given as goal

abbrev pub invariant-loop-due : goal.invariant-loop-due
invariant-loop-due l =
    selector_no (input_of l.rows) (map (due_seen (input_of l.rows)) (drop l.due-index l.dues)) ≡ selector_no (input_of l.rows) (map (due_seen (input_of l.rows)) l.dues)
