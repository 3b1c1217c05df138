use Rattle.request_rows.specs.Wanted.{input_of}
use Rattle.alloc_rules.proofs.Counting.{ShortUntil}
use Rattle.alloc_rules.proofs.counters.counter_short.Given as goal

abbrev pub invariant-loop-due : goal.invariant-loop-due
invariant-loop-due l = ShortUntil (input_of l.rows) l.fn.totals l.totals l.dues l.due-index
