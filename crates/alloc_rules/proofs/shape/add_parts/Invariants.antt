use Rattle.request_rows.specs.Wanted.{input_of}
use Rattle.alloc_rules.proofs.Shaping.{PartsUntil}
use Rattle.alloc_rules.proofs.shape.add_parts.Given as goal

abbrev pub invariant-loop-place : goal.invariant-loop-place
invariant-loop-place l = PartsUntil (input_of l.rows) l.claim l.view.devices l.fn.dues.items l.dues.items l.picked l.results l.place l.at
