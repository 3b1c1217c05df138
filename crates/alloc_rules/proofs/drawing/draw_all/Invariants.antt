use Rattle.std.proofs.Common.{map, take}
use Rattle.cluster.specs.Held.{held}
use Rattle.request_rows.specs.Wanted.{input_of}
use Rattle.alloc_rules.specs.Rows.{due_seen}
use Rattle.alloc_rules.proofs.Added.{IsDrawing}
use Rattle.alloc_rules.proofs.drawing.draw_all.Given as goal

abbrev pub invariant-loop-due : goal.invariant-loop-due
invariant-loop-due l = IsDrawing l.state.inventory (held l.state) (map (due_seen (input_of l.rows)) (take l.due-index l.dues)) l.totals
