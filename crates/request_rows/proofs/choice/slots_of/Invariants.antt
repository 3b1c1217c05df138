use Rattle.std.proofs.Common.{◌≡◌, ◌++◌, drop}
use Rattle.request_rows.specs.Chosen.{slots_in}
use Rattle.request_rows.proofs.choice.slots_of.Given as goal

abbrev pub invariant-loop-row : goal.invariant-loop-row
invariant-loop-row l = l.slots.items ++ slots_in l.rows (drop l.row-index l.chosen) ≡ slots_in l.rows l.chosen
