use Rattle.std.proofs.Common.{◌≡◌, drop}
use Rattle.std.specs.List.{list_any}
use Rattle.request_rows.specs.Chosen.{faulty_at}
use Rattle.request_rows.proofs.choice.any_faulty.Given as goal

abbrev pub invariant-loop-row : goal.invariant-loop-row
invariant-loop-row l = list_any (faulty_at l.rows) (drop l.row-index l.chosen) ≡ list_any (faulty_at l.rows) l.chosen
