use Rattle.std.proofs.Common.{◌≡◌, drop}
use Rattle.std.specs.List.{list_any}
use Rattle.request_rows.specs.Chosen.{fails_at}
use Rattle.request_rows.proofs.choice.any_fails.Given as goal

abbrev pub invariant-loop-row : goal.invariant-loop-row
invariant-loop-row l = list_any (fails_at l.broken l.rows) (drop l.row-index l.chosen) ≡ list_any (fails_at l.broken l.rows) l.chosen
