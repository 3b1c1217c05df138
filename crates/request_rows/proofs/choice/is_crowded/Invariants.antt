use Rattle.std.proofs.Common.{◌≡◌, ◌≤◌, drop}
use Rattle.request_rows.specs.Chosen.{is_crowded}
use Rattle.request_rows.proofs.choice.is_crowded.Given as goal

abbrev pub invariant-loop-row : goal.invariant-loop-row
invariant-loop-row l = record {
  rest : is_crowded l.rows l.claim l.total (drop l.row-index l.chosen) ≡ is_crowded l.rows 0 0 l.chosen;
  few : l.total ≤ 32;
}
