use Rattle.std.proofs.Common.{◌≡◌, drop}
use Rattle.request_rules.specs.Lists.{first_some}
use Rattle.request_rows.specs.Places.{place_in}
use Rattle.request_rows.proofs.fault.first_place.Given as goal

abbrev pub invariant-loop-row : goal.invariant-loop-row
invariant-loop-row l = first_some (place_in l.devices l.columns l.rows) (drop l.row-index l.chosen) ≡ first_some (place_in l.devices l.columns l.rows) l.chosen
