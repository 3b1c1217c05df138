-- The locations of evaluation errors, by rows.
use Rattle.std.specs.Prelude.{ℕ, List, Option, None, Some, slice_get}
use Rattle.pool_view.specs.declared.matching.Match.{Match}
use Rattle.pool_view.specs.declared.matching.Match.TheVariants.{Yes, No, Fault}
use Rattle.pool_view.specs.Pools.{Offered, id_in}
use Rattle.request_rows.specs.declared.fault.FaultPlace.{FaultPlace}
use Rattle.request_rows.specs.declared.rows.Row.{Row}
use Rattle.request_rows.specs.Columns.{cell}

abbrev pub place_of : Row → Offered → Match → Option FaultPlace
place_of row o Yes = None
place_of row o No = None
place_of row o (Fault n why) = Some (record { claim = row.key; request = row.name; selector = n; device = id_in o; cause = why })

abbrev pub place_by : Row → Option Offered → Match → Option FaultPlace
place_by row None m = None
place_by row (Some o) m = place_of row o m

abbrev pub place_at : List Offered → List (List Match) → ℕ → Row → Option ℕ → Option FaultPlace
place_at devices columns at row None = None
place_at devices columns at row (Some x) = place_by row (slice_get devices x) (cell columns at x)

abbrev pub place_of_row : List Offered → List (List Match) → ℕ → Option Row → Option FaultPlace
place_of_row devices columns at None = None
place_of_row devices columns at (Some row) = place_at devices columns at row row.fault

-- the location of the first evaluation error of a row
abbrev pub place_in : List Offered → List (List Match) → List Row → ℕ → Option FaultPlace
place_in devices columns rows at = place_of_row devices columns at (slice_get rows at)
