-- Rows and what they evaluate to.
use Rattle.std.specs.Prelude.{ℕ, ◌+◌, ◌≡◌, List, [], ◌∷◌, Option, find, map, length}
use Rattle.walk.specs.Lists.{numbers}
use Rattle.pool_view.specs.declared.matching.Match.{Match}
use Rattle.request_rules.specs.Input.{SearchInput}
use Rattle.request_rules.specs.Names.{result_name}
use Rattle.pool_view.specs.Pools.{Offered}
use Rattle.request_rules.specs.Asked.{Asked, is_fault, match_at, matching, options, wishes}
use Rattle.request_rows.specs.declared.rows.Row.{Row}
use Rattle.request_rows.specs.declared.ways.RequestRows.{RequestRows}
use Rattle.request_rows.specs.Columns.{fault_from, yes_from}
use Rattle.request_rows.specs.Taints.{if_tainted, tolerates_device}
use Rattle.request_rules.specs.Ways.{all_asked}
use Rattle.request_rows.specs.Requests.{requests_from}

-- ---- by the columns

-- `tainted` are the devices, or none if none of them has a taint
abbrev pub row_by : List (List Match) → List Offered → ℕ → Asked → Row
row_by columns tainted row a = record {
  claim = a.label.claim;
  key = a.key;
  name = result_name a.label;
  admin = a.label.admin;
  mode = a.ask.mode;
  matching = yes_from 0 row columns;
  fault = fault_from 0 row columns;
  tolerated = map (tolerates_device a.ask) tainted;
}

abbrev pub rows_from : List (List Match) → List Offered → ℕ → List Asked → List Row
rows_from columns tainted row [] = []
rows_from columns tainted row (a ∷ rest) = row_by columns tainted row a ∷ rows_from columns tainted (row + 1) rest

-- ---- by the input

-- the first of these positions at which a request has an evaluation error
abbrev pub first_fault : SearchInput → Asked → List ℕ → Option ℕ
first_fault w a xs = find (λ x. is_fault (match_at w a.ask x)) xs

abbrev pub row_for : SearchInput → Asked → Row
row_for w a = record {
  claim = a.label.claim;
  key = a.key;
  name = result_name a.label;
  admin = a.label.admin;
  mode = a.ask.mode;
  matching = matching w a.ask;
  fault = first_fault w a (numbers 0 (length w.devices));
  tolerated = map (tolerates_device a.ask) (if_tainted w.devices);
}

-- what was computed is the input's
pub record AreRows (w : SearchInput) (counts : List ℕ) (requests : List RequestRows) (rows : List Row) (columns : List (List Match)) : Type 0 where
  pub options_are : counts ≡ options w
  pub requests_are : requests ≡ requests_from 0 (wishes w)
  pub rows_are : rows ≡ map (row_for w) (all_asked w)
  pub columns_are : columns ≡ map (λ o. map (λ a. w.matched a.ask o) (all_asked w)) w.devices
