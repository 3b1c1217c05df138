-- Rows as the columns fill them.
use Rattle.std.proofs.Common.{ℕ, ◌+◌, ◌≡◌, List, [], ◌∷◌, ◌++◌, Bool, cond, Option, None, Some, map, filter, length, refl, sym, ap, ◌∙◌}
use Rattle.std.specs.List.{slice_get}
use Rattle.std.proofs.lemmas.Option.{slice_get-map}
use Rattle.std.specs.Prelude.{option_map}
use Rattle.walk.specs.Lists.{numbers}
use Rattle.cel_value.specs.Device.{Device}
use Rattle.pool_view.specs.Names.{at_name}
use Rattle.pool_view.specs.declared.matching.Match.{Match}
use Rattle.api_cluster.specs.declared.types.DeviceClass.{DeviceClass}
use Rattle.pool_view.specs.declared.stored.Stored.{Stored}
use Rattle.pool_view.specs.Pools.{Offered}
use Rattle.request_rules.specs.Input.{SearchInput}
use Rattle.request_rules.specs.Names.{result_name}
use Rattle.request_rules.specs.Asked.{Asked, is_fault, is_yes, match_at, match_by, matching, meets}
use Rattle.request_rows.specs.declared.rows.Row.{Row}
use Rattle.request_rules.specs.Match.{ClassTable, match_class, matched_by}
use Rattle.request_rows.specs.Columns.{cell, cell_by, columns_for, fault_from, match_got, match_in, parts_in, selectors_of, yes_from}
use Rattle.request_rows.specs.Rows.{first_fault, row_by, row_for, rows_from}
use Rattle.request_rows.specs.Taints.{if_tainted, tolerates_device}
use Rattle.device_match.specs.Selected.{device_in, says, says_by}
use Rattle.request_rows.proofs.Lists.{get_seam, longer, map_map, moved}

-- ---- columns

abbrev pub column_for : SearchInput → List Asked → Offered → List Match
column_for w asks o = map (λ a. w.matched a.ask o) asks

says_is : (d : Device) (c : Option (Stored DeviceClass)) (own : List (List ℕ)) → says_by (selectors_of c) own d ≡ match_class c own d
says_is d None own = refl
says_is d (Some c) own = refl

column_is : (classes : ClassTable) (o : Offered) (asks : List Asked) → map (λ a. says (device_in o) (parts_in classes a)) asks ≡ map (λ (a : Asked). matched_by classes a.ask o) asks
column_is classes o [] = refl
column_is classes o (a ∷ asks) =
    ap (λ (m : Match). m ∷ map (λ b. says (device_in o) (parts_in classes b)) asks) (says_is (device_in o) (at_name classes a.ask.class) a.ask.selectors)
    ∙ ap (λ (ms : List Match). matched_by classes a.ask o ∷ ms) (column_is classes o asks)

pub columns_are : (w : SearchInput) (classes : ClassTable) (asks : List Asked) (os : List Offered) → w.matched ≡ matched_by classes → columns_for classes asks os ≡ map (column_for w asks) os
columns_are w classes asks [] e = refl
columns_are w classes asks (o ∷ os) e =
    ap (λ (c : List Match). c ∷ columns_for classes asks os)
    (map_map (says (device_in o)) (parts_in classes) asks ∙ column_is classes o asks ∙ sym (ap (λ m. map (λ (a : Asked). m a.ask o) asks) e))
    ∙ ap (λ (cs : List (List Match)). column_for w asks o ∷ cs) (columns_are w classes asks os e)

pub in_column : (w : SearchInput) (asks : List Asked) (row : ℕ) (a : Asked) (o : Offered) → slice_get asks row ≡ Some a → match_in (column_for w asks o) row ≡ w.matched a.ask o
in_column w asks row a o e = ap match_got (slice_get-map (λ (a : Asked). w.matched a.ask o) asks row ∙ ap (option_map (λ (a : Asked). w.matched a.ask o)) e)

cell_is_by : (w : SearchInput) (asks : List Asked) (row : ℕ) (a : Asked) (o : Option Offered) → slice_get asks row ≡ Some a → cell_by (option_map (column_for w asks) o) row ≡ match_by w a.ask o
cell_is_by w asks row a None e = refl
cell_is_by w asks row a (Some o) e = in_column w asks row a o e

pub cell_is : (w : SearchInput) (asks : List Asked) (row : ℕ) (a : Asked) (x : ℕ) → slice_get asks row ≡ Some a → cell (map (column_for w asks) w.devices) row x ≡ match_at w a.ask x
cell_is w asks row a x e =
    ap (λ (c : Option (List Match)). cell_by c row) (slice_get-map (column_for w asks) w.devices x)
    ∙ cell_is_by w asks row a (slice_get w.devices x) e

-- ---- rows

pub at_here : (w : SearchInput) (a : Asked) (before : List Offered) (o : Offered) (os : List Offered) (i : ℕ) → w.devices ≡ before ++ o ∷ os → i ≡ length before → match_at w a.ask i ≡ w.matched a.ask o
at_here w a before o os i e f =
    ap (match_by w a.ask) (ap (λ (l : List Offered). slice_get l i) e ∙ ap (slice_get (before ++ o ∷ os)) f ∙ get_seam before o os)

yes_are : (w : SearchInput) (asks : List Asked) (row : ℕ) (a : Asked) (before os : List Offered) (i : ℕ) → slice_get asks row ≡ Some a → w.devices ≡ before ++ os → i ≡ length before
    → yes_from i row (map (column_for w asks) os) ≡ filter (meets w a.ask) (numbers i (length os))
yes_are w asks row a before [] i g e f = refl
yes_are w asks row a before (o ∷ os) i g e f =
    ap (λ (m : Match). cond (is_yes m) (i ∷ yes_from (i + 1) row (map (column_for w asks) os)) (yes_from (i + 1) row (map (column_for w asks) os)))
    (in_column w asks row a o g ∙ sym (at_here w a before o os i e f))
    ∙ ap (λ (l : List ℕ). cond (meets w a.ask i) (i ∷ l) l) (yes_are w asks row a (before ++ o ∷ []) os (i + 1) g (moved w.devices before o os e) (longer before o i f))

fault_are : (w : SearchInput) (asks : List Asked) (row : ℕ) (a : Asked) (before os : List Offered) (i : ℕ) → slice_get asks row ≡ Some a → w.devices ≡ before ++ os → i ≡ length before
    → fault_from i row (map (column_for w asks) os) ≡ first_fault w a (numbers i (length os))
fault_are w asks row a before [] i g e f = refl
fault_are w asks row a before (o ∷ os) i g e f =
    ap (λ (m : Match). cond (is_fault m) (Some i) (fault_from (i + 1) row (map (column_for w asks) os)))
    (in_column w asks row a o g ∙ sym (at_here w a before o os i e f))
    ∙ ap (λ (l : Option ℕ). cond (is_fault (match_at w a.ask i)) (Some i) l) (fault_are w asks row a (before ++ o ∷ []) os (i + 1) g (moved w.devices before o os e) (longer before o i f))

abbrev row_with : Asked → List ℕ → Option ℕ → List Bool → Row
row_with a matching fault tolerated = record {
  claim = a.label.claim;
  key = a.key;
  name = result_name a.label;
  admin = a.label.admin;
  mode = a.ask.mode;
  matching = matching;
  fault = fault;
  tolerated = tolerated;
}

row_is : (w : SearchInput) (asks : List Asked) (row : ℕ) (a : Asked) → slice_get asks row ≡ Some a → row_by (map (column_for w asks) w.devices) (if_tainted w.devices) row a ≡ row_for w a
unfolding matching
row_is w asks row a e =
    ap (λ (l : List ℕ). row_with a l (fault_from 0 row (map (column_for w asks) w.devices)) (map (tolerates_device a.ask) (if_tainted w.devices))) (yes_are w asks row a [] w.devices 0 e refl refl)
    ∙ ap (λ (x : Option ℕ). row_with a (matching w a.ask) x (map (tolerates_device a.ask) (if_tainted w.devices))) (fault_are w asks row a [] w.devices 0 e refl refl)

rows_are_from : (w : SearchInput) (asks before rest : List Asked) (row : ℕ) → asks ≡ before ++ rest → row ≡ length before
    → rows_from (map (column_for w asks) w.devices) (if_tainted w.devices) row rest ≡ map (row_for w) rest
rows_are_from w asks before [] row e f = refl
rows_are_from w asks before (a ∷ rest) row e f =
    ap (λ (r : Row). r ∷ rows_from (map (column_for w asks) w.devices) (if_tainted w.devices) (row + 1) rest)
    (row_is w asks row a (ap (λ (l : List Asked). slice_get l row) e ∙ ap (slice_get (before ++ a ∷ rest)) f ∙ get_seam before a rest))
    ∙ ap (λ (rs : List Row). row_for w a ∷ rs) (rows_are_from w asks (before ++ a ∷ []) rest (row + 1) (moved asks before a rest e) (longer before a row f))

pub rows_are : (w : SearchInput) (asks : List Asked) → rows_from (map (column_for w asks) w.devices) (if_tainted w.devices) 0 asks ≡ map (row_for w) asks
rows_are w asks = rows_are_from w asks [] asks 0 refl refl
