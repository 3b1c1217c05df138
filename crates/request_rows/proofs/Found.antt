-- The location of an evaluation error.
use Rattle.std.proofs.Common.{ℕ, ◌+◌, ◌≡◌, List, [], ◌∷◌, ◌++◌, cond, Option, None, Some, map, length, refl, ap, ◌∙◌}
use Rattle.std.specs.List.{slice_get}
use Rattle.std.specs.Prelude.{option_map}
use Rattle.walk.specs.Lists.{numbers}
use Rattle.pool_view.specs.declared.matching.Match.{Match}
use Rattle.pool_view.specs.declared.matching.Match.TheVariants as match
use Rattle.pool_view.specs.Pools.{Offered}
use Rattle.request_rules.specs.Input.{SearchInput}
use Rattle.request_rules.specs.Asked.{Asked, is_fault, match_at}
use Rattle.request_rules.specs.Faults as faults
use Rattle.request_rules.specs.Lists.{first_some, or_else}
use Rattle.request_rows.specs.declared.fault.FaultPlace.{FaultPlace}
use Rattle.request_rows.specs.declared.rows.Row.{Row}
use Rattle.request_rows.specs.Columns.{cell}
use Rattle.request_rows.specs.Places.{place_at, place_by, place_in, place_of, place_of_row}
use Rattle.request_rows.specs.Rows.{first_fault, row_for}
use Rattle.request_rows.specs.Seen.{fault_seen}
use Rattle.request_rows.proofs.Filled.{at_here, cell_is, column_for}
use Rattle.request_rows.proofs.Lists.{get_seam, longer, moved}
use Rattle.request_rows.proofs.Picked.{ArePicked}
use Rattle.request_rows.proofs.Shaped.{row_there}

place_match : (w : SearchInput) (a : Asked) (o : Offered) (m : Match) → option_map fault_seen (place_of (row_for w a) o m) ≡ faults.fault_by a o m
place_match w a o match.Yes = refl
place_match w a o match.No = refl
place_match w a o (match.Fault n why) = refl

-- a device for which the row evaluates to Fault decides, or those after it
next_place : (w : SearchInput) (a : Asked) (columns : List (List Match)) (row i : ℕ) (o : Offered) (m : Match) (later : Option ℕ) (rest : Option faults.FaultPlace)
    → slice_get w.devices i ≡ Some o → cell columns row i ≡ m
    → option_map fault_seen (place_at w.devices columns row (row_for w a) later) ≡ rest
    → option_map fault_seen (place_at w.devices columns row (row_for w a) (cond (is_fault m) (Some i) later)) ≡ or_else (faults.fault_by a o m) rest
next_place w a columns row i o match.Yes later rest e f g = g
next_place w a columns row i o match.No later rest e f g = g
next_place w a columns row i o (match.Fault n why) later rest e f g =
    ap (λ (x : Option Offered). option_map fault_seen (place_by (row_for w a) x (cell columns row i))) e
    ∙ ap (λ (m : Match). option_map fault_seen (place_of (row_for w a) o m)) f

place_from : (w : SearchInput) (a : Asked) (columns : List (List Match)) (row : ℕ) (before os : List Offered) (i : ℕ) → ((x : ℕ) → cell columns row x ≡ match_at w a.ask x) → w.devices ≡ before ++ os → i ≡ length before
    → option_map fault_seen (place_at w.devices columns row (row_for w a) (first_fault w a (numbers i (length os)))) ≡ first_some (faults.fault_on w a) os
place_from w a columns row before [] i c e f = refl
place_from w a columns row before (o ∷ os) i c e f =
    ap (λ (m : Match). option_map fault_seen (place_at w.devices columns row (row_for w a) (cond (is_fault m) (Some i) (first_fault w a (numbers (i + 1) (length os))))))
    (at_here w a before o os i e f)
    ∙ next_place w a columns row i o (w.matched a.ask o) (first_fault w a (numbers (i + 1) (length os))) (first_some (faults.fault_on w a) os)
    (ap (λ (l : List Offered). slice_get l i) e ∙ ap (slice_get (before ++ o ∷ os)) f ∙ get_seam before o os)
    (c i ∙ at_here w a before o os i e f)
    (place_from w a columns row (before ++ o ∷ []) os (i + 1) c (moved w.devices before o os e) (longer before o i f))

place_one : (w : SearchInput) (asks : List Asked) (r : ℕ) (a : Asked) → slice_get asks r ≡ Some a
    → option_map fault_seen (place_in w.devices (map (column_for w asks) w.devices) (map (row_for w) asks) r) ≡ faults.fault_for w a
place_one w asks r a e =
    ap (λ (o : Option Row). option_map fault_seen (place_of_row w.devices (map (column_for w asks) w.devices) r o)) (row_there w asks r a e)
    ∙ place_from w a (map (column_for w asks) w.devices) r [] w.devices 0 (λ x. cell_is w asks r a x e) refl refl

else_seen : (o later : Option FaultPlace) → option_map fault_seen (or_else o later) ≡ or_else (option_map fault_seen o) (option_map fault_seen later)
else_seen None later = refl
else_seen (Some p) later = refl

else_same : {X : Type 0} (a b c d : Option X) → a ≡ b → c ≡ d → or_else a c ≡ or_else b d
else_same {X} a b c d e f = ap (λ (o : Option X). or_else o c) e ∙ ap (λ (o : Option X). or_else b o) f

pub place_first : (w : SearchInput) (asks : List Asked) (rs : List ℕ) (l : List Asked) → ArePicked asks rs l
    → option_map fault_seen (first_some (place_in w.devices (map (column_for w asks) w.devices) (map (row_for w) asks)) rs) ≡ first_some (faults.fault_for w) l
place_first w asks [] [] h = refl
place_first w asks [] (a ∷ l) h = absurd h
place_first w asks (r ∷ rs) [] h = absurd h
place_first w asks (r ∷ rs) (a ∷ l) h =
    else_seen (place_in w.devices (map (column_for w asks) w.devices) (map (row_for w) asks) r) (first_some (place_in w.devices (map (column_for w asks) w.devices) (map (row_for w) asks)) rs)
    ∙ else_same (option_map fault_seen (place_in w.devices (map (column_for w asks) w.devices) (map (row_for w) asks) r)) (faults.fault_for w a)
    (option_map fault_seen (first_some (place_in w.devices (map (column_for w asks) w.devices) (map (row_for w) asks)) rs)) (first_some (faults.fault_for w) l)
    (place_one w asks r a h.0) (place_first w asks rs l h.1)
