-- How rows relate to the input that they were made of.
use Rattle.std.proofs.Common.{ℕ, ◌<◌, ◌≡◌, List, [], Bool, cond, Option, map, length, refl, sym, ap, ◌∙◌, subst, arith}
use Rattle.std.specs.List.{list_any}
use Rattle.std.specs.Prelude.{option_map}
use Rattle.walk.specs.Walk as walks
use Rattle.pool_view.specs.declared.matching.Match.{Match}
use Rattle.pool_view.specs.Pools.{Offered}
use Rattle.request_rules.specs.Input.{SearchInput}
use Rattle.request_rules.specs.Asked.{Asked, Wish, asked, slots, slots_for, ways_of, wishes, wishes_from}
use Rattle.request_rules.specs.Faults.{fault_of}
use Rattle.request_rules.specs.Lists.{Each, first_some}
use Rattle.request_rules.specs.Problem.{open_slots, shape_of}
use Rattle.request_rules.specs.Problem as problem
use Rattle.request_rows.specs.declared.choice.Shape.{Shape}
use Rattle.request_rows.specs.declared.choice.Slot.{Slot}
use Rattle.request_rows.specs.declared.fault.FaultPlace.{FaultPlace}
use Rattle.request_rows.specs.declared.rows.Row.{Row}
use Rattle.request_rows.specs.declared.ways.RequestRows.{RequestRows}
use Rattle.request_rows.specs.Chosen.{chosen_rows, fails_at, faulty_at, is_crowded, shape_in, slots_by, slots_in}
use Rattle.request_rows.specs.Columns.{columns_for}
use Rattle.request_rows.specs.Places.{place_in}
use Rattle.request_rows.specs.Rows.{AreRows, row_for, rows_from}
use Rattle.request_rows.specs.Seen.{fault_seen, shape_seen, slot_seen}
use Rattle.request_rows.specs.Taints.{if_tainted}
use Rattle.request_rows.specs.Wanted.{RowsFields, WantsFields, asking, input_of}
use Rattle.request_rules.specs.Ways.{all_asked, ways_from}
use Rattle.request_rows.specs.Requests.{requests_from}
use Rattle.request_rows.proofs.Crowded.{AreInOrder, crowded, order_claims}
use Rattle.request_rows.proofs.Filled.{column_for, columns_are, rows_are}
use Rattle.request_rows.proofs.Found.{place_first}
use Rattle.request_rows.proofs.Lists.{map_length}
use Rattle.request_rows.proofs.Picked.{ArePicked, picked}
use Rattle.request_rows.proofs.Shaped.{below_all, below_each, below_shape, crowded_rows, fails_any, faulty_any, shape_cases, slots_all, slots_seen}

-- ---- the rows

pub made : (wants : WantsFields) (devices : List Offered) (broken : Bool) (qs : List Wish) (ways : List Asked) (counts : List ℕ) (requests : List RequestRows) (rows : List Row) (columns : List (List Match))
    → qs ≡ wishes_from 0 wants.claims → counts ≡ map (λ q. ways_of q.request.kind) qs → requests ≡ requests_from 0 qs → ways ≡ ways_from qs
    → columns ≡ columns_for wants.classes ways devices → rows ≡ rows_from columns (if_tainted devices) 0 ways
    → AreRows (asking wants devices broken) counts requests rows columns
unfolding all_asked
made wants devices broken qs ways counts requests rows columns e f g h i j =
    let w : SearchInput = asking wants devices broken in
    let all : ways ≡ all_asked w = h ∙ ap ways_from e in
    let k : columns ≡ map (column_for w ways) devices = i ∙ columns_are w wants.classes ways devices refl in
    record {
      options_are = f ∙ ap (map (λ (q : Wish). ways_of q.request.kind)) e;
      requests_are = g ∙ ap (requests_from 0) e;
      rows_are = j ∙ ap (λ (c : List (List Match)). rows_from c (if_tainted devices) 0 ways) k ∙ rows_are w ways ∙ ap (map (row_for w)) all;
      columns_are = k ∙ ap (λ (l : List Asked). map (column_for w l) devices) all;
    }

-- ---- a choice

picked_all : (w : SearchInput) (c : List ℕ) → ArePicked (all_asked w) (chosen_rows (requests_from 0 (wishes w)) c) (asked w c)
unfolding all_asked asked
picked_all w c = picked (all_asked w) [] 0 (wishes w) c refl refl

in_order : (w : SearchInput) (c : List ℕ) → AreInOrder 0 (length w.claims) (asked w c)
unfolding asked
in_order w c = order_claims 0 (length w.claims) w.claims c (omega arith)

abbrev rows_in : SearchInput → List Row
rows_in w = map (row_for w) (all_asked w)

shape_fixed : (w : SearchInput) (c rs : List ℕ) → ArePicked (all_asked w) rs (asked w c) → shape_seen (shape_in w.broken (rows_in w) rs (slots_in (rows_in w) rs)) ≡ shape_of w c
unfolding shape_of slots
shape_fixed w c rs h =
    shape_cases (list_any (faulty_at (rows_in w)) rs) (list_any (fails_at w.broken (rows_in w)) rs) (is_crowded (rows_in w) 0 0 rs) (length (slots_in (rows_in w) rs))
    ∙ ap (λ (t : Bool). cond t walks.Faulty (cond (list_any (fails_at w.broken (rows_in w)) rs) walks.Hopeless (cond (is_crowded (rows_in w) 0 0 rs) walks.Hopeless (walks.Open (length (slots_in (rows_in w) rs))))))
    (faulty_any w (all_asked w) rs (asked w c) h)
    ∙ ap (λ (t : Bool). cond (list_any (problem.is_faulty w) (asked w c)) walks.Faulty (cond t walks.Hopeless (cond (is_crowded (rows_in w) 0 0 rs) walks.Hopeless (walks.Open (length (slots_in (rows_in w) rs))))))
    (fails_any w (all_asked w) rs (asked w c) h)
    ∙ ap (λ (t : Bool). cond (list_any (problem.is_faulty w) (asked w c)) walks.Faulty (cond (list_any (problem.all_fails w) (asked w c)) walks.Hopeless (cond t walks.Hopeless (walks.Open (length (slots_in (rows_in w) rs))))))
    (crowded_rows w (all_asked w) 0 0 rs (asked w c) h ∙ crowded w (length w.claims) (asked w c) (in_order w c))
    ∙ ap (λ (n : ℕ). cond (list_any (problem.is_faulty w) (asked w c)) walks.Faulty (cond (list_any (problem.all_fails w) (asked w c)) walks.Hopeless (cond (problem.is_crowded w (slots_for w (asked w c))) walks.Hopeless (walks.Open n))))
    (sym (map_length (slot_seen w) (slots_in (rows_in w) rs)) ∙ ap length (slots_all w (all_asked w) rs (asked w c) refl h))

slots_fixed : (w : SearchInput) (c rs : List ℕ) → ArePicked (all_asked w) rs (asked w c) → map (slot_seen w) (slots_by (shape_in w.broken (rows_in w) rs (slots_in (rows_in w) rs)) (slots_in (rows_in w) rs)) ≡ open_slots w c
unfolding open_slots slots
slots_fixed w c rs h =
    slots_seen w (shape_in w.broken (rows_in w) rs (slots_in (rows_in w) rs)) (slots_in (rows_in w) rs)
    ∙ ap (λ s. problem.slots_by s (map (slot_seen w) (slots_in (rows_in w) rs))) (shape_fixed w c rs h)
    ∙ ap (problem.slots_by (shape_of w c)) (slots_all w (all_asked w) rs (asked w c) refl h)

pub shape_made : (w : SearchInput) (counts : List ℕ) (requests : List RequestRows) (rows : List Row) (columns : List (List Match)) (c rs : List ℕ)
    → AreRows w counts requests rows columns → rs ≡ chosen_rows requests c → shape_seen (shape_in w.broken rows rs (slots_in rows rs)) ≡ shape_of w c
shape_made w counts requests rows columns c rs h e =
    rw (e, h.requests_are, h.rows_are) (shape_fixed w c (chosen_rows (requests_from 0 (wishes w)) c) (picked_all w c))

pub slots_made : (w : SearchInput) (counts : List ℕ) (requests : List RequestRows) (rows : List Row) (columns : List (List Match)) (c rs : List ℕ)
    → AreRows w counts requests rows columns → rs ≡ chosen_rows requests c → map (slot_seen w) (slots_by (shape_in w.broken rows rs (slots_in rows rs)) (slots_in rows rs)) ≡ open_slots w c
slots_made w counts requests rows columns c rs h e =
    rw (e, h.requests_are, h.rows_are) (slots_fixed w c (chosen_rows (requests_from 0 (wishes w)) c) (picked_all w c))

pub rows_made : (w : SearchInput) (counts : List ℕ) (requests : List RequestRows) (rows : List Row) (columns : List (List Match)) (c rs : List ℕ)
    → AreRows w counts requests rows columns → rs ≡ chosen_rows requests c → Each (λ s. s.row < length (all_asked w)) (slots_by (shape_in w.broken rows rs (slots_in rows rs)) (slots_in rows rs))
rows_made w counts requests rows columns c rs h e =
    rw (e, h.requests_are)
    (below_each (length (all_asked w)) _ (below_shape (length (all_asked w)) (shape_in w.broken rows (chosen_rows (requests_from 0 (wishes w)) c) (slots_in rows (chosen_rows (requests_from 0 (wishes w)) c))) _
    (below_all (all_asked w) rows (chosen_rows (requests_from 0 (wishes w)) c) (asked w c) (picked_all w c))))

fault_fixed : (w : SearchInput) (c rs : List ℕ) → ArePicked (all_asked w) rs (asked w c) → option_map fault_seen (first_some (place_in w.devices (map (column_for w (all_asked w)) w.devices) (rows_in w)) rs) ≡ fault_of w c
unfolding fault_of
fault_fixed w c rs h = place_first w (all_asked w) rs (asked w c) h

pub fault_made : (w : SearchInput) (counts : List ℕ) (requests : List RequestRows) (rows : List Row) (columns : List (List Match)) (c rs : List ℕ)
    → AreRows w counts requests rows columns → rs ≡ chosen_rows requests c → option_map fault_seen (first_some (place_in w.devices columns rows) rs) ≡ fault_of w c
fault_made w counts requests rows columns c rs h e =
    rw (e, h.requests_are, h.rows_are, h.columns_are) (fault_fixed w c (chosen_rows (requests_from 0 (wishes w)) c) (picked_all w c))

-- ---- the calls

pub begun_shape : (v u : RowsFields) (counts : List ℕ) (requests requests' : List RequestRows) (rows rows' : List Row) (columns : List (List Match)) (c chosen rs : List ℕ) (s : Shape)
    → AreRows (input_of v) counts requests rows columns → v ≡ u → requests' ≡ requests → rows' ≡ rows → chosen ≡ chosen_rows requests' c → rs ≡ chosen
    → s ≡ shape_in v.broken rows' rs (slots_in rows' rs) → shape_seen s ≡ shape_of (input_of u) c
begun_shape v u counts requests requests' rows rows' columns c chosen rs s h e f g i j k =
    ap shape_seen k
    ∙ ap (λ (r : List Row). shape_seen (shape_in v.broken r rs (slots_in r rs))) g
    ∙ shape_made (input_of v) counts requests rows columns c rs h (j ∙ i ∙ ap (λ (q : List RequestRows). chosen_rows q c) f)
    ∙ ap (λ (x : RowsFields). shape_of (input_of x) c) e

pub begun_slots : (v u : RowsFields) (counts : List ℕ) (requests requests' : List RequestRows) (rows rows' : List Row) (columns : List (List Match)) (c chosen rs : List ℕ) (ss : List Slot)
    → AreRows (input_of v) counts requests rows columns → v ≡ u → requests' ≡ requests → rows' ≡ rows → chosen ≡ chosen_rows requests' c → rs ≡ chosen
    → ss ≡ slots_by (shape_in v.broken rows' rs (slots_in rows' rs)) (slots_in rows' rs) → map (slot_seen (input_of u)) ss ≡ open_slots (input_of u) c
begun_slots v u counts requests requests' rows rows' columns c chosen rs ss h e f g i j k =
    ap (map (slot_seen (input_of u))) k
    ∙ ap (λ (r : List Row). map (slot_seen (input_of u)) (slots_by (shape_in v.broken r rs (slots_in r rs)) (slots_in r rs))) g
    ∙ sym (ap (λ (x : RowsFields). map (slot_seen (input_of x)) (slots_by (shape_in v.broken rows rs (slots_in rows rs)) (slots_in rows rs))) e)
    ∙ slots_made (input_of v) counts requests rows columns c rs h (j ∙ i ∙ ap (λ (q : List RequestRows). chosen_rows q c) f)
    ∙ ap (λ (x : RowsFields). open_slots (input_of x) c) e

pub begun_rows : (v u : RowsFields) (counts : List ℕ) (requests requests' : List RequestRows) (rows rows' : List Row) (columns : List (List Match)) (c chosen rs : List ℕ) (ss : List Slot)
    → AreRows (input_of v) counts requests rows columns → v ≡ u → requests' ≡ requests → rows' ≡ rows → chosen ≡ chosen_rows requests' c → rs ≡ chosen
    → ss ≡ slots_by (shape_in v.broken rows' rs (slots_in rows' rs)) (slots_in rows' rs) → Each (λ s. s.row < length (all_asked (input_of u))) ss
begun_rows v u counts requests requests' rows rows' columns c chosen rs ss h e f g i j k =
    let whole : ss ≡ slots_by (shape_in v.broken rows rs (slots_in rows rs)) (slots_in rows rs)
    = k ∙ ap (λ (r : List Row). slots_by (shape_in v.broken r rs (slots_in r rs)) (slots_in r rs)) g in
    subst (λ (x : RowsFields). Each (λ s. s.row < length (all_asked (input_of x))) ss) e
    (subst (λ (l : List Slot). Each (λ s. s.row < length (all_asked (input_of v))) l) (sym whole)
    (rows_made (input_of v) counts requests rows columns c rs h (j ∙ i ∙ ap (λ (q : List RequestRows). chosen_rows q c) f)))

pub found : (v u : RowsFields) (counts : List ℕ) (requests requests' : List RequestRows) (rows rows' : List Row) (columns columns' : List (List Match)) (c chosen rs : List ℕ) (place : Option FaultPlace)
    → AreRows (input_of v) counts requests rows columns → v ≡ u → requests' ≡ requests → rows' ≡ rows → columns' ≡ columns → chosen ≡ chosen_rows requests' c → rs ≡ chosen
    → place ≡ first_some (place_in v.devices columns' rows') rs → option_map fault_seen place ≡ fault_of (input_of u) c
found v u counts requests requests' rows rows' columns columns' c chosen rs place h e f g m i j k =
    ap (option_map fault_seen) k
    ∙ ap (λ (r : List Row). option_map fault_seen (first_some (place_in v.devices columns' r) rs)) g
    ∙ ap (λ (cs : List (List Match)). option_map fault_seen (first_some (place_in v.devices cs rows) rs)) m
    ∙ fault_made (input_of v) counts requests rows columns c rs h (j ∙ i ∙ ap (λ (q : List RequestRows). chosen_rows q c) f)
    ∙ ap (λ (x : RowsFields). fault_of (input_of x) c) e
