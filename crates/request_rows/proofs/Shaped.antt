-- Shapes and slots of the rows that a choice picks.
use Rattle.std.proofs.Common.{ℕ, zero, suc, ◌+◌, ◌<◌, ◌≡◌, List, [], ◌∷◌, ◌++◌, Bool, true, false, ◌&&◌, ◌||◌, cond, eqb, ltb, Option, None, Some, map, length, is_some, refl, sym, ap, ◌∙◌}
use Rattle.std.specs.List.{slice_get, list_any}
use Rattle.std.proofs.lemmas.Option.{slice_get-map, slice_get_within, get_or_from_slice_get}
use Rattle.std.specs.Prelude.{option_map}
use Rattle.walk.specs.Lists.{numbers}
use Rattle.walk.specs.Walk as walks
use Rattle.api_claim.specs.declared.types.AllocationMode.{AllocationMode}
use Rattle.api_claim.specs.declared.types.AllocationMode.TheVariants.{ExactCount, All}
use Rattle.pool_view.specs.Pools.{Offered}
use Rattle.request_rules.specs.Input.{SearchInput}
use Rattle.request_rules.specs.Asked as rules
use Rattle.request_rules.specs.Asked.{Asked, is_fault, match_at, matching, seats, seats_by, slots_for, slots_of}
use Rattle.request_rules.specs.Lists.{Each}
use Rattle.request_rules.specs.Problem as problem
use Rattle.request_rows.specs.declared.choice.Seat.{Seat}
use Rattle.request_rows.specs.declared.choice.Shape.{Shape}
use Rattle.request_rows.specs.declared.choice.Shape.TheVariants.{Faulty, Hopeless, Open}
use Rattle.request_rows.specs.declared.choice.Slot.{Slot}
use Rattle.request_rows.specs.declared.rows.Row.{Row}
use Rattle.request_rows.specs.Chosen.{all_fails, due_of, due_with, fails_at, fails_by, faulty_at, is_crowded, is_faulty, seat_due, seats_counted, seats_repeated, slot_of, slots_at, slots_by, slots_in}
use Rattle.request_rows.specs.Chosen as chosen
use Rattle.request_rows.specs.Rows.{first_fault, row_for}
use Rattle.request_rows.specs.Seen.{seat_seen, shape_seen, slot_seen}
use Rattle.request_rules.specs.Ways.{all_asked, nothing_asked}
use Rattle.request_rows.proofs.Crowded.{crowded_by, count_is}
use Rattle.request_rows.proofs.Filled.{at_here}
use Rattle.request_rows.proofs.Lists.{longer, map_append, map_map, moved}
use Rattle.request_rows.proofs.Picked.{ArePicked}

pub row_there : (w : SearchInput) (asks : List Asked) (r : ℕ) (a : Asked) → slice_get asks r ≡ Some a → slice_get (map (row_for w) asks) r ≡ Some (row_for w a)
row_there w asks r a e = slice_get-map (row_for w) asks r ∙ ap (option_map (row_for w)) e

or_same : (a b c d : Bool) → a ≡ b → c ≡ d → (a || c) ≡ (b || d)
or_same a b c d e f = ap (λ (t : Bool). t || c) e ∙ ap (λ (t : Bool). b || t) f

-- ---- evaluation errors

some_cond : (b : Bool) (i : ℕ) (o : Option ℕ) → is_some (cond b (Some i) o) ≡ (b || is_some o)
some_cond true i o = refl
some_cond false i o = refl

faulty_from : (w : SearchInput) (a : Asked) (before os : List Offered) (i : ℕ) → w.devices ≡ before ++ os → i ≡ length before
    → is_some (first_fault w a (numbers i (length os))) ≡ list_any (λ o. is_fault (w.matched a.ask o)) os
faulty_from w a before [] i e f = refl
faulty_from w a before (o ∷ os) i e f =
    some_cond (is_fault (match_at w a.ask i)) i (first_fault w a (numbers (i + 1) (length os)))
    ∙ or_same (is_fault (match_at w a.ask i)) (is_fault (w.matched a.ask o)) (is_some (first_fault w a (numbers (i + 1) (length os)))) (list_any (λ o. is_fault (w.matched a.ask o)) os)
    (ap is_fault (at_here w a before o os i e f))
    (faulty_from w a (before ++ o ∷ []) os (i + 1) (moved w.devices before o os e) (longer before o i f))

faulty_one : (w : SearchInput) (asks : List Asked) (r : ℕ) (a : Asked) → slice_get asks r ≡ Some a → is_faulty (slice_get (map (row_for w) asks) r) ≡ problem.is_faulty w a
faulty_one w asks r a e = ap is_faulty (row_there w asks r a e) ∙ faulty_from w a [] w.devices 0 refl refl

pub faulty_any : (w : SearchInput) (asks : List Asked) (rs : List ℕ) (l : List Asked) → ArePicked asks rs l → list_any (faulty_at (map (row_for w) asks)) rs ≡ list_any (problem.is_faulty w) l
faulty_any w asks [] [] h = refl
faulty_any w asks [] (a ∷ l) h = absurd h
faulty_any w asks (r ∷ rs) [] h = absurd h
faulty_any w asks (r ∷ rs) (a ∷ l) h =
    or_same (is_faulty (slice_get (map (row_for w) asks) r)) (problem.is_faulty w a) (list_any (faulty_at (map (row_for w) asks)) rs) (list_any (problem.is_faulty w) l)
    (faulty_one w asks r a h.0) (faulty_any w asks rs l h.1)

-- ---- requests for all devices

fails_mode : (w : SearchInput) (a : Asked) (m : AllocationMode) → a.ask.mode ≡ m → fails_by w.broken (matching w a.ask) m ≡ problem.all_fails w a
fails_mode w a (ExactCount n) e = sym (ap (λ (m : AllocationMode). problem.is_all m && (w.broken || problem.is_none (matching w a.ask))) e)
fails_mode w a All e = sym (ap (λ (m : AllocationMode). problem.is_all m && (w.broken || problem.is_none (matching w a.ask))) e)

fails_one : (w : SearchInput) (asks : List Asked) (r : ℕ) (a : Asked) → slice_get asks r ≡ Some a → all_fails w.broken (slice_get (map (row_for w) asks) r) ≡ problem.all_fails w a
fails_one w asks r a e = ap (all_fails w.broken) (row_there w asks r a e) ∙ fails_mode w a a.ask.mode refl

pub fails_any : (w : SearchInput) (asks : List Asked) (rs : List ℕ) (l : List Asked) → ArePicked asks rs l → list_any (fails_at w.broken (map (row_for w) asks)) rs ≡ list_any (problem.all_fails w) l
fails_any w asks [] [] h = refl
fails_any w asks [] (a ∷ l) h = absurd h
fails_any w asks (r ∷ rs) [] h = absurd h
fails_any w asks (r ∷ rs) (a ∷ l) h =
    or_same (all_fails w.broken (slice_get (map (row_for w) asks) r)) (problem.all_fails w a) (list_any (fails_at w.broken (map (row_for w) asks)) rs) (list_any (problem.all_fails w) l)
    (fails_one w asks r a h.0) (fails_any w asks rs l h.1)

-- ---- how many slots

due_one : (w : SearchInput) (asks : List Asked) (r : ℕ) (a : Asked) → slice_get asks r ≡ Some a → due_of (slice_get (map (row_for w) asks) r) ≡ (a.label.claim, length (seats w a.ask))
due_one w asks r a e = ap due_of (row_there w asks r a e) ∙ ap (λ (n : ℕ). (a.label.claim, n)) (count_is w a.ask)

abbrev crowded_next : List Row → List ℕ → (claim total : ℕ) → ℕ × ℕ → Bool
crowded_next rows rs claim total due = ltb 32 (due_with claim total due) || is_crowded rows due.0 (due_with claim total due) rs

pub crowded_rows : (w : SearchInput) (asks : List Asked) (claim total : ℕ) (rs : List ℕ) (l : List Asked) → ArePicked asks rs l → is_crowded (map (row_for w) asks) claim total rs ≡ crowded_by w claim total l
crowded_rows w asks claim total [] [] h = refl
crowded_rows w asks claim total [] (a ∷ l) h = absurd h
crowded_rows w asks claim total (r ∷ rs) [] h = absurd h
crowded_rows w asks claim total (r ∷ rs) (a ∷ l) h =
    ap (crowded_next (map (row_for w) asks) rs claim total) (due_one w asks r a h.0)
    ∙ ap (λ (t : Bool). ltb 32 (cond (eqb a.label.claim claim) total 0 + length (seats w a.ask)) || t)
    (crowded_rows w asks a.label.claim (cond (eqb a.label.claim claim) total 0 + length (seats w a.ask)) rs l h.1)

-- ---- slots

repeated_seen : (n : ℕ) → map seat_seen (seats_repeated n) ≡ rules.repeated n rules.Next
repeated_seen zero = refl
repeated_seen (suc n) = ap (λ (ss : List rules.Seat). rules.Next ∷ ss) (repeated_seen n)

counted_seen : (n : ℕ) → map seat_seen (seats_counted n) ≡ rules.seats_counted n
counted_seen zero = refl
counted_seen (suc n) = ap (λ (ss : List rules.Seat). rules.First ∷ ss) (repeated_seen n)

seats_seen : (w : SearchInput) (a : Asked) (m : AllocationMode) → map seat_seen (chosen.seats_by (matching w a.ask) m) ≡ seats_by w a.ask m
seats_seen w a (ExactCount n) = counted_seen n
seats_seen w a All = map_map seat_seen seat_due (matching w a.ask)

slots_one : (w : SearchInput) (asks : List Asked) (r : ℕ) (a : Asked) → asks ≡ all_asked w → slice_get asks r ≡ Some a → map (slot_seen w) (slots_at r (slice_get (map (row_for w) asks) r)) ≡ slots_of w a
unfolding seats
slots_one w asks r a g e =
    ap (λ o. map (slot_seen w) (slots_at r o)) (row_there w asks r a e)
    ∙ map_map (slot_seen w) (slot_of r) (chosen.seats_by (matching w a.ask) a.ask.mode)
    ∙ ap (λ (b : Asked). map (λ (s : Seat). record { asked = b; seat = seat_seen s }) (chosen.seats_by (matching w a.ask) a.ask.mode))
    (get_or_from_slice_get (all_asked w) r a nothing_asked (ap (λ (l : List Asked). slice_get l r) (sym g) ∙ e))
    ∙ sym (map_map (λ (s : rules.Seat). record { asked = a; seat = s }) seat_seen (chosen.seats_by (matching w a.ask) a.ask.mode))
    ∙ ap (map (λ (s : rules.Seat). record { asked = a; seat = s })) (seats_seen w a a.ask.mode)

pub slots_all : (w : SearchInput) (asks : List Asked) (rs : List ℕ) (l : List Asked) → asks ≡ all_asked w → ArePicked asks rs l → map (slot_seen w) (slots_in (map (row_for w) asks) rs) ≡ slots_for w l
slots_all w asks [] [] g h = refl
slots_all w asks [] (a ∷ l) g h = absurd h
slots_all w asks (r ∷ rs) [] g h = absurd h
slots_all w asks (r ∷ rs) (a ∷ l) g h =
    map_append (slot_seen w) (slots_at r (slice_get (map (row_for w) asks) r)) (slots_in (map (row_for w) asks) rs)
    ∙ ap (λ (ss : List rules.Slot). ss ++ map (slot_seen w) (slots_in (map (row_for w) asks) rs)) (slots_one w asks r a g h.0)
    ∙ ap (λ (ss : List rules.Slot). slots_of w a ++ ss) (slots_all w asks rs l g h.1)

-- ---- rows of slots

abbrev pub AreBelow : ℕ → List Slot → Type 0
AreBelow n [] = Unit {0}
AreBelow n (s ∷ ss) = (s.row < n) × AreBelow n ss

below_seats : (n r : ℕ) (seats : List Seat) → r < n → AreBelow n (map (slot_of r) seats)
below_seats n r [] h = tt
below_seats n r (s ∷ seats) h = (h, below_seats n r seats h)

below_row : (n r : ℕ) (o : Option Row) → r < n → AreBelow n (slots_at r o)
below_row n r None h = tt
below_row n r (Some row) h = below_seats n r (chosen.seats_by row.matching row.mode) h

below_append : (n : ℕ) (ss ts : List Slot) → AreBelow n ss → AreBelow n ts → AreBelow n (ss ++ ts)
below_append n [] ts h k = k
below_append n (s ∷ ss) ts h k = (h.0, below_append n ss ts h.1 k)

pub below_all : (asks : List Asked) (rows : List Row) (rs : List ℕ) (l : List Asked) → ArePicked asks rs l → AreBelow (length asks) (slots_in rows rs)
below_all asks rows [] [] h = tt
below_all asks rows [] (a ∷ l) h = absurd h
below_all asks rows (r ∷ rs) [] h = absurd h
below_all asks rows (r ∷ rs) (a ∷ l) h =
    below_append (length asks) (slots_at r (slice_get rows r)) (slots_in rows rs)
    (below_row (length asks) r (slice_get rows r) (slice_get_within asks r a h.0))
    (below_all asks rows rs l h.1)

pub below_shape : (n : ℕ) (s : Shape) (ss : List Slot) → AreBelow n ss → AreBelow n (slots_by s ss)
below_shape n Faulty ss h = tt
below_shape n Hopeless ss h = tt
below_shape n (Open k) ss h = h

pub below_each : (n : ℕ) (ss : List Slot) → AreBelow n ss → Each (λ s. s.row < n) ss
below_each n [] h i s e = absurd (cc)
below_each n (t ∷ ss) h zero s e = let f : t ≡ s = cc in rw (← f) h.0
below_each n (t ∷ ss) h (suc i) s e = below_each n ss h.1 i s e

-- ---- the whole

pub shape_cases : (a b c : Bool) (n : ℕ) → shape_seen (cond a Faulty (cond b Hopeless (cond c Hopeless (Open n)))) ≡ cond a walks.Faulty (cond b walks.Hopeless (cond c walks.Hopeless (walks.Open n)))
shape_cases true b c n = refl
shape_cases false true c n = refl
shape_cases false false true n = refl
shape_cases false false false n = refl

pub slots_seen : (w : SearchInput) (s : Shape) (ss : List Slot) → map (slot_seen w) (slots_by s ss) ≡ problem.slots_by (shape_seen s) (map (slot_seen w) ss)
slots_seen w Faulty ss = refl
slots_seen w Hopeless ss = refl
slots_seen w (Open n) ss = refl
