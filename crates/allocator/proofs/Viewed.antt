-- What contracts see of a board, from its run.
use Rattle.std.proofs.Common.{ℕ, ◌-◌, ◌<◌, ◌≡◌, List, [], ◌∷◌, ◌++◌, false, map, length, Option, Some, Result, Ok, Err, refl, sym, ap, ◌∙◌, subst, arith}
use Rattle.std.specs.List.{slice_get}
use Rattle.std.specs.Result.{IfOk}
use Rattle.walk.specs.Walk as walks
use Rattle.walk.specs.Walk.{Faulty, Hopeless, Open}
use Rattle.object_fields.specs.declared.key.DeviceId.{DeviceId}
use Rattle.object_fields.specs.declared.key.Key.{Key}
use Rattle.cluster.specs.declared.plan.SelectorFault.{SelectorFault}
use Rattle.request_rules.specs.Draws.{CounterId}
use Rattle.counter_sets.specs.Totals.{drawn_in, value_of}
use Rattle.api_claim.specs.declared.types.ResourceClaim.{ResourceClaim}
use Rattle.request_rules.specs.Input.{SearchInput}
use Rattle.request_rules.specs.Lists.{Each}
use Rattle.request_rules.specs.Asked as asking
use Rattle.request_rules.specs.Asked.{Wish, asked, asked_from, rules_of, slots, slots_for, wishes}
use Rattle.request_rules.specs.Allocation.{result_of}
use Rattle.request_rules.specs.Faults.{fault_of}
use Rattle.request_rules.specs.Grants.{grants_from, grants_of}
use Rattle.request_rules.specs.Problem.{good, open_slots, shape_of, slots_by}
use Rattle.request_rules.specs.Rules as rules
use Rattle.request_rules.specs.Rules.{least_after, picks}
use Rattle.request_rows.specs.declared.choice.Slot.{Slot}
use Rattle.request_rows.specs.Seen.{slot_seen}
use Rattle.request_rows.specs.Wanted.{RowsFields, input_of}
use Rattle.request_rules.specs.Ways.{all_asked}
use Rattle.allocator.specs.declared.run.Run.{Run}
use Rattle.allocator.specs.Agreeing.{AreAgreed}
use Rattle.allocator.specs.Answered.{grant_of, grants_at}
use Rattle.allocator.specs.Input.{with_counters}
use Rattle.allocator.specs.Kept.{IsRun, Placed, board_setting, setting_of}
use Rattle.allocator.specs.Placing.{input_at, next_by, placed, placed_draws}
use Rattle.allocator.proofs.Joining.{PastLaw, PushLaw, bad_next, same_shape}
use Rattle.allocator.proofs.Placed.{nothing_placed}

abbrev pub board_of : RowsFields → List (DeviceId × Key) → Run → Placed
board_of rows held r = record { rows = rows; held = held; totals = r.totals; taken = placed (input_of rows) r.slots.items r.positions.items; choice = r.chosen.items; positions = r.positions.items }

-- ---- results

pub if_ok : {T E : Type 0} (r : Result T E) (P Q : T → Type 0) → ((x : T) → P x → Q x) → IfOk r P → IfOk r Q
if_ok (Ok x) P Q f p = f x p
if_ok (Err e) P Q f p = p

-- ---- what no move changes

pub same_board : (rows : RowsFields) (held : List (DeviceId × Key)) (old new : Run) (b : Placed) → board_of rows held old ≡ b → ((held : List (DeviceId × Key)) → setting_of (input_of rows) held new ≡ setting_of (input_of rows) held old)
    → board_setting (board_of rows held new) ≡ board_setting b
same_board rows held old new b e h = h held ∙ ap board_setting e

pub same_board_at : (rows : RowsFields) (held : List (DeviceId × Key)) (old new : Run) (b : Placed) → board_of rows held old ≡ b → setting_of (input_of rows) held new ≡ setting_of (input_of rows) held old
    → board_setting (board_of rows held new) ≡ board_setting b
same_board_at rows held old new b e h = h ∙ ap board_setting e

-- ---- a choice

pub shape_at : (rows : RowsFields) (held : List (DeviceId × Key)) (r : Run) (b : Placed) (c : List ℕ) → board_of rows held r ≡ b → shape_of (input_of rows) c ≡ shape_of (board_setting b) c
shape_at rows held r b c e =
    sym (same_shape (input_of rows) held (value_of r.totals) (λ k. drawn_in r.totals k - placed_draws (input_of rows) (placed (input_of rows) r.slots.items r.positions.items) k) c)
    ∙ ap (λ (z : Placed). shape_of (board_setting z) c) e

pub shape_here : (rows : RowsFields) (held : List (DeviceId × Key)) (r : Run) (b : Placed) (s : walks.Shape) (c : List ℕ) → board_of rows held r ≡ b → c ≡ r.chosen.items → shape_of (board_setting b) b.choice ≡ s → shape_of (input_of rows) c ≡ s
shape_here rows held r b s c e f g =
    ap (shape_of (input_of rows)) f ∙ shape_at rows held r b r.chosen.items e ∙ ap (shape_of (board_setting b)) (ap (λ (z : Placed). z.choice) e) ∙ g

same_fault : (v : SearchInput) (held : List (DeviceId × Key)) (value : CounterId → Option ℕ) (drawn : CounterId → ℕ) (c : List ℕ) → fault_of (with_counters v held value drawn) c ≡ fault_of v c
unfolding asked fault_of
same_fault v held value drawn c = refl

pub fault_here : (rows : RowsFields) (held : List (DeviceId × Key)) (r : Run) (b : Placed) (c : List ℕ) → board_of rows held r ≡ b → c ≡ r.chosen.items → fault_of (input_of rows) c ≡ fault_of (board_setting b) b.choice
fault_here rows held r b c e f =
    ap (fault_of (input_of rows)) f
    ∙ sym (same_fault (input_of rows) held (value_of r.totals) (λ k. drawn_in r.totals k - placed_draws (input_of rows) (placed (input_of rows) r.slots.items r.positions.items) k) r.chosen.items)
    ∙ ap (λ (z : Placed). fault_of (board_setting z) z.choice) e

pub fault_told : (x y : Option SelectorFault) (f : SelectorFault) → x ≡ y → x ≡ Some f → y ≡ Some f
fault_told x y f e g = sym e ∙ g

-- ---- the next device

pub bad_at : (rows : RowsFields) (held : List (DeviceId × Key)) (r : Run) (ss : List Slot) (l : List ℕ) (b : Placed) (x : ℕ) → PushLaw → PastLaw → map (slot_seen (input_of rows)) r.slots.items ≡ open_slots (input_of rows) r.chosen.items
    → ss ≡ r.slots.items → l ≡ r.positions.items → board_of rows held r ≡ b
    → next_by (input_at (input_of rows) held r.totals (placed (input_of rows) r.slots.items r.positions.items)) (placed (input_of rows) r.slots.items r.positions.items) (least_after 0 l) x (slice_get (map (slot_seen (input_of rows)) ss) (length l)) ≡ false
    → good (board_setting b) b.choice (b.positions ++ x ∷ []) ≡ false
bad_at rows held r ss l b x push past s f g e bad =
    let v = input_of rows in
    let ps = placed v r.slots.items r.positions.items in
    sym (ap (λ (z : Placed). good (board_setting z) z.choice (z.positions ++ x ∷ [])) e)
    ∙ bad_next v held (value_of r.totals) (λ k. drawn_in r.totals k - placed_draws v ps k) r.chosen.items r.slots.items r.positions.items x push past s
    (sym (ap (λ (z : List Slot). next_by (input_at v held r.totals ps) ps (least_after 0 l) x (slice_get (map (slot_seen v) z) (length l))) f
    ∙ ap (λ (z : List ℕ). next_by (input_at v held r.totals ps) ps (least_after 0 z) x (slice_get (map (slot_seen v) r.slots.items) (length z))) g) ∙ bad)

-- ---- a new board

none_asked : (qs : List Wish) → asked_from qs [] ≡ []
none_asked [] = refl
none_asked (q ∷ qs) = refl

no_slots : (v : SearchInput) → slots v [] ≡ []
unfolding asked slots
no_slots v = ap (slots_for v) (none_asked (wishes v))

none_by : (s : walks.Shape) → slots_by s [] ≡ []
none_by Faulty = refl
none_by Hopeless = refl
none_by (Open n) = refl

none_open : (v : SearchInput) → open_slots v [] ≡ []
unfolding open_slots
none_open v = ap (slots_by (shape_of v [])) (no_slots v) ∙ none_by (shape_of v [])

pub run_first : (v : SearchInput) (r : Run) → r.chosen.items ≡ [] → r.slots.items ≡ [] → r.positions.items ≡ [] → AreAgreed v [] (rules_of v) r.agreements.items → IsRun v r
run_first v r c s l a = record {
  slots_are = ap (map (slot_seen v)) s ∙ sym (ap (open_slots v) c ∙ none_open v);
  placing = record {
    rows = subst (λ (z : List Slot). Each (λ t. t.row < length (all_asked v)) z) (sym s) (λ i x e. absurd (cc));
    filled = let i = ap length l in omega (arith, i);
    positions = subst (λ (z : List ℕ). Each (λ x. x < length v.devices) z) (sym l) (λ i x e. absurd (cc));
  };
  drawn = λ x.
      let i = ap (λ (z : List ℕ). placed_draws v (placed v r.slots.items z) x) l in
      let j = ap (λ (z : List rules.Pick). placed_draws v z x) (nothing_placed v r.slots.items) in
      omega (arith, i, j);
  agreed = subst (λ (ps : List rules.Pick). AreAgreed v ps (rules_of v) r.agreements.items) (sym (ap (placed v r.slots.items) l ∙ nothing_placed v r.slots.items)) a;
}

-- ---- all taken back

pub all_back : (rows : RowsFields) (held : List (DeviceId × Key)) (old new : Run) (b : Placed) (k : CounterId) → board_of rows held old ≡ b → setting_of (input_of rows) held new ≡ setting_of (input_of rows) held old → new.positions.items ≡ []
    → drawn_in new.totals k ≡ drawn_in b.totals k - placed_draws (input_of b.rows) b.taken k
all_back rows held old new b k e h p =
    let v = input_of rows in
    let i : drawn_in new.totals k - placed_draws v (placed v new.slots.items new.positions.items) k ≡ drawn_in old.totals k - placed_draws v (placed v old.slots.items old.positions.items) k = ap (λ (s : SearchInput). s.drawn k) h in
    let j : placed_draws v (placed v new.slots.items new.positions.items) k ≡ 0 = ap (λ (z : List ℕ). placed_draws v (placed v new.slots.items z) k) p ∙ ap (λ (z : List rules.Pick). placed_draws v z k) (nothing_placed v new.slots.items) in
    let m : drawn_in new.totals k ≡ drawn_in old.totals k - placed_draws v (placed v old.slots.items old.positions.items) k = omega (arith, i, j) in
    m ∙ ap (λ (z : Placed). drawn_in z.totals k - placed_draws (input_of z.rows) z.taken k) e

pub value_back : (rows : RowsFields) (held : List (DeviceId × Key)) (old new : Run) (b : Placed) (k : CounterId) → board_of rows held old ≡ b → setting_of (input_of rows) held new ≡ setting_of (input_of rows) held old → value_of new.totals k ≡ value_of b.totals k
value_back rows held old new b k e h = ap (λ (s : SearchInput). s.value k) h ∙ ap (λ (z : Placed). value_of z.totals k) e

-- ---- grants

by_open : (v : SearchInput) (c : List ℕ) (n : ℕ) → shape_of v c ≡ Open n → open_slots v c ≡ slots v c
unfolding open_slots
by_open v c n e = ap (λ (s : walks.Shape). slots_by s (slots v c)) e

same_slots_of : (v : SearchInput) (held : List (DeviceId × Key)) (value : CounterId → Option ℕ) (drawn : CounterId → ℕ) (c : List ℕ) → slots (with_counters v held value drawn) c ≡ slots v c
unfolding asked asking.matching asking.seats slots
same_slots_of v held value drawn c = refl

same_grants : (v : SearchInput) (held : List (DeviceId × Key)) (value : CounterId → Option ℕ) (drawn : CounterId → ℕ) (c l : List ℕ) → grants_at (with_counters v held value drawn) c l ≡ map grant_of (grants_from 0 v.claims (map (result_of v) (picks (slots (with_counters v held value drawn) c) l)))
unfolding grants_at grants_of
same_grants v held value drawn c l = refl

pub granted_here : (rows : RowsFields) (held : List (DeviceId × Key)) (r : Run) (ss : List Slot) (l : List ℕ) (claims : List ResourceClaim) (b : Placed) (n : ℕ) → board_of rows held r ≡ b → map (slot_seen (input_of rows)) r.slots.items ≡ open_slots (input_of rows) r.chosen.items
    → ss ≡ r.slots.items → l ≡ r.positions.items → shape_of (board_setting b) b.choice ≡ Open n → claims ≡ (board_setting b).claims
    → map grant_of (grants_from 0 claims (map (result_of (input_of rows)) (placed (input_of rows) ss l))) ≡ grants_at (board_setting b) b.choice b.positions
granted_here rows held r ss l claims b n e s f g o k =
    let v = input_of rows in
    let drawn : CounterId → ℕ = λ k. drawn_in r.totals k - placed_draws v (placed v r.slots.items r.positions.items) k in
    let own : claims ≡ v.claims = k ∙ sym (ap (λ (z : Placed). (board_setting z).claims) e) in
    let filled : map (slot_seen v) ss ≡ slots (with_counters v held (value_of r.totals) drawn) r.chosen.items =
    ap (map (slot_seen v)) f ∙ s ∙ by_open v r.chosen.items n (shape_here rows held r b (Open n) r.chosen.items e refl o) ∙ sym (same_slots_of v held (value_of r.totals) drawn r.chosen.items) in
    ap (λ (cs : List ResourceClaim). map grant_of (grants_from 0 cs (map (result_of v) (placed v ss l)))) own
    ∙ ap (λ (z : List asking.Slot). map grant_of (grants_from 0 v.claims (map (result_of v) (picks z l)))) filled
    ∙ ap (λ (z : List ℕ). map grant_of (grants_from 0 v.claims (map (result_of v) (picks (slots (with_counters v held (value_of r.totals) drawn) r.chosen.items) z)))) g
    ∙ sym (same_grants v held (value_of r.totals) drawn r.chosen.items r.positions.items)
    ∙ ap (λ (z : Placed). grants_at (board_setting z) z.choice z.positions) e
