-- What a run keeps, with one device more and one less.
use Rattle.std.proofs.Common.{eqb, get_or, ℕ, zero, suc, ◌+◌, ◌-◌, ◌<◌, ◌≤◌, ◌≡◌, List, [], ◌∷◌, ◌++◌, Bool, true, false, map, length, Option, Some, refl, sym, ap, ◌∙◌, subst, arith}
use Rattle.std.specs.List.{list_all, slice_get}
use Rattle.std.specs.Option.{option_to_list}
use Rattle.std.proofs.lemmas.List.{length-append}
use Rattle.object_fields.specs.declared.key.DeviceId.{DeviceId}
use Rattle.object_fields.specs.declared.key.Key.{Key}
use Rattle.request_rules.specs.Draws.{CounterId}
use Rattle.counter_sets.specs.Totals.{KeptCounters, drawn_in, value_of}
use Rattle.request_rules.specs.Agreeing as constraints
use Rattle.request_rules.specs.Lists.{Each}
use Rattle.request_rules.specs.Input.{SearchInput}
use Rattle.request_rules.specs.Asked.{rules_of}
use Rattle.request_rules.specs.Problem.{open_slots}
use Rattle.request_rules.specs.Rules as rules
use Rattle.request_rules.specs.Asked as asking
use Rattle.request_rules.specs.Rules.{agrees, amount, draws, picks}
use Rattle.request_rows.specs.declared.choice.Slot.{Slot}
use Rattle.request_rows.specs.Seen.{slot_seen}
use Rattle.request_rules.specs.Ways.{all_asked}
use Rattle.allocator.specs.declared.agreements.ClaimAgreement.{ClaimAgreement}
use Rattle.allocator.specs.declared.pick.Pick.{Pick}
use Rattle.allocator.specs.declared.run.Run.{Run}
use Rattle.allocator.specs.Agreeing.{AreAgreed, EachLeft, EachTook, result_at}
use Rattle.allocator.specs.Kept.{IsRun, setting_of}
use Rattle.allocator.specs.Placing.{IsNext, IsPlacing, pick_seen, placed, placed_draws}
use Rattle.allocator.proofs.Constraining.{agreed_less, agreed_more, room_in}
use Rattle.allocator.proofs.Inputs as inputs
use Rattle.allocator.proofs.Places.{got}
use Rattle.allocator.proofs.Placed.{nothing_placed, placed_push, positions_known}

-- ---- what was placed

pub next_placed : (v : SearchInput) (ss tt : List Slot) (l m : List ℕ) (p : Pick) → IsNext ss (length l) p.position p → tt ≡ ss → m ≡ l ++ p.position ∷ [] → placed v tt m ≡ placed v ss l ++ pick_seen v p ∷ []
next_placed v ss tt l m p n e f = ap (λ (z : List Slot). placed v z m) e ∙ ap (placed v ss) f ∙ placed_push v ss l p n

more_drawn : (v : SearchInput) (ss tt : List Slot) (l m : List ℕ) (p : Pick) (k : CounterId) → IsNext ss (length l) p.position p → tt ≡ ss → m ≡ l ++ p.position ∷ [] → placed_draws v (placed v tt m) k ≡ placed_draws v (placed v ss l) k + amount k (draws v (pick_seen v p))
more_drawn v ss tt l m p k n e f = ap (λ (ps : List rules.Pick). placed_draws v ps k) (next_placed v ss tt l m p n e f) ∙ inputs.placed_push v (placed v ss l) (pick_seen v p) k

slot_within : {X : Type 0} (xs : List X) (i : ℕ) (x : X) → slice_get xs i ≡ Some x → i < length xs
slot_within [] i x e = absurd (cc)
slot_within (y ∷ xs) zero x e = omega arith
slot_within (y ∷ xs) (suc i) x e = let h = slot_within xs i x e in omega (arith, h)

each_push : {X : Type 0} (P : X → Type 0) (m : List X) (x : X) → Each P m → P x → Each P (m ++ x ∷ [])
each_push {X} P [] x a h zero y e = let f : x ≡ y = cc in subst P f h
each_push P [] x a h (suc i) y e = absurd (cc)
each_push P (z ∷ m) x a h zero y e = a 0 y e
each_push P (z ∷ m) x a h (suc i) y e = each_push P m x (λ j w f. a (suc j) w f) h i y e

more_placing : (v : SearchInput) (ss tt : List Slot) (l m : List ℕ) (p : Pick) → IsPlacing v ss l → IsNext ss (length l) p.position p → p.position < length v.devices → tt ≡ ss → m ≡ l ++ p.position ∷ [] → IsPlacing v tt m
more_placing v ss tt l m p a n h e f = record {
  rows = subst (λ (z : List Slot). Each (λ s. s.row < length (all_asked v)) z) (sym e) a.rows;
  filled =
      let i = slot_within ss (length l) n.slot n.there in
      let j = ap length f in
      let k = length-append l (p.position ∷ []) in
      let q = ap length e in
      omega (arith, i, j, k, q);
  positions = subst (λ (z : List ℕ). Each (λ x. x < length v.devices) z) (sym f) (each_push (λ x. x < length v.devices) l p.position a.positions h);
}

-- ---- one more

pub run_more : (v : SearchInput) (old new : Run) (p : Pick) (claim : ℕ) (picked : constraints.Pick) → IsRun v old → IsNext old.slots.items (length old.positions.items) p.position p → p.position < length v.devices
    → new.chosen.items ≡ old.chosen.items → new.slots.items ≡ old.slots.items → new.positions.items ≡ old.positions.items ++ p.position ∷ []
    → ((k : CounterId) → drawn_in new.totals k ≡ drawn_in old.totals k + amount k (draws v (pick_seen v p)))
    → EachTook claim picked old.agreements.items new.agreements.items → (pick_seen v p).label.claim ≡ claim → result_at v (pick_seen v p) ≡ picked ∷ []
    → list_all (λ r. agrees v r (placed v old.slots.items old.positions.items) (pick_seen v p)) (rules_of v) ≡ true → IsRun v new
run_more v old new p claim picked a n h c s l d t own seen ok =
    let ss = old.slots.items in
    let ps = placed v ss old.positions.items in
    record {
      slots_are = ap (map (slot_seen v)) s ∙ a.slots_are ∙ ap (open_slots v) (sym c);
      placing = more_placing v ss new.slots.items old.positions.items new.positions.items p a.placing n h s l;
      drawn = λ x. let e = more_drawn v ss new.slots.items old.positions.items new.positions.items p x n s l in let f = d x in let g = a.drawn x in omega (arith, e, f, g);
      agreed = subst (λ (qs : List rules.Pick). AreAgreed v qs (rules_of v) new.agreements.items) (sym (next_placed v ss new.slots.items old.positions.items new.positions.items p n s l))
          (agreed_more v ps (rules_of v) old.agreements.items new.agreements.items (pick_seen v p) claim picked a.agreed t own seen (positions_known v ss old.positions.items a.placing) ok);
    }

pub input_more : (v : SearchInput) (held : List (DeviceId × Key)) (old new : Run) (p : Pick) → IsNext old.slots.items (length old.positions.items) p.position p
    → new.slots.items ≡ old.slots.items → new.positions.items ≡ old.positions.items ++ p.position ∷ []
    → ((k : CounterId) → drawn_in new.totals k ≡ drawn_in old.totals k + amount k (draws v (pick_seen v p))) → ((k : CounterId) → value_of new.totals k ≡ value_of old.totals k) → setting_of v held new ≡ setting_of v held old
input_more v held old new p n s l d kp =
    inputs.same_input v held (value_of old.totals) (value_of new.totals) (λ k. drawn_in old.totals k - placed_draws v (placed v old.slots.items old.positions.items) k) (λ k. drawn_in new.totals k - placed_draws v (placed v new.slots.items new.positions.items) k)
    kp
    (λ k. let e = more_drawn v old.slots.items new.slots.items old.positions.items new.positions.items p k n s l in let f = d k in omega (arith, e, f))

-- ---- room

picks_few : (ss : List asking.Slot) (l : List ℕ) → length (picks ss l) ≤ length l
picks_few [] l = omega arith
picks_few (s ∷ ss) [] = omega arith
picks_few (s ∷ ss) (x ∷ l) = let h = picks_few ss l in omega (arith, h)

pub room : (m : ℕ) (v : SearchInput) (r : Run) → IsRun v r → length r.positions.items + 1 < m → Each (λ g. g.agreement.count + 1 < m) r.agreements.items
room m v r a h =
    let n : length (placed v r.slots.items r.positions.items) ≤ length r.positions.items = picks_few (map (slot_seen v) r.slots.items) r.positions.items in
    room_in m v (placed v r.slots.items r.positions.items) (rules_of v) r.agreements.items a.agreed (omega (arith, n, h))

-- ---- one less

prefix_got : {X : Type 0} (m : List X) (x : X) (i : ℕ) (y : X) → slice_get m i ≡ Some y → slice_get (m ++ x ∷ []) i ≡ Some y
prefix_got [] x i y e = absurd (cc)
prefix_got (z ∷ m) x zero y e = e
prefix_got (z ∷ m) x (suc i) y e = prefix_got m x i y e

prefix_all : {X : Type 0} (P : X → Type 0) (m : List X) (x : X) → Each P (m ++ x ∷ []) → Each P m
prefix_all P m x a = λ k y e. a k y (prefix_got m x k y e)

less_placing : (v : SearchInput) (ss tt : List Slot) (l m : List ℕ) (x : ℕ) → IsPlacing v ss l → tt ≡ ss → l ≡ m ++ x ∷ [] → IsPlacing v tt m
less_placing v ss tt l m x a e f = record {
  rows = subst (λ (z : List Slot). Each (λ s. s.row < length (all_asked v)) z) (sym e) a.rows;
  filled =
      let i = a.filled in
      let j = ap length f in
      let k = length-append m (x ∷ []) in
      let q = ap length e in
      omega (arith, i, j, k, q);
  positions = prefix_all (λ y. y < length v.devices) m x (subst (λ (z : List ℕ). Each (λ y. y < length v.devices) z) f a.positions);
}

pub popped : {X : Type 0} (old new : List X) (o : Option X) (x : X) → old ≡ new ++ option_to_list o → o ≡ Some x → old ≡ new ++ x ∷ []
popped {X} old new o x e f = e ∙ ap (λ (z : Option X). new ++ option_to_list z) f

-- the device that was taken last is for the slot behind those that are left
pub last_next : (v : SearchInput) (ss : List Slot) (l m : List ℕ) (n : ℕ) (s : Slot) (x : ℕ) → IsPlacing v ss l → l ≡ m ++ x ∷ [] → n ≡ length m → s ≡ get_or ss n s → IsNext ss (length m) x (record { row = s.row; position = x })
last_next v ss l m n s x a e f g = record {
  slot = s;
  there =
      let i = a.filled in
      let j = ap length e in
      let k = length-append m (x ∷ []) in
      ap (slice_get ss) (sym f) ∙ got ss n s (omega (arith, i, j, k, f)) g;
  row = refl;
  position = refl;
}

pub run_less : (v : SearchInput) (old new : Run) (p : Pick) (claim : ℕ) (picked : constraints.Pick) → IsRun v old → IsNext new.slots.items (length new.positions.items) p.position p
    → new.chosen.items ≡ old.chosen.items → new.slots.items ≡ old.slots.items → old.positions.items ≡ new.positions.items ++ p.position ∷ []
    → ((k : CounterId) → drawn_in new.totals k ≡ drawn_in old.totals k - amount k (draws v (pick_seen v p)))
    → EachLeft claim picked old.agreements.items new.agreements.items → (pick_seen v p).label.claim ≡ claim → result_at v (pick_seen v p) ≡ picked ∷ [] → IsRun v new
run_less v old new p claim picked a n c s l d t own seen =
    let ss = new.slots.items in
    let ps = placed v ss new.positions.items in
    record {
      slots_are = ap (map (slot_seen v)) s ∙ a.slots_are ∙ ap (open_slots v) (sym c);
      placing = less_placing v old.slots.items ss old.positions.items new.positions.items p.position a.placing s l;
      drawn = λ x. let e = more_drawn v ss old.slots.items new.positions.items old.positions.items p x n (sym s) l in let f = d x in let g = a.drawn x in omega (arith, e, f, g);
      agreed = agreed_less v ps (rules_of v) old.agreements.items new.agreements.items (pick_seen v p) claim picked
          (subst (λ (qs : List rules.Pick). AreAgreed v qs (rules_of v) old.agreements.items) (next_placed v ss old.slots.items new.positions.items old.positions.items p n (sym s) l) a.agreed) t own seen;
    }

pub input_less : (v : SearchInput) (held : List (DeviceId × Key)) (old new : Run) (p : Pick) → IsRun v old → IsNext new.slots.items (length new.positions.items) p.position p
    → new.slots.items ≡ old.slots.items → old.positions.items ≡ new.positions.items ++ p.position ∷ []
    → ((k : CounterId) → drawn_in new.totals k ≡ drawn_in old.totals k - amount k (draws v (pick_seen v p))) → ((k : CounterId) → value_of new.totals k ≡ value_of old.totals k) → setting_of v held new ≡ setting_of v held old
input_less v held old new p a n s l d kp =
    inputs.same_input v held (value_of old.totals) (value_of new.totals) (λ k. drawn_in old.totals k - placed_draws v (placed v old.slots.items old.positions.items) k) (λ k. drawn_in new.totals k - placed_draws v (placed v new.slots.items new.positions.items) k)
    kp
    (λ k. let e = more_drawn v new.slots.items old.slots.items new.positions.items old.positions.items p k n (sym s) l in let f = d k in let g = a.drawn k in omega (arith, e, f, g))

-- ---- taking all back

ends : {X : Type 0} (x : X) (l : List X) → (m : List X) × (y : X) × (x ∷ l ≡ m ++ y ∷ [])
ends x [] = ([], x, refl)
ends {X} x (z ∷ l) = let e = ends z l in (x ∷ e.0, e.1, ap (λ (w : List X). x ∷ w) e.2)

-- what is left after the last one was taken is shorter
pub shorter : (l m : List ℕ) (n : ℕ) (b : Bool) → b ≡ eqb n 0 → b ≡ false → n ≡ length l → ((prefix : List ℕ) (x : ℕ) → l ≡ prefix ++ x ∷ [] → m ≡ prefix) → length m < length l
shorter [] m n b e f g h =
    let a : eqb n 0 ≡ true = ap (λ (k : ℕ). eqb k 0) g in
    let bad : true ≡ false = sym a ∙ sym e ∙ f in
    absurd (cc)
shorter (x ∷ l) m n b e f g h =
    let s = ends x l in
    let i = ap length s.2 in
    let j = ap length (h s.0 s.1 s.2) in
    let k = length-append s.0 (s.1 ∷ []) in
    omega (arith, i, j, k)

-- ---- nothing placed

pub run_none : (v : SearchInput) (old new : Run) → IsRun v old → map (slot_seen v) new.slots.items ≡ open_slots v new.chosen.items → Each (λ s. s.row < length (all_asked v)) new.slots.items
    → old.positions.items ≡ [] → new.positions.items ≡ [] → new.totals ≡ old.totals → new.agreements.items ≡ old.agreements.items → IsRun v new
run_none v old new a s rows e f t g = record {
  slots_are = s;
  placing = record {
    rows = rows;
    filled = let i = ap length f in omega (arith, i);
    positions = subst (λ (z : List ℕ). Each (λ x. x < length v.devices) z) (sym f) (λ i x e. absurd (cc));
  };
  drawn = λ k. let i = ap (λ (z : List ℕ). placed_draws v (placed v new.slots.items z) k) f in let j = ap (λ (z : List rules.Pick). placed_draws v z k) (nothing_placed v new.slots.items) in omega (arith, i, j);
  agreed = subst (λ (qs : List rules.Pick). AreAgreed v qs (rules_of v) new.agreements.items)
      (ap (placed v old.slots.items) e ∙ nothing_placed v old.slots.items ∙ sym (ap (placed v new.slots.items) f ∙ nothing_placed v new.slots.items))
      (subst (λ (gs : List ClaimAgreement). AreAgreed v (placed v old.slots.items old.positions.items) (rules_of v) gs) (sym g) a.agreed);
}

pub input_none : (v : SearchInput) (held : List (DeviceId × Key)) (old new : Run) → old.positions.items ≡ [] → new.positions.items ≡ [] → new.totals ≡ old.totals → setting_of v held new ≡ setting_of v held old
input_none v held old new e f t =
    inputs.same_input v held (value_of old.totals) (value_of new.totals) (λ k. drawn_in old.totals k - placed_draws v (placed v old.slots.items old.positions.items) k) (λ k. drawn_in new.totals k - placed_draws v (placed v new.slots.items new.positions.items) k)
    (λ k. ap (λ (z : KeptCounters). value_of z k) t)
    (λ k. ap (λ (z : KeptCounters). drawn_in z k - placed_draws v (placed v new.slots.items new.positions.items) k) t
    ∙ ap (λ (qs : List rules.Pick). drawn_in old.totals k - placed_draws v qs k)
    (ap (placed v new.slots.items) f ∙ nothing_placed v new.slots.items ∙ sym (ap (placed v old.slots.items) e ∙ nothing_placed v old.slots.items)))
