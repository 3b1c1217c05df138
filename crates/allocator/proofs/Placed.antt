-- Devices that are placed, one after another.
use Rattle.std.proofs.Common.{ℕ, zero, suc, ◌+◌, ◌-◌, ◌<◌, ◌≤◌, ◌≡◌, List, [], ◌∷◌, ◌++◌, Bool, true, false, not, ◌&&◌, eqb, map, length, drop, get_or, Some, refl, sym, ap, ◌∙◌, subst, arith}
use Rattle.std.specs.List.{slice_get}
use Rattle.std.proofs.lemmas.List.{drop_all}
use Rattle.pool_view.specs.Names.{device_eq}
use Rattle.pool_view.specs.Pools.{Offered, id_in}
use Rattle.request_rules.specs.Lists.{Each}
use Rattle.request_rules.specs.Input.{SearchInput}
use Rattle.request_rules.specs.Asked as asking
use Rattle.request_rules.specs.Rules as rules
use Rattle.request_rules.specs.Rules.{apart, excludes, id_by, id_of, least_after, picks}
use Rattle.request_rows.specs.declared.choice.Slot.{Slot}
use Rattle.request_rows.specs.Seen.{slot_seen}
use Rattle.allocator.specs.declared.pick.Pick.{Pick}
use Rattle.request_rules.specs.Apart.{AreApart}
use Rattle.allocator.specs.Placing.{IsNext, IsPlacing, pick_seen, placed}
use Rattle.allocator.proofs.Tests.{both_false, same_number}
use Rattle.allocator.proofs.Equal.{same_from_device_eq}
use Rattle.allocator.proofs.Places.{get_map, there}

abbrev pub pick_at : ℕ → ℕ → Pick
pick_at row x = record { row = row; position = x }

-- ---- one after another

nothing : (ss : List asking.Slot) → picks ss [] ≡ []
nothing [] = refl
nothing (s ∷ ss) = refl

-- nothing is placed behind the last position
pub placed_end : (v : SearchInput) (ss : List Slot) (l : List ℕ) (i : ℕ) → length l ≤ i → placed v (drop i ss) (drop i l) ≡ []
placed_end v ss l i h = ap (placed v (drop i ss)) (drop_all i l h) ∙ nothing (map (slot_seen v) (drop i ss))

-- ---- two devices

id_there : (ds : List Offered) (x : ℕ) (o : Offered) → slice_get ds x ≡ Some o → id_by (slice_get ds x) ≡ id_in o
id_there ds x o e = ap id_by e

far_by : (v : SearchInput) (q p : rules.Pick) (b : Bool) → AreApart v.devices → q.position < length v.devices → p.position < length v.devices → eqb q.position p.position ≡ false
    → device_eq (id_of v q) (id_of v p) ≡ b → true ≡ not (excludes q p && b)
far_by v q p false a g h n e = ap not (sym (both_false (excludes q p)))
far_by v q p true a g h n e =
    let o = there v.devices q.position g in
    let d = there v.devices p.position h in
    let same : id_in o.0 ≡ id_in d.0 = sym (id_there v.devices q.position o.0 o.1) ∙ same_from_device_eq (id_of v q) (id_of v p) e ∙ id_there v.devices p.position d.0 d.1 in
    let bad : true ≡ false = sym (same_number q.position p.position (a.ids q.position p.position o.0 d.0 o.1 d.1 same)) ∙ n in
    absurd (cc)

pub far : (v : SearchInput) (q p : rules.Pick) → AreApart v.devices → q.position < length v.devices → p.position < length v.devices → eqb q.position p.position ≡ false → true ≡ apart v q p
far v q p a g h n = far_by v q p (device_eq (id_of v q) (id_of v p)) a g h n refl

-- ---- positions

pub least_last : (l : List ℕ) (m z : ℕ) → 0 < length l → get_or l (length l - 1) z + 1 ≡ least_after m l
least_last [] m z h = absurd (omega arith)
least_last (x ∷ []) m z h = refl
least_last (x ∷ y ∷ l) m z h =
    let e : length (x ∷ y ∷ l) - 1 ≡ suc (length (y ∷ l) - 1) = omega arith in
    ap (λ (k : ℕ). get_or (x ∷ y ∷ l) k z + 1) e ∙ least_last (y ∷ l) (x + 1) z (omega arith)

first_known : (v : SearchInput) (s : Slot) (ss : List Slot) (x : ℕ) (l : List ℕ) → Each (λ x. x < length v.devices) (x ∷ l) → Each (λ q. q.position < length v.devices) (placed v ss l) → Each (λ q. q.position < length v.devices) (placed v (s ∷ ss) (x ∷ l))
first_known v s ss x l a b zero q e = let f : x ≡ q.position = cc in subst (λ (n : ℕ). n < length v.devices) f (a 0 x refl)
first_known v s ss x l a b (suc i) q e = b i q e

known_from : (v : SearchInput) (ss : List Slot) (l : List ℕ) → Each (λ x. x < length v.devices) l → Each (λ q. q.position < length v.devices) (placed v ss l)
known_from v [] l a = λ i q e. absurd (cc)
known_from v (s ∷ ss) [] a = λ i q e. absurd (cc)
known_from v (s ∷ ss) (x ∷ l) a = first_known v s ss x l a (known_from v ss l (λ i y e. a (suc i) y e))

pub positions_known : (v : SearchInput) (ss : List Slot) (l : List ℕ) → IsPlacing v ss l → Each (λ q. q.position < length v.devices) (placed v ss l)
positions_known v ss l p = known_from v ss l p.positions

-- ---- one more, and one less

pub nothing_placed : (v : SearchInput) (ss : List Slot) → placed v ss [] ≡ []
nothing_placed v ss = nothing (map (slot_seen v) ss)

picks_push : (ss : List asking.Slot) (l : List ℕ) (x : ℕ) (s : asking.Slot) → slice_get ss (length l) ≡ Some s → picks ss (l ++ x ∷ []) ≡ picks ss l ++ record { label = s.asked.label; position = x } ∷ []
picks_push [] [] x s e = absurd (cc)
picks_push [] (y ∷ l) x s e = absurd (cc)
picks_push (t ∷ ss) [] x s e = let f : t ≡ s = cc in ap (λ (ps : List rules.Pick). record { label = t.asked.label; position = x } ∷ ps) (nothing ss) ∙ ap (λ (z : asking.Slot). record { label = z.asked.label; position = x } ∷ []) f
picks_push (t ∷ ss) (y ∷ l) x s e = ap (λ (ps : List rules.Pick). record { label = t.asked.label; position = y } ∷ ps) (picks_push ss l x s e)

pub placed_push : (v : SearchInput) (ss : List Slot) (l : List ℕ) (p : Pick) → IsNext ss (length l) p.position p → placed v ss (l ++ p.position ∷ []) ≡ placed v ss l ++ pick_seen v p ∷ []
placed_push v ss l p n =
    picks_push (map (slot_seen v) ss) l p.position (slot_seen v n.slot) (get_map (slot_seen v) ss (length l) n.slot n.there)
    ∙ ap (λ (r : ℕ). placed v ss l ++ pick_seen v (pick_at r p.position) ∷ []) (sym n.row)
