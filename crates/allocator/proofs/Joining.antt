-- One device more among those that are placed.
use Rattle.std.proofs.Common.{ℕ, ◌-◌, ◌<◌, ◌≤◌, ◌≡◌, List, [], ◌∷◌, ◌++◌, Bool, true, false, not, ◌&&◌, ◌||◌, map, length, Option, None, Some, refl, sym, ap, ◌∙◌}
use Rattle.std.specs.List.{list_all, slice_get}
use Rattle.std.specs.Prelude.{option_map}
use Rattle.std.proofs.lemmas.Option.{slice_get-map}
use Rattle.object_fields.specs.declared.key.DeviceId.{DeviceId}
use Rattle.object_fields.specs.declared.key.Key.{Key}
use Rattle.pool_view.specs.Pools.{Offered}
use Rattle.request_rules.specs.Draws.{CounterId}
use Rattle.counter_sets.specs.Totals.{KeptCounters, drawn_in, value_of}
use Rattle.request_rules.specs.Input.{SearchInput}
use Rattle.request_rules.specs.Asked as asking
use Rattle.request_rules.specs.Asked.{Rule, matching, rules_of, seats, slots, tolerated_at}
use Rattle.request_rules.specs.Rules.{Pick, agrees, apart, covers, fills, is_held, least_after, may_join, picks}
use Rattle.request_rules.specs.Problem.{good, open_slots, shape_of}
use Rattle.request_rows.specs.declared.choice.Slot.{Slot}
use Rattle.request_rows.specs.Seen.{slot_seen}
use Rattle.allocator.specs.Holding.{Holders, held_at}
use Rattle.allocator.specs.Input.{with_counters}
use Rattle.allocator.specs.Placing.{covered_by, input_at, next_by, placed, placed_draws}
use Rattle.allocator.proofs.Tests.{both_false}
use Rattle.allocator.proofs.Inputs.{AdminLaw, CoversLaw, covers_is}

-- ---- the rules

rule_agrees : (v : SearchInput) (held : List (DeviceId × Key)) (value : CounterId → Option ℕ) (drawn : CounterId → ℕ) (r : Rule) (ps : List Pick) (p : Pick) → agrees (with_counters v held value drawn) r ps p ≡ agrees v r ps p
unfolding agrees
rule_agrees v held value drawn r ps p = refl

all_rules_agree : (v : SearchInput) (held : List (DeviceId × Key)) (value : CounterId → Option ℕ) (drawn : CounterId → ℕ) (rs : List Rule) (ps : List Pick) (p : Pick) → list_all (λ r. agrees (with_counters v held value drawn) r ps p) rs ≡ list_all (λ r. agrees v r ps p) rs
all_rules_agree v held value drawn [] ps p = refl
all_rules_agree v held value drawn (r ∷ rs) ps p =
    ap (λ (t : Bool). t && list_all (λ r. agrees (with_counters v held value drawn) r ps p) rs) (rule_agrees v held value drawn r ps p)
    ∙ ap (λ (t : Bool). agrees v r ps p && t) (all_rules_agree v held value drawn rs ps p)

same_rules : (v : SearchInput) (held : List (DeviceId × Key)) (value : CounterId → Option ℕ) (drawn : CounterId → ℕ) → rules_of (with_counters v held value drawn) ≡ rules_of v
unfolding rules_of
same_rules v held value drawn = refl

held_is : (v : SearchInput) (h : Holders) (value : CounterId → Option ℕ) (drawn : CounterId → ℕ) (p : Pick) (b : Bool) → h.devices ≡ v.devices → b ≡ (p.label.admin || not (held_at h p.position)) → (p.label.admin || not (is_held (with_counters v h.held value drawn) p)) ≡ b
held_is v h value drawn p b e f = sym (f ∙ ap (λ (ds : List Offered). p.label.admin || not (held_at (record { devices = ds; held = h.held }) p.position)) e)

pub joined : (v : SearchInput) (h : Holders) (kept : KeptCounters) (ps : List Pick) (p : Pick) (a b c d : Bool) → CoversLaw → AdminLaw → p.position < length v.devices
    → ((k : CounterId) → placed_draws v ps k ≤ drawn_in kept k) → h.devices ≡ v.devices
    → a ≡ list_all (λ q. apart v q p) ps → b ≡ (p.label.admin || not (held_at h p.position)) → c ≡ covered_by v (value_of kept) (drawn_in kept) p → d ≡ list_all (λ r. agrees v r ps p) (rules_of v)
    → (a && (b && (c && d))) ≡ may_join (input_at v h.held kept ps) ps p
unfolding may_join
joined v h kept ps p a b c d law admin known low same e f g i =
    let w = input_at v h.held kept ps in
    sym (ap (λ (t : Bool). t && ((p.label.admin || not (is_held w p)) && (covers w ps p && list_all (λ r. agrees w r ps p) (rules_of w)))) (sym e)
    ∙ ap (λ (t : Bool). a && (t && (covers w ps p && list_all (λ r. agrees w r ps p) (rules_of w)))) (held_is v h (value_of kept) (λ k. drawn_in kept k - placed_draws v ps k) p b same f)
    ∙ ap (λ (t : Bool). a && (b && (t && list_all (λ r. agrees w r ps p) (rules_of w)))) (covers_is v h.held kept ps p law admin known low ∙ sym g)
    ∙ ap (λ (t : Bool). a && (b && (c && t)))
    (ap (list_all (λ r. agrees w r ps p)) (same_rules v h.held (value_of kept) (λ k. drawn_in kept k - placed_draws v ps k))
    ∙ all_rules_agree v h.held (value_of kept) (λ k. drawn_in kept k - placed_draws v ps k) (rules_of v) ps p ∙ sym i))

-- ---- the slots

pub same_slots : (v : SearchInput) (held : List (DeviceId × Key)) (value : CounterId → Option ℕ) (drawn : CounterId → ℕ) (c : List ℕ) → open_slots (with_counters v held value drawn) c ≡ open_slots v c
unfolding asking.asked matching open_slots seats shape_of slots
same_slots v held value drawn c = refl

pub same_shape : (v : SearchInput) (held : List (DeviceId × Key)) (value : CounterId → Option ℕ) (drawn : CounterId → ℕ) (c : List ℕ) → shape_of (with_counters v held value drawn) c ≡ shape_of v c
unfolding asking.asked matching seats shape_of slots
same_shape v held value drawn c = refl

abbrev pub PushLaw : Type 0
PushLaw = (w : SearchInput) (c l : List ℕ) (x : ℕ) (s : asking.Slot) → slice_get (open_slots w c) (length l) ≡ Some s
    → good w c (l ++ x ∷ []) ≡ (good w c l && (fills w s (least_after 0 l) x && may_join w (picks (open_slots w c) l) (record { label = s.asked.label; position = x })))

abbrev pub PastLaw : Type 0
PastLaw = (w : SearchInput) (c l : List ℕ) (x : ℕ) → slice_get (open_slots w c) (length l) ≡ None → good w c (l ++ x ∷ []) ≡ false

next_is : (w : SearchInput) (c : List ℕ) (ss : List asking.Slot) (l : List ℕ) (x : ℕ) (o : Option asking.Slot) → PushLaw → PastLaw → ss ≡ open_slots w c → slice_get ss (length l) ≡ o
    → good w c (l ++ x ∷ []) ≡ (good w c l && next_by w (picks ss l) (least_after 0 l) x o)
next_is w c ss l x (Some s) law past e f =
    law w c l x s (ap (λ (z : List asking.Slot). slice_get z (length l)) (sym e) ∙ f)
    ∙ ap (λ (z : List asking.Slot). good w c l && (fills w s (least_after 0 l) x && may_join w (picks z l) (record { label = s.asked.label; position = x }))) (sym e)
next_is w c ss l x None law past e f =
    past w c l x (ap (λ (z : List asking.Slot). slice_get z (length l)) (sym e) ∙ f) ∙ sym (both_false (good w c l))

-- ---- the next slot

fills_alike : (v : SearchInput) (held : List (DeviceId × Key)) (value : CounterId → Option ℕ) (drawn : CounterId → ℕ) (s : asking.Slot) (least x : ℕ) → fills (with_counters v held value drawn) s least x ≡ fills v s least x
unfolding tolerated_at
fills_alike v held value drawn s least x = refl

seen_at : (v : SearchInput) (ss : List Slot) (n : ℕ) (o : Option Slot) → o ≡ slice_get ss n → slice_get (map (slot_seen v) ss) n ≡ option_map (slot_seen v) o
seen_at v ss n o e = slice_get-map (slot_seen v) ss n ∙ ap (option_map (slot_seen v)) (sym e)

pub next_none : (v w : SearchInput) (ss : List Slot) (n : ℕ) (ps : List Pick) (least x : ℕ) (o : Option Slot) → o ≡ slice_get ss n → o ≡ None → false ≡ next_by w ps least x (slice_get (map (slot_seen v) ss) n)
next_none v w ss n ps least x o e f = sym (ap (next_by w ps least x) (seen_at v ss n o e ∙ ap (option_map (slot_seen v)) f))

pub next_some : (v : SearchInput) (held : List (DeviceId × Key)) (kept : KeptCounters) (ss : List Slot) (n : ℕ) (ps : List Pick) (least last x : ℕ) (o : Option Slot) (s : Slot) (f m : Bool)
    → o ≡ slice_get ss n → o ≡ Some s → last ≡ least → f ≡ fills v (slot_seen v s) last x → m ≡ may_join (input_at v held kept ps) ps (record { label = (slot_seen v s).asked.label; position = x })
    → (f && m) ≡ next_by (input_at v held kept ps) ps least x (slice_get (map (slot_seen v) ss) n)
next_some v held kept ss n ps least last x o s f m e g l h i =
    let w = input_at v held kept ps in
    ap (λ (t : Bool). t && m)
    (h ∙ ap (λ (k : ℕ). fills v (slot_seen v s) k x) l ∙ sym (fills_alike v held (value_of kept) (λ k. drawn_in kept k - placed_draws v ps k) (slot_seen v s) least x))
    ∙ ap (λ (t : Bool). fills w (slot_seen v s) least x && t) i
    ∙ sym (ap (next_by w ps least x) (seen_at v ss n o e ∙ ap (option_map (slot_seen v)) g))

-- a good list with one position more
pub good_next : (v : SearchInput) (held : List (DeviceId × Key)) (value : CounterId → Option ℕ) (drawn : CounterId → ℕ) (c : List ℕ) (ss : List Slot) (l : List ℕ) (x : ℕ) → PushLaw → PastLaw → map (slot_seen v) ss ≡ open_slots v c
    → good (with_counters v held value drawn) c (l ++ x ∷ []) ≡ (good (with_counters v held value drawn) c l && next_by (with_counters v held value drawn) (placed v ss l) (least_after 0 l) x (slice_get (map (slot_seen v) ss) (length l)))
good_next v held value drawn c ss l x law past e =
    next_is (with_counters v held value drawn) c (map (slot_seen v) ss) l x (slice_get (map (slot_seen v) ss) (length l)) law past (e ∙ sym (same_slots v held value drawn c)) refl

pub joins : (v : SearchInput) (held : List (DeviceId × Key)) (value : CounterId → Option ℕ) (drawn : CounterId → ℕ) (c : List ℕ) (ss : List Slot) (l : List ℕ) (x : ℕ) (b : Bool) → PushLaw → PastLaw → map (slot_seen v) ss ≡ open_slots v c
    → good (with_counters v held value drawn) c l ≡ true → b ≡ next_by (with_counters v held value drawn) (placed v ss l) (least_after 0 l) x (slice_get (map (slot_seen v) ss) (length l)) → b ≡ good (with_counters v held value drawn) c (l ++ x ∷ [])
joins v held value drawn c ss l x b law past e g f =
    f ∙ sym (good_next v held value drawn c ss l x law past e ∙ ap (λ (t : Bool). t && next_by (with_counters v held value drawn) (placed v ss l) (least_after 0 l) x (slice_get (map (slot_seen v) ss) (length l))) g)

-- the same of a run's slices
pub joins_at : (v : SearchInput) (held : List (DeviceId × Key)) (kept : KeptCounters) (c : List ℕ) (ss slots : List Slot) (l positions : List ℕ) (x : ℕ) (b : Bool) → PushLaw → PastLaw → map (slot_seen v) ss ≡ open_slots v c
    → good (input_at v held kept (placed v ss l)) c l ≡ true → slots ≡ ss → positions ≡ l
    → b ≡ next_by (input_at v held kept (placed v slots positions)) (placed v slots positions) (least_after 0 positions) x (slice_get (map (slot_seen v) slots) (length positions))
    → b ≡ good (input_at v held kept (placed v ss l)) c (l ++ x ∷ [])
joins_at v held kept c ss slots l positions x b law past e g f h n =
    joins v held (value_of kept) (λ k. drawn_in kept k - placed_draws v (placed v ss l) k) c ss l x b law past e g
    (n
    ∙ ap (λ (z : List Slot). next_by (input_at v held kept (placed v z positions)) (placed v z positions) (least_after 0 positions) x (slice_get (map (slot_seen v) z) (length positions))) f
    ∙ ap (λ (z : List ℕ). next_by (input_at v held kept (placed v ss z)) (placed v ss z) (least_after 0 z) x (slice_get (map (slot_seen v) ss) (length z))) h)

pub bad_next : (v : SearchInput) (held : List (DeviceId × Key)) (value : CounterId → Option ℕ) (drawn : CounterId → ℕ) (c : List ℕ) (ss : List Slot) (l : List ℕ) (x : ℕ) → PushLaw → PastLaw → map (slot_seen v) ss ≡ open_slots v c
    → next_by (with_counters v held value drawn) (placed v ss l) (least_after 0 l) x (slice_get (map (slot_seen v) ss) (length l)) ≡ false → good (with_counters v held value drawn) c (l ++ x ∷ []) ≡ false
bad_next v held value drawn c ss l x law past e f =
    good_next v held value drawn c ss l x law past e ∙ ap (λ (t : Bool). good (with_counters v held value drawn) c l && t) f ∙ both_false (good (with_counters v held value drawn) c l)
