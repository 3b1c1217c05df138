-- An input whose requests are all without alternatives and without admin access, at least one of them, where no
-- request has an evaluation error and each device is held: its walk has one item.
use Rattle.std.proofs.Common.{ℕ, zero, suc, ◌+◌, ◌≤◌, ◌≡◌, ◌⊎◌, List, [], ◌∷◌, ◌++◌, Bool, true, false, not, ◌&&◌, ◌||◌, cond, Option, None, Some, map, length, refl, sym, ap, ◌∙◌, inl, inr, ⊎_elim}
use Rattle.std.specs.List.{flat_map, list_all, list_any, slice_get}
use Rattle.std.proofs.lemmas.Bool.{and_left, and_parts, and_right, not-true, or_parts}
use Rattle.api_claim.specs.declared.types.AllocationMode.{AllocationMode}
use Rattle.api_claim.specs.declared.types.AllocationMode.TheVariants.{All, ExactCount}
use Rattle.api_claim.specs.declared.types.DeviceAsk.{DeviceAsk}
use Rattle.api_claim.specs.declared.types.RequestKind.{RequestKind}
use Rattle.api_claim.specs.declared.types.RequestKind.TheVariants.{Exactly, FirstAvailable}
use Rattle.pool_view.specs.Names.{device_eq}
use Rattle.pool_view.specs.Pools.{Offered, id_in}
use Rattle.walk.specs.Lists.{choices, fronted}
use Rattle.walk.specs.Walk.{Faulty, Hopeless, Open, Shape, walk}
use Rattle.walk.specs.Outcome.{Unsat, outcome}
use Rattle.request_rules.specs.Lists.{add_some, each_after}
use Rattle.request_rules.specs.Input.{SearchInput}
use Rattle.request_rules.specs.Asked.{Asked, First, Next, Due, Seat, Slot, Wish, asked, asked_by, asked_from, is_fault, is_yes, match_by, matching, repeated, rules_of, seats, seats_by, slots, slots_for, slots_of, tolerated_at, ways_of, wishes}
use Rattle.request_rules.specs.Problem.{all_fails, is_all, is_crowded, is_faulty, is_none, open_slots, problem_of, shape_of, slots_by}
use Rattle.request_rules.specs.Rules.{Pick, agrees, covers, each_fills, id_by, is_good, is_held, may_join, picks, seated}
use Rattle.full_nodes.specs.Full.{asks_some}
use Rattle.pod_decision.proofs.FullWalks.{IsBlocked, blocked_outcome}

-- ---- what is assumed of an input

-- without alternatives, without admin access, for a device at least, and without evaluation errors on the devices
abbrev pub is_sure : SearchInput → RequestKind → Bool
is_sure w (Exactly r) = not r.admin && (asks_some r.ask.mode && not (list_any (λ o. is_fault (w.matched r.ask o)) w.devices))
is_sure w (FirstAvailable rs) = false

abbrev pub is_taken : SearchInput → Offered → Bool
is_taken w o = list_any (λ h. device_eq h.0 (id_in o)) w.held

pub record IsFull (w : SearchInput) : Type 0 where
  pub sure : list_all (λ q. is_sure w q.request.kind) (wishes w) ≡ true
  pub first : Wish
  pub more : List Wish
  pub are : wishes w ≡ first ∷ more
  pub taken : list_all (is_taken w) w.devices ≡ true

-- ---- the only choice

abbrev pub zeros : List Wish → List ℕ
zeros [] = []
zeros (q ∷ qs) = 0 ∷ zeros qs

one_way : (w : SearchInput) (k : RequestKind) → is_sure w k ≡ true → ways_of k ≡ 1
one_way w (Exactly r) e = refl
one_way w (FirstAvailable rs) e = absurd (cc)

abbrev ways : List Wish → List ℕ
ways qs = map (λ q. ways_of q.request.kind) qs

one_prefix : (lists : List (List ℕ)) (l : List ℕ) → lists ≡ l ∷ [] → fronted lists (0 ∷ []) ≡ (0 ∷ l) ∷ []
one_prefix lists l e = ap (λ (ls : List (List ℕ)). fronted ls (0 ∷ [])) e

one_choice : (w : SearchInput) (qs : List Wish) → list_all (λ q. is_sure w q.request.kind) qs ≡ true → choices (ways qs) ≡ zeros qs ∷ []
unfolding choices
one_choice w [] e = refl
one_choice w (q ∷ qs) e =
    let parts = and_parts (is_sure w q.request.kind) (list_all (λ p. is_sure w p.request.kind) qs) e in
    ap (λ (k : ℕ). choices (k ∷ ways qs)) (one_way w q.request.kind parts.0) ∙ one_prefix (choices (ways qs)) (zeros qs) (one_choice w qs parts.1)

-- ---- what it asks for

-- what a request asks for
record AsksPlainly (w : SearchInput) (q : Wish) (k : RequestKind) : Type 0 where
  a : Asked
  is : asked_by q k 0 ≡ Some a
  plain : a.label.admin ≡ false
  some : asks_some a.ask.mode ≡ true
  unfaulted : is_faulty w a ≡ false

asks_plainly : (w : SearchInput) (q : Wish) (k : RequestKind) → is_sure w k ≡ true → AsksPlainly w q k
asks_plainly w q (Exactly r) e =
    let outer = and_parts (not r.admin) (asks_some r.ask.mode && not (list_any (λ o. is_fault (w.matched r.ask o)) w.devices)) e in
    let inner = and_parts (asks_some r.ask.mode) (not (list_any (λ o. is_fault (w.matched r.ask o)) w.devices)) outer.1 in
    record {
      a = record { label = record { claim = q.claim; request = q.request.name; sub = None; admin = r.admin }; key = q.key; ask = r.ask };
      is = refl;
      plain = not-true r.admin outer.0;
      some = inner.0;
      unfaulted = not-true (list_any (λ o. is_fault (w.matched r.ask o)) w.devices) inner.1;
    }
asks_plainly w q (FirstAvailable rs) e = absurd (cc)

no_fault : (w : SearchInput) (qs : List Wish) → list_all (λ q. is_sure w q.request.kind) qs ≡ true → list_any (is_faulty w) (asked_from qs (zeros qs)) ≡ false
no_fault w [] e = refl
no_fault w (q ∷ qs) e =
    let parts = and_parts (is_sure w q.request.kind) (list_all (λ p. is_sure w p.request.kind) qs) e in
    let first = asks_plainly w q q.request.kind parts.0 in
    ap (λ (o : Option Asked). list_any (is_faulty w) (add_some o (asked_from qs (zeros qs)))) first.is
    ∙ ap (λ (b : Bool). b || list_any (is_faulty w) (asked_from qs (zeros qs))) first.unfaulted
    ∙ no_fault w qs parts.1

-- ---- the first slot

record HasSeat (w : SearchInput) (a : DeviceAsk) (m : AllocationMode) : Type 0 where
  seat : Seat
  others : List Seat
  are : seats_by w a m ≡ seat ∷ others

has_due : (w : SearchInput) (a : DeviceAsk) (l : List ℕ) → matching w a ≡ l → is_none l ≡ false → HasSeat w a All
has_due w a [] e f = absurd (cc)
has_due w a (x ∷ xs) e f = record { seat = Due x; others = map (λ y. Due y) xs; are = ap (λ (l : List ℕ). map (λ y. Due y) l) e }

has_seat : (w : SearchInput) (a : DeviceAsk) (m : AllocationMode) → asks_some m ≡ true → (is_all m && (w.broken || is_none (matching w a))) ≡ false → HasSeat w a m
has_seat w a (ExactCount zero) some fits = absurd (cc)
has_seat w a (ExactCount (suc n)) some fits = record { seat = First; others = repeated n Next; are = refl }
has_seat w a All some fits = has_due w a (matching w a) refl (or_parts w.broken (is_none (matching w a)) fits).1

record HasSlot (w : SearchInput) (asks : List Asked) : Type 0 where
  slot : Slot
  others : List Slot
  are : slots_for w asks ≡ slot ∷ others
  plain : slot.asked.label.admin ≡ false

has_slot : (w : SearchInput) (a : Asked) (rest : List Asked) → a.label.admin ≡ false → asks_some a.ask.mode ≡ true → all_fails w a ≡ false → HasSlot w (a ∷ rest)
unfolding seats
has_slot w a rest plain some fits =
    let first : HasSeat w a.ask a.ask.mode = has_seat w a.ask a.ask.mode some fits in
    record {
      slot = record { asked = a; seat = first.seat };
      others = map (λ s. record { asked = a; seat = s }) first.others ++ flat_map (slots_of w) rest;
      are = ap (λ (ts : List Seat). map (λ s. record { asked = a; seat = s }) ts ++ flat_map (slots_of w) rest) first.are;
      plain = plain;
    }

-- ---- none is good for it

passes_at : {X : Type 0} (test : X → Bool) (xs : List X) (i : ℕ) (x : X) → list_all test xs ≡ true → slice_get xs i ≡ Some x → test x ≡ true
passes_at test [] i x e at = absurd (cc)
passes_at test (y ∷ ys) zero x e at =
    let same : y ≡ x = cc in ap test (sym same) ∙ (and_parts (test y) (list_all test ys) e).0
passes_at test (y ∷ ys) (suc i) x e at = passes_at test ys i x (and_parts (test y) (list_all test ys) e).1 at

barred : (admin held b : Bool) → admin ≡ false → held ≡ true → ((admin || not held) && b) ≡ false
barred true held b e f = absurd (cc)
barred false true b e f = refl
barred false false b e f = absurd (cc)

not_joined : (w : SearchInput) (p : Pick) → p.label.admin ≡ false → is_held w p ≡ true → may_join w [] p ≡ false
unfolding may_join
not_joined w p plain held = barred p.label.admin (is_held w p) (covers w [] p && list_all (λ r. agrees w r [] p) (rules_of w)) plain held

not_good_by : (w : SearchInput) (a : DeviceAsk) (p : Pick) (o : Option Offered) (b c d : Bool) → list_all (is_taken w) w.devices ≡ true → p.label.admin ≡ false → slice_get w.devices p.position ≡ o
    → (((is_yes (match_by w a o) && b) && c) && (may_join w [] p && d)) ≡ false
not_good_by w a p None b c d taken plain at = refl
not_good_by w a p (Some o) b c d taken plain at =
    and_right ((is_yes (match_by w a (Some o)) && b) && c) (may_join w [] p && d)
    (and_left (may_join w [] p) d
    (not_joined w p plain (ap (λ (x : Option Offered). list_any (λ h. device_eq h.0 (id_by x)) w.held) at ∙ passes_at (is_taken w) w.devices p.position o taken at)))

not_good : (w : SearchInput) (s : Slot) (ss : List Slot) (x : ℕ) (l : List ℕ) → list_all (is_taken w) w.devices ≡ true → s.asked.label.admin ≡ false → is_good w (s ∷ ss) (x ∷ l) ≡ false
unfolding is_good
not_good w s ss x l taken plain =
    let p : Pick = record { label = s.asked.label; position = x } in
    not_good_by w s.asked.ask p (slice_get w.devices x) (tolerated_at w s.asked.ask x && seated s.seat 0 x) (each_fills w (x + 1) ss l) (each_after (may_join w) (p ∷ []) (picks ss l)) taken plain refl

good_none : (w : SearchInput) (ss : List Slot) → is_good w ss [] ≡ true
unfolding is_good
good_none w [] = refl
good_none w (s ∷ ss) = refl

-- ---- the shape

abbrev shape_in : Bool → Bool → Bool → ℕ → Shape
shape_in faulty fails crowded n = cond faulty Faulty (cond fails Hopeless (cond crowded Hopeless (Open n)))

record Opens (s : Shape) (fails : Bool) (n : ℕ) : Type 0 where
  opens : s ≡ Open n
  fits : fails ≡ false

shape_cases : (faulty fails crowded : Bool) (n : ℕ) → faulty ≡ false → (shape_in faulty fails crowded n ≡ Hopeless) ⊎ Opens (shape_in faulty fails crowded n) fails n
shape_cases true fails crowded n e = absurd (cc)
shape_cases false true crowded n e = inl refl
shape_cases false false true n e = inl refl
shape_cases false false false n e = inr (record { opens = refl; fits = refl })

blocked : (w : SearchInput) (c : List ℕ) (a : Asked) (rest : List Asked) → asked w c ≡ a ∷ rest → list_any (is_faulty w) (asked w c) ≡ false → a.label.admin ≡ false → asks_some a.ask.mode ≡ true
    → list_all (is_taken w) w.devices ≡ true → (shape_of w c ≡ Hopeless) ⊎ IsBlocked (problem_of w) c
unfolding open_slots shape_of slots
blocked w c a rest is unfaulted plain some taken =
    ⊎_elim (λ h. inl h)
    (λ (o : Opens (shape_of w c) (list_any (all_fails w) (asked w c)) (length (slots w c))).
    let fits : all_fails w a ≡ false = (or_parts (all_fails w a) (list_any (all_fails w) rest) (ap (list_any (all_fails w)) (sym is) ∙ o.fits)).0 in
    let has : HasSlot w (a ∷ rest) = has_slot w a rest plain some fits in
    let slots_are : slots w c ≡ has.slot ∷ has.others = ap (slots_for w) is ∙ has.are in
    let open_are : open_slots w c ≡ has.slot ∷ has.others = ap (λ (s : Shape). slots_by s (slots w c)) o.opens ∙ slots_are in
    inr (record {
      most = length has.others;
      opens = o.opens ∙ ap (λ (ss : List Slot). Open (length ss)) slots_are;
      starts = good_none w (open_slots w c);
      none = record { fails = λ x l. ap (λ (ss : List Slot). is_good w ss (x ∷ l)) open_are ∙ not_good w has.slot has.others x l taken has.plain };
    }))
    (shape_cases (list_any (is_faulty w) (asked w c)) (list_any (all_fails w) (asked w c)) (is_crowded w (slots w c)) (length (slots w c)) unfaulted)

-- ---- the outcome

pub full_outcome : (w : SearchInput) (budget : ℕ) → IsFull w → 1 ≤ budget → outcome budget (walk (problem_of w)) ≡ Unsat
unfolding asked
full_outcome w budget full some =
    let q = full.first in
    let sure : list_all (λ p. is_sure w p.request.kind) (q ∷ full.more) ≡ true = ap (λ (qs : List Wish). list_all (λ p. is_sure w p.request.kind) qs) (sym full.are) ∙ full.sure in
    let first : AsksPlainly w q q.request.kind = asks_plainly w q q.request.kind (and_parts (is_sure w q.request.kind) (list_all (λ p. is_sure w p.request.kind) full.more) sure).0 in
    let rest : List Asked = asked_from full.more (zeros full.more) in
    let asks_are : asked w (zeros (wishes w)) ≡ first.a ∷ rest = ap (λ (qs : List Wish). asked_from qs (zeros qs)) full.are ∙ ap (λ (o : Option Asked). add_some o rest) first.is in
    blocked_outcome (problem_of w) (zeros (wishes w)) budget (one_choice w (wishes w) full.sure)
    (blocked w (zeros (wishes w)) first.a rest asks_are (no_fault w (wishes w) full.sure) first.plain first.some full.taken) some
