-- Searches alike: what is held counts for the devices of the node alone.
use Rattle.std.proofs.Common.{ℕ, zero, suc, ◌+◌, ◌<◌, ◌≡◌, List, [], ◌∷◌, ◌++◌, Bool, true, false, not, ◌&&◌, ◌||◌, length, Option, None, Some, refl, ap, ap₂, ◌∙◌, subst}
use Rattle.std.specs.List.{list_all, slice_get}
use Rattle.std.specs.Option.{option_map}
use Rattle.std.proofs.Math.Path.{fun_ext}
use Rattle.std.proofs.lemmas.Bool.{and_parts}
use Rattle.std.proofs.lemmas.Option.{slice_get_within}
use Rattle.api_claim.specs.declared.types.DeviceAsk.{DeviceAsk}
use Rattle.cluster.specs.declared.plan.Grant.{Grant}
use Rattle.object_fields.specs.declared.key.DeviceId.{DeviceId}
use Rattle.object_fields.specs.declared.key.Key.{Key}
use Rattle.pool_view.specs.Pools.{Offered}
use Rattle.request_rules.specs.Draws.{CounterId}
use Rattle.counter_sets.specs.Holding.{AreHeld, Holders}
use Rattle.walk.specs.Walk.{Item, Mark, Part, Full, Fault, Problem, Shape, walk}
use Rattle.walk.specs.Outcome as walks
use Rattle.walk.specs.Outcome.{outcome}
use Rattle.request_rules.specs.Lists.{Each, each_after}
use Rattle.request_rules.specs.Input.{SearchInput}
use Rattle.request_rules.specs.Asked as asking
use Rattle.request_rules.specs.Asked.{Slot, is_yes, match_by, matching, meets, rules_of, seats, slots, tolerated_at}
use Rattle.request_rules.specs.Faults.{FaultPlace, fault_of}
use Rattle.request_rules.specs.Grants.{grants_of}
use Rattle.request_rules.specs.Rules.{Pick, agrees, apart, covers, each_fills, fills, is_good, is_held, may_join, picks, seated, total}
use Rattle.request_rules.specs.Problem.{open_slots, problem_of, shape_of}
use Rattle.allocator.specs.declared.outcome.Outcome.TheVariants as outcomes
use Rattle.allocator.specs.Holding.{held_among}
use Rattle.allocator.specs.Input.{with_counters}
use Rattle.allocator.specs.Answered.{answer_by, answer_of, ended_by, grants_at, selector_fault}
use Rattle.allocator.proofs.Flagged.{held_alike}

-- both have the same ones of the devices
abbrev HeldAlike : SearchInput → (a b : List (DeviceId × Key)) (value : CounterId → Option ℕ) (drawn : CounterId → ℕ) → Type 0
HeldAlike v a b value drawn = (p : Pick) → p.position < length v.devices → is_held (with_counters v a value drawn) p ≡ is_held (with_counters v b value drawn) p

-- ---- one device more

join_alike : (v : SearchInput) (a b : List (DeviceId × Key)) (value : CounterId → Option ℕ) (drawn : CounterId → ℕ) (ps : List Pick) (p : Pick) → HeldAlike v a b value drawn → p.position < length v.devices
    → may_join (with_counters v a value drawn) ps p ≡ may_join (with_counters v b value drawn) ps p
unfolding may_join covers total agrees rules_of
join_alike v a b value drawn ps p h n =
    ap (λ (t : Bool). list_all (λ q. apart (with_counters v a value drawn) q p) ps && ((p.label.admin || not t) && (covers (with_counters v a value drawn) ps p && list_all (λ r. agrees (with_counters v a value drawn) r ps p) (rules_of (with_counters v a value drawn))))) (h p n)

each_alike : (n : ℕ) (f g : List Pick → Pick → Bool) (before ps : List Pick) → ((bs : List Pick) (p : Pick) → p.position < n → f bs p ≡ g bs p) → Each (λ p. p.position < n) ps → each_after f before ps ≡ each_after g before ps
each_alike n f g before [] h k = refl
each_alike n f g before (p ∷ ps) h k =
    ap₂ (λ (a b : Bool). a && b) (h before p (k 0 p refl)) (each_alike n f g (before ++ p ∷ []) ps h (λ i q e. k (suc i) q e))

-- ---- positions of good lists are known

met_by : (w : SearchInput) (a : DeviceAsk) (x : ℕ) (z : Option Offered) → slice_get w.devices x ≡ z → is_yes (match_by w a z) ≡ true → x < length w.devices
met_by w a x None e y = absurd (cc)
met_by w a x (Some o) e y = slice_get_within w.devices x o e

met_known : (w : SearchInput) (a : DeviceAsk) (x : ℕ) → meets w a x ≡ true → x < length w.devices
met_known w a x y = met_by w a x (slice_get w.devices x) refl y

first_known : (n : ℕ) (p : Pick) (ps : List Pick) → p.position < n → Each (λ q. q.position < n) ps → Each (λ q. q.position < n) (p ∷ ps)
first_known n p ps a b zero q e = let f : p ≡ q = cc in subst (λ (z : Pick). z.position < n) f a
first_known n p ps a b (suc i) q e = b i q e

picks_known : (w : SearchInput) (least : ℕ) (ss : List Slot) (l : List ℕ) → each_fills w least ss l ≡ true → Each (λ p. p.position < length w.devices) (picks ss l)
picks_known w least [] l e = λ i q f. absurd (cc)
picks_known w least (s ∷ ss) [] e = λ i q f. absurd (cc)
picks_known w least (s ∷ ss) (x ∷ l) e =
    let both = and_parts (fills w s least x) (each_fills w (x + 1) ss l) e in
    let met = and_parts (meets w s.asked.ask x) (tolerated_at w s.asked.ask x && seated s.seat least x) both.0 in
    first_known (length w.devices) (record { label = s.asked.label; position = x }) (picks ss l) (met_known w s.asked.ask x met.0) (picks_known w (x + 1) ss l both.1)

-- ---- good lists

fills_alike : (v : SearchInput) (a b : List (DeviceId × Key)) (value : CounterId → Option ℕ) (drawn : CounterId → ℕ) (least : ℕ) (ss : List Slot) (l : List ℕ) → each_fills (with_counters v a value drawn) least ss l ≡ each_fills (with_counters v b value drawn) least ss l
unfolding tolerated_at
fills_alike v a b value drawn least ss [] = refl
fills_alike v a b value drawn least [] (x ∷ l) = refl
fills_alike v a b value drawn least (s ∷ ss) (x ∷ l) = ap (λ (t : Bool). fills (with_counters v a value drawn) s least x && t) (fills_alike v a b value drawn (x + 1) ss l)

if_filled : (t : Bool) (x y : Bool) → (t ≡ true → x ≡ y) → (t && x) ≡ (t && y)
if_filled true x y h = h refl
if_filled false x y h = refl

good_alike : (v : SearchInput) (a b : List (DeviceId × Key)) (value : CounterId → Option ℕ) (drawn : CounterId → ℕ) (ss : List Slot) (l : List ℕ) → HeldAlike v a b value drawn → is_good (with_counters v a value drawn) ss l ≡ is_good (with_counters v b value drawn) ss l
unfolding is_good
good_alike v a b value drawn ss l h =
    if_filled (each_fills (with_counters v a value drawn) 0 ss l) (each_after (may_join (with_counters v a value drawn)) [] (picks ss l)) (each_after (may_join (with_counters v b value drawn)) [] (picks ss l))
    (λ e. each_alike (length v.devices) (may_join (with_counters v a value drawn)) (may_join (with_counters v b value drawn)) [] (picks ss l)
    (λ bs p n. join_alike v a b value drawn bs p h n) (picks_known (with_counters v a value drawn) 0 ss l e))
    ∙ ap (λ (t : Bool). t && each_after (may_join (with_counters v b value drawn)) [] (picks ss l)) (fills_alike v a b value drawn 0 ss l)

-- ---- the search

slots_alike : (v : SearchInput) (a b : List (DeviceId × Key)) (value : CounterId → Option ℕ) (drawn : CounterId → ℕ) (c : List ℕ) → open_slots (with_counters v a value drawn) c ≡ open_slots (with_counters v b value drawn) c
unfolding asking.asked matching open_slots seats shape_of slots
slots_alike v a b value drawn c = refl

shapes_alike : (v : SearchInput) (a b : List (DeviceId × Key)) (value : CounterId → Option ℕ) (drawn : CounterId → ℕ) → shape_of (with_counters v a value drawn) ≡ shape_of (with_counters v b value drawn)
unfolding asking.asked matching seats shape_of slots
shapes_alike v a b value drawn = refl

same_problem : (options : List ℕ) (devices : ℕ) (s t : List ℕ → Shape) (f g : List ℕ → List ℕ → Bool) → s ≡ t → f ≡ g
    → ◌≡◌ {A = Problem} (record { options = options; devices = devices; shape = s; good = f }) (record { options = options; devices = devices; shape = t; good = g })
same_problem options devices s t f g d e =
    ap (λ (z : List ℕ → Shape). record { options = options; devices = devices; shape = z; good = f }) d
    ∙ ap (λ (z : List ℕ → List ℕ → Bool). record { options = options; devices = devices; shape = t; good = z }) e

problems_alike : (v : SearchInput) (a b : List (DeviceId × Key)) (value : CounterId → Option ℕ) (drawn : CounterId → ℕ) → HeldAlike v a b value drawn → problem_of (with_counters v a value drawn) ≡ problem_of (with_counters v b value drawn)
problems_alike v a b value drawn h =
    same_problem (asking.options v) (length v.devices) (shape_of (with_counters v a value drawn)) (shape_of (with_counters v b value drawn))
    (λ c l. is_good (with_counters v a value drawn) (open_slots (with_counters v a value drawn) c) l) (λ c l. is_good (with_counters v b value drawn) (open_slots (with_counters v b value drawn) c) l)
    (shapes_alike v a b value drawn)
    (fun_ext (λ c. fun_ext (λ l.
    good_alike v a b value drawn (open_slots (with_counters v a value drawn) c) l h
    ∙ ap (λ (ss : List Slot). is_good (with_counters v b value drawn) ss l) (slots_alike v a b value drawn c))))

-- ---- its outcome

grants_alike : (v : SearchInput) (a b : List (DeviceId × Key)) (value : CounterId → Option ℕ) (drawn : CounterId → ℕ) (c l : List ℕ) → grants_at (with_counters v a value drawn) c l ≡ grants_at (with_counters v b value drawn) c l
unfolding asking.asked matching seats slots grants_of grants_at
grants_alike v a b value drawn c l = refl

fault_alike : (v : SearchInput) (a b : List (DeviceId × Key)) (value : CounterId → Option ℕ) (drawn : CounterId → ℕ) (c : List ℕ) → fault_of (with_counters v a value drawn) c ≡ fault_of (with_counters v b value drawn) c
unfolding asking.asked fault_of
fault_alike v a b value drawn c = refl

ended_alike : (v : SearchInput) (a b : List (DeviceId × Key)) (value : CounterId → Option ℕ) (drawn : CounterId → ℕ) (x : Item) (m : Mark) → ended_by (with_counters v a value drawn) x m ≡ ended_by (with_counters v b value drawn) x m
ended_alike v a b value drawn x Part = refl
ended_alike v a b value drawn x Full = ap (λ (gs : List Grant). Some (outcomes.Found gs)) (grants_alike v a b value drawn x.choice x.positions)
ended_alike v a b value drawn x Fault = ap (option_map (λ (f : FaultPlace). outcomes.Fault (selector_fault f))) (fault_alike v a b value drawn x.choice)

answers_alike : (v : SearchInput) (a b : List (DeviceId × Key)) (value : CounterId → Option ℕ) (drawn : CounterId → ℕ) (o : walks.Outcome) → answer_by (with_counters v a value drawn) o ≡ answer_by (with_counters v b value drawn) o
answers_alike v a b value drawn (walks.Ended x) = ended_alike v a b value drawn x x.mark
answers_alike v a b value drawn walks.Unsat = refl
answers_alike v a b value drawn walks.Budget = refl

answer_alike : (v : SearchInput) (a b : List (DeviceId × Key)) (value : CounterId → Option ℕ) (drawn : CounterId → ℕ) (budget : ℕ) → HeldAlike v a b value drawn → answer_of (with_counters v a value drawn) budget ≡ answer_of (with_counters v b value drawn) budget
unfolding answer_of
answer_alike v a b value drawn budget h =
    ap (λ (p : Problem). answer_by (with_counters v a value drawn) (outcome budget (walk p))) (problems_alike v a b value drawn h)
    ∙ answers_alike v a b value drawn (outcome budget (walk (problem_of (with_counters v b value drawn))))

-- the outcome is that of the held ones among the devices
pub same_answer : (v : SearchInput) (h : Holders) (pairs : List (DeviceId × Key)) (value : CounterId → Option ℕ) (drawn : CounterId → ℕ) (budget : ℕ) → AreHeld h pairs
    → answer_of (with_counters v pairs value drawn) budget ≡ answer_of (with_counters v (held_among h v.devices) value drawn) budget
same_answer v h pairs value drawn budget a = answer_alike v pairs (held_among h v.devices) value drawn budget (λ p n. held_alike h pairs v.devices p.position a n)
