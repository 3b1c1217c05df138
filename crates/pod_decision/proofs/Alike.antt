-- Counters on which no device draws don't matter to a search.
use Rattle.std.proofs.Common.{ℕ, suc, ◌≡◌, ◌<◌, ◌+◌, ◌⊎◌, inl, inr, ⊎_elim, ◌∙◌, List, [], ◌∷◌, Bool, true, false, not, cond, ◌&&◌, ◌||◌, Option, None, Some, length, map, filter, get_or, eqb, eq-eqb, if◌then◌else◌, refl, sym, ap, subst, arith}
use Rattle.std.proofs.lemmas.Bool.{eqb-true}
use Rattle.std.proofs.lemmas.Cmp.{nat_list_eq_equiv}
use Rattle.std.proofs.lemmas.Option.{get_or_from_slice_get, slice_get_within}
use Rattle.std.proofs.Math.Path.{fun_ext}
use Rattle.std.specs.List.{flat_map, list_all, list_any, slice_get, sum_by}
use Rattle.std.specs.Option.{option_map}
use Rattle.walk.specs.Lists.{numbers}
use Rattle.walk.specs.Outcome as walks
use Rattle.walk.specs.Outcome.{outcome}
use Rattle.walk.specs.Walk.{Faulty, Fault, Full, Hopeless, Item, Mark, Open, Part, Problem, Shape, walk}
use Rattle.api_claim.specs.declared.types.AllocationMode.{AllocationMode}
use Rattle.api_claim.specs.declared.types.AllocationMode.TheVariants.{ExactCount, All}
use Rattle.api_claim.specs.declared.types.DeviceAsk.{DeviceAsk}
use Rattle.api_slice.specs.declared.types.ResourceSlice.{ResourceSlice}
use Rattle.pool_view.specs.Names.{text_eq}
use Rattle.pool_view.specs.Pools.{Offered}
use Rattle.request_rules.specs.Allocation.{result_of}
use Rattle.request_rules.specs.Asked.{Asked, Due, Seat, Slot, asked, is_yes, match_by, matching, meets, options, rules_of, seats, seats_by, slots, slots_of, tolerated_at, tolerated_by}
use Rattle.request_rules.specs.Draws.{CounterId, Draw, draws_of, is_of_pool, is_within}
use Rattle.request_rules.specs.Growth.{IsOfPool}
use Rattle.request_rules.specs.Faults.{FaultPlace, fault_of}
use Rattle.request_rules.specs.Grants.{grants_of}
use Rattle.request_rules.specs.Input.{SearchInput}
use Rattle.request_rules.specs.Lists.{Each, each_after}
use Rattle.request_rules.specs.Problem.{all_fails, is_all, is_crowded, is_faulty, is_none, good, open_slots, problem_of, shape_by, shape_of, slots_by}
use Rattle.request_rules.specs.Rules.{Pick, agrees, amount, apart, covers, draws, draws_by, each_fills, fills, is_good, is_held, may_join, picks, seated, total}
use Rattle.cluster.specs.declared.plan.Grant.{Grant}
use Rattle.counter_sets.specs.Totals.{KeptCounters, drawn_in, value_of}
use Rattle.allocator.specs.Answered.{answer_by, answer_of, ended_by, grant_of, grants_at, selector_fault}
use Rattle.allocator.specs.Input.{with_counters}
use Rattle.allocator.specs.declared.outcome.Outcome.TheVariants as outcome
use Rattle.pod_decision.specs.Copied.{AreCopied, IsCopied, IsLikeBefore}

-- the same is asked for over the same devices, with other counters
abbrev pub over : SearchInput → (CounterId → Option ℕ) → (CounterId → ℕ) → SearchInput
over w v d = with_counters w w.held v d

-- the counters on which the devices draw are the same
pub record AreAlike (devices : List Offered) (v value : CounterId → Option ℕ) (d drawn : CounterId → ℕ) : Type 0 where
  pub values : Each (λ o. Each (λ (k : Draw). v k.counter ≡ value k.counter) (draws_of o)) devices
  pub drawn_are : Each (λ o. Each (λ (k : Draw). d k.counter ≡ drawn k.counter) (draws_of o)) devices

-- ---- shapes and slots

match_same : (w : SearchInput) (v : CounterId → Option ℕ) (d : CounterId → ℕ) (a : DeviceAsk) (o : Option Offered) → match_by (over w v d) a o ≡ match_by w a o
match_same w v d a None = refl
match_same w v d a (Some o) = refl

meets_same : (w : SearchInput) (v : CounterId → Option ℕ) (d : CounterId → ℕ) (a : DeviceAsk) (x : ℕ) → meets (over w v d) a x ≡ meets w a x
meets_same w v d a x = ap is_yes (match_same w v d a (slice_get w.devices x))

matching_same : (w : SearchInput) (v : CounterId → Option ℕ) (d : CounterId → ℕ) (a : DeviceAsk) → matching (over w v d) a ≡ matching w a
unfolding matching
matching_same w v d a = ap (λ (f : ℕ → Bool). filter f (numbers 0 (length w.devices))) (fun_ext (meets_same w v d a))

seats_same : (w : SearchInput) (v : CounterId → Option ℕ) (d : CounterId → ℕ) (a : DeviceAsk) (m : AllocationMode) → seats_by (over w v d) a m ≡ seats_by w a m
seats_same w v d a (ExactCount n) = refl
seats_same w v d a All = ap (λ (l : List ℕ). map (λ x. Due x) l) (matching_same w v d a)

slots_of_same : (w : SearchInput) (v : CounterId → Option ℕ) (d : CounterId → ℕ) (a : Asked) → slots_of (over w v d) a ≡ slots_of w a
unfolding seats
slots_of_same w v d a = ap (λ (l : List Seat). map (λ s. record { asked = a; seat = s }) l) (seats_same w v d a.ask a.ask.mode)

slots_same : (w : SearchInput) (v : CounterId → Option ℕ) (d : CounterId → ℕ) (c : List ℕ) → slots (over w v d) c ≡ slots w c
unfolding slots asked
slots_same w v d c = ap (λ (f : Asked → List Slot). flat_map f (asked w c)) (fun_ext (slots_of_same w v d))

fails_same : (w : SearchInput) (v : CounterId → Option ℕ) (d : CounterId → ℕ) (a : Asked) → all_fails (over w v d) a ≡ all_fails w a
fails_same w v d a = ap (λ (l : List ℕ). is_all a.ask.mode && (w.broken || is_none l)) (matching_same w v d a.ask)

shape_same : (w : SearchInput) (v : CounterId → Option ℕ) (d : CounterId → ℕ) (c : List ℕ) → shape_of (over w v d) c ≡ shape_of w c
unfolding shape_of asked
shape_same w v d c =
    ap (λ (ss : List Slot). shape_by (over w v d) (asked w c) ss) (slots_same w v d c)
    ∙ ap (λ (f : Asked → Bool). cond (list_any (is_faulty w) (asked w c)) Faulty (cond (list_any f (asked w c)) Hopeless (cond (is_crowded w (slots w c)) Hopeless (Open (length (slots w c))))))
    (fun_ext (fails_same w v d))

open_same : (w : SearchInput) (v : CounterId → Option ℕ) (d : CounterId → ℕ) (c : List ℕ) → open_slots (over w v d) c ≡ open_slots w c
unfolding open_slots
open_same w v d c =
    ap (λ (s : Shape). slots_by s (slots (over w v d) c)) (shape_same w v d c)
    ∙ ap (λ (ss : List Slot). slots_by (shape_of w c) ss) (slots_same w v d c)

-- ---- what is good

fills_same : (w : SearchInput) (v : CounterId → Option ℕ) (d : CounterId → ℕ) (s : Slot) (least x : ℕ) → fills (over w v d) s least x ≡ fills w s least x
unfolding tolerated_at
fills_same w v d s least x = ap (λ (b : Bool). b && (tolerated_by s.asked.ask (slice_get w.devices x) && seated s.seat least x)) (meets_same w v d s.asked.ask x)

each_same : (w : SearchInput) (v : CounterId → Option ℕ) (d : CounterId → ℕ) (least : ℕ) (ss : List Slot) (l : List ℕ) → each_fills (over w v d) least ss l ≡ each_fills w least ss l
each_same w v d least ss [] = refl
each_same w v d least [] (x ∷ xs) = refl
each_same w v d least (s ∷ ss) (x ∷ xs) =
    ap (λ (b : Bool). b && each_fills (over w v d) (x + 1) ss xs) (fills_same w v d s least x)
    ∙ ap (λ (b : Bool). fills w s least x && b) (each_same w v d (x + 1) ss xs)

all_same : {X : Type 0} (f g : X → Bool) (xs : List X) → Each (λ x. f x ≡ g x) xs → list_all f xs ≡ list_all g xs
all_same f g [] h = refl
all_same f g (x ∷ xs) h =
    ap (λ (b : Bool). b && list_all f xs) (h 0 x refl)
    ∙ ap (λ (b : Bool). g x && b) (all_same f g xs (λ i y e. h (suc i) y e))

draws_if : (P : Draw → Type 0) (b : Bool) (o : Option Offered) → ((x : Offered) → o ≡ Some x → Each P (draws_of x)) → Each P (cond b [] (draws_by o))
draws_if P true o h i k e = absurd (cc)
draws_if P false None h i k e = absurd (cc)
draws_if P false (Some x) h i k e = h x refl i k e

draws_each : (P : Draw → Type 0) (w : SearchInput) (p : Pick) → Each (λ o. Each P (draws_of o)) w.devices → Each P (draws w p)
draws_each P w p h = draws_if P p.label.admin (slice_get w.devices p.position) (λ x e. h p.position x e)

within_same : (w : SearchInput) (v : CounterId → Option ℕ) (d : CounterId → ℕ) (k : Draw) (n m : ℕ) → v k.counter ≡ w.value k.counter → d k.counter ≡ w.drawn k.counter
    → is_within (v k.counter) (d k.counter + n + m) ≡ is_within (w.value k.counter) (w.drawn k.counter + n + m)
within_same w v d k n m e f = ap (λ (o : Option ℕ). is_within o (d k.counter + n + m)) e ∙ ap (λ (j : ℕ). is_within (w.value k.counter) (j + n + m)) f

covers_same : (w : SearchInput) (v : CounterId → Option ℕ) (d : CounterId → ℕ) → AreAlike w.devices v w.value d w.drawn → (before : List Pick) (p : Pick) → covers (over w v d) before p ≡ covers w before p
unfolding covers total
covers_same w v d are before p =
    all_same (λ (k : Draw). is_within (v k.counter) (d k.counter + sum_by (λ q. amount k.counter (draws w q)) before + amount k.counter (draws w p)))
    (λ (k : Draw). is_within (w.value k.counter) (w.drawn k.counter + sum_by (λ q. amount k.counter (draws w q)) before + amount k.counter (draws w p)))
    (draws w p)
    (λ i k e. within_same w v d k (sum_by (λ q. amount k.counter (draws w q)) before) (amount k.counter (draws w p))
    (draws_each (λ (x : Draw). v x.counter ≡ w.value x.counter) w p are.values i k e)
    (draws_each (λ (x : Draw). d x.counter ≡ w.drawn x.counter) w p are.drawn_are i k e))

joins_same : (w : SearchInput) (v : CounterId → Option ℕ) (d : CounterId → ℕ) → AreAlike w.devices v w.value d w.drawn → (before : List Pick) (p : Pick) → may_join (over w v d) before p ≡ may_join w before p
unfolding may_join agrees rules_of
joins_same w v d are before p =
    ap (λ (b : Bool). list_all (λ q. apart w q p) before && ((p.label.admin || not (is_held w p)) && (b && list_all (λ r. agrees w r before p) (rules_of w)))) (covers_same w v d are before p)

good_same : (w : SearchInput) (v : CounterId → Option ℕ) (d : CounterId → ℕ) → AreAlike w.devices v w.value d w.drawn → (ss : List Slot) (l : List ℕ) → is_good (over w v d) ss l ≡ is_good w ss l
unfolding is_good
good_same w v d are ss l =
    ap (λ (b : Bool). b && each_after (may_join (over w v d)) [] (picks ss l)) (each_same w v d 0 ss l)
    ∙ ap (λ (f : List Pick → Pick → Bool). each_fills w 0 ss l && each_after f [] (picks ss l)) (fun_ext (λ before. fun_ext (joins_same w v d are before)))

problem_is : (o : List ℕ) (n : ℕ) (s t : List ℕ → Shape) (f g : List ℕ → List ℕ → Bool) → s ≡ t → f ≡ g → ◌≡◌ {A = Problem} (record { options = o; devices = n; shape = s; good = f }) (record { options = o; devices = n; shape = t; good = g })
problem_is o n s t f g e h = cc

problem_same : (w : SearchInput) (v : CounterId → Option ℕ) (d : CounterId → ℕ) → AreAlike w.devices v w.value d w.drawn → problem_of (over w v d) ≡ problem_of w
problem_same w v d are =
    problem_is (options w) (length w.devices) (shape_of (over w v d)) (shape_of w) (good (over w v d)) (good w) (fun_ext (shape_same w v d))
    (fun_ext (λ c. fun_ext (λ l. ap (λ (ss : List Slot). is_good (over w v d) ss l) (open_same w v d c) ∙ good_same w v d are (open_slots w c) l)))

-- ---- what is found

grants_same : (w : SearchInput) (v : CounterId → Option ℕ) (d : CounterId → ℕ) (c l : List ℕ) → grants_at (over w v d) c l ≡ grants_at w c l
unfolding grants_at grants_of
grants_same w v d c l = ap (λ (ss : List Slot). map grant_of (grants_of w (map (result_of w) (picks ss l)))) (slots_same w v d c)

fault_same : (w : SearchInput) (v : CounterId → Option ℕ) (d : CounterId → ℕ) (c : List ℕ) → fault_of (over w v d) c ≡ fault_of w c
unfolding fault_of asked
fault_same w v d c = refl

ended_same : (w : SearchInput) (v : CounterId → Option ℕ) (d : CounterId → ℕ) (x : Item) (m : Mark) → ended_by (over w v d) x m ≡ ended_by w x m
ended_same w v d x Part = refl
ended_same w v d x Full = ap (λ (gs : List Grant). Some (outcome.Found gs)) (grants_same w v d x.choice x.positions)
ended_same w v d x Fault = ap (λ (o : Option FaultPlace). option_map (λ f. outcome.Fault (selector_fault f)) o) (fault_same w v d x.choice)

answer_by_same : (w : SearchInput) (v : CounterId → Option ℕ) (d : CounterId → ℕ) (o : walks.Outcome) → answer_by (over w v d) o ≡ answer_by w o
answer_by_same w v d (walks.Ended x) = ended_same w v d x x.mark
answer_by_same w v d walks.Unsat = refl
answer_by_same w v d walks.Budget = refl

-- a search with counters that the devices can't tell from the input's finds the same
pub answer_same : (w : SearchInput) (v : CounterId → Option ℕ) (d : CounterId → ℕ) (budget : ℕ) → AreAlike w.devices v w.value d w.drawn → answer_of (over w v d) budget ≡ answer_of w budget
unfolding answer_of
answer_same w v d budget are =
    ap (λ (p : Problem). answer_by (over w v d) (outcome budget (walk p))) (problem_same w v d are)
    ∙ answer_by_same w v d (outcome budget (walk (problem_of w)))

-- ---- the counters of the pools that a node sees

text_self : (t : List ℕ) → text_eq t t ≡ true
text_self t = nat_list_eq_equiv.refl t

both_true : (a b : Bool) → a ≡ true → b ≡ true → (a && b) ≡ true
both_true true b e f = f
both_true false b e f = absurd (cc)

of_pool : (o : Offered) (k : Draw) → IsOfPool o k → is_of_pool o.slice k.counter ≡ true
of_pool o k is =
    both_true (text_eq o.slice.driver k.counter.driver) (text_eq o.slice.pool.name k.counter.pool)
    (ap (λ (t : List ℕ). text_eq o.slice.driver t) is.driver ∙ text_self o.slice.driver)
    (ap (λ (t : List ℕ). text_eq o.slice.pool.name t) is.pool ∙ text_self o.slice.pool.name)

abbrev pub OwnDraws : Type 0
OwnDraws = (o : Offered) → Each (IsOfPool o) (draws_of o)

-- counters that were copied with their pools are alike
pub copied_alike : OwnDraws → (devices : List Offered) (from kept : KeptCounters) → AreCopied devices from kept → AreAlike devices (value_of kept) (value_of from) (drawn_in kept) (drawn_in from)
copied_alike own devices from kept are = record {
  values = λ i o at j k is. (are i o at).value_is k.counter (of_pool o k (own o j k is));
  drawn_are = λ i o at j k is. (are i o at).drawn_is k.counter (of_pool o k (own o j k is));
}

-- ---- copied one after another

either : {X : Type 0} (b : Bool) (p q : X) → q ≡ p → cond b p q ≡ p
either true p q e = refl
either false p q e = e

if_true : {X : Type 0} (b : Bool) (p q : X) → b ≡ true → cond b p q ≡ p
if_true true p q e = refl
if_true false p q e = absurd (cc)

abbrev pub Copies : ResourceSlice → (from old new : KeptCounters) → Type 0
Copies x from old new = ((c : CounterId) → value_of new c ≡ (if is_of_pool x c then value_of from c else value_of old c)) × ((c : CounterId) → drawn_in new c ≡ (if is_of_pool x c then drawn_in from c else drawn_in old c))

-- what was copied stays
stays : (x y : ResourceSlice) (from old new : KeptCounters) → Copies x from old new → IsCopied y from old → IsCopied y from new
stays x y from old new c is = record {
  value_is = λ k own. c.0 k ∙ either (is_of_pool x k) (value_of from k) (value_of old k) (is.value_is k own);
  drawn_is = λ k own. c.1 k ∙ either (is_of_pool x k) (drawn_in from k) (drawn_in old k) (is.drawn_is k own);
}

-- and the pool that is copied is
added : (x : ResourceSlice) (from old new : KeptCounters) → Copies x from old new → IsCopied x from new
added x from old new c = record {
  value_is = λ k own. c.0 k ∙ if_true (is_of_pool x k) (value_of from k) (value_of old k) own;
  drawn_is = λ k own. c.1 k ∙ if_true (is_of_pool x k) (drawn_in from k) (drawn_in old k) own;
}

pool_is : (x y : ResourceSlice) (k : CounterId) → x.driver ≡ y.driver → x.pool.name ≡ y.pool.name → is_of_pool x k ≡ is_of_pool y k
pool_is x y k e f =
    ap (λ (t : List ℕ). text_eq t k.driver && text_eq x.pool.name k.pool) e
    ∙ ap (λ (t : List ℕ). text_eq y.driver k.driver && text_eq t k.pool) f

same_pool : (x y : ResourceSlice) (from kept : KeptCounters) → x.driver ≡ y.driver → x.pool.name ≡ y.pool.name → IsCopied x from kept → IsCopied y from kept
same_pool x y from kept e f is = record {
  value_is = λ k own. is.value_is k (pool_is x y k e f ∙ own);
  drawn_is = λ k own. is.drawn_is k (pool_is x y k e f ∙ own);
}

-- those of the pools of the first devices
abbrev pub AreFirst : List Offered → (from kept : KeptCounters) → ℕ → Type 0
AreFirst devices from kept n = (i : ℕ) (o : Offered) → i < n → slice_get devices i ≡ Some o → IsCopied o.slice from kept

least_by : (k n : ℕ) (b : Bool) → eqb k n ≡ b → k < n + 1 → (k < n) ⊎ (k ≡ n)
least_by k n true e h = inr (eqb-true k n e)
least_by k n false e h = inl (let apart : k ≡ n → ⊥ = λ same. let f = eq-eqb k n same in absurd (cc) in omega (arith, apart, h))

next : (devices : List Offered) (from kept : KeptCounters) (n i : ℕ) (o item : Offered) → item ≡ get_or devices n item → IsCopied item.slice from kept → i ≡ n → slice_get devices i ≡ Some o → IsCopied o.slice from kept
next devices from kept n i o item is new same at =
    let e : o ≡ item = sym (get_or_from_slice_get devices i o item at) ∙ ap (λ (j : ℕ). get_or devices j item) same ∙ sym is in
    subst (λ (x : Offered). IsCopied x.slice from kept) (sym e) new

first_more : (devices : List Offered) (from kept : KeptCounters) (n : ℕ) (item : Offered) → item ≡ get_or devices n item → IsCopied item.slice from kept → AreFirst devices from kept n → AreFirst devices from kept (n + 1)
first_more devices from kept n item is new h i o below at =
    ⊎_elim (λ (less : i < n). h i o less at) (λ (same : i ≡ n). next devices from kept n i o item is new same at) (least_by i n (eqb i n) refl below)

-- with the pool of one device more
pub copied_more : (devices : List Offered) (from old new : KeptCounters) (n : ℕ) (item : Offered) → item ≡ get_or devices n item → Copies item.slice from old new → AreFirst devices from old n → AreFirst devices from new (n + 1)
copied_more devices from old new n item is c h =
    first_more devices from new n item is (added item.slice from old new c) (λ i o below at. stays item.slice o.slice from old new c (h i o below at))

-- of which the pool is that of the device before it
pub like_more : (devices : List Offered) (from kept : KeptCounters) (n : ℕ) → IsLikeBefore devices n → AreFirst devices from kept n → AreFirst devices from kept (n + 1)
like_more devices from kept n like h =
    let step = like.next in
    first_more devices from kept n like.device (sym (get_or_from_slice_get devices n like.device like.device like.device_is))
    (same_pool like.first.slice like.device.slice from kept like.driver like.pool (h like.before like.first (omega (arith, step)) like.first_is)) h

pub copied_all : (devices : List Offered) (from kept : KeptCounters) (n : ℕ) → n ≡ length devices → AreFirst devices from kept n → AreCopied devices from kept
copied_all devices from kept n is h = λ i o at. let within = slice_get_within devices i o at in h i o (omega (arith, is, within)) at
