-- Which positions are good, over an input in which more is held.
use Rattle.std.proofs.Common.{ℕ, zero, suc, ◌+◌, ◌≤◌, ◌≡◌, List, [], ◌∷◌, ◌++◌, Bool, true, false, not, cond, eqb, ltb, ◌&&◌, ◌||◌, Option, None, Some, length, map, refl, sym, ap, ◌∙◌, subst, arith}
use Rattle.std.specs.List.{slice_get, list_all, list_any, sum_by}
use Rattle.std.specs.Option.{is_some}
use Rattle.std.proofs.lemmas.List.Sums.{sum_by-cons}
use Rattle.std.proofs.lemmas.Bool.Decides.{nat_tests}
use Rattle.walk.specs.Lists.{numbers}
use Rattle.walk.specs.Narrower.{IsNarrower}
use Rattle.walk.specs.Walk.{Shape, Faulty, Hopeless, Open}
use Rattle.api_claim.specs.declared.types.DeviceAsk.{DeviceAsk}
use Rattle.pool_view.specs.Names.{device_eq}
use Rattle.pool_view.specs.Pools.{Offered, id_in}
use Rattle.request_rules.specs.Asked.{Asked, Rule, Slot, asked, is_fault, match_by, matching, meets, rules_of, slots, tolerated_at, tolerated_by, is_yes}
use Rattle.request_rules.specs.Draws.{CounterId, Draw, draws_of, is_held as are_held, is_within}
use Rattle.request_rules.specs.Growth.{IsFuller}
use Rattle.request_rules.specs.Input.{SearchInput}
use Rattle.request_rules.specs.Lists.{Each, each_after}
use Rattle.request_rules.specs.Names.{Label}
use Rattle.request_rules.specs.Problem.{all_fails, due_to, is_all, is_crowded, is_faulty, is_none, most_results, open_slots, problem_of, shape_by, shape_of, slots_by}
use Rattle.request_rules.specs.Rules.{Pick, agrees, amount, apart, attribute_by, covers, draws, draws_by, each_fills, excludes, fills, id_by, is_for, is_good, is_held, may_join, picks, same_values, seated, total}
use Rattle.request_rules.proofs.GrowthAsked.{Both, SameAsked, SameSlot, asked_same, claims_same, matching_same, meets_same, options_same, rules_same, slots_same}
use Rattle.request_rules.proofs.Places.{all_at, all_from}
use Rattle.request_rules.proofs.Standing.{agrees_of, apart_of, covers_of, free_of, joins_from}
use Rattle.request_rules.proofs.Tests.{left_of, right_of, both}

-- ---- shapes

any_same : {X : Type 0} (f g : X → Bool) (xs : List X) → Each (λ x. f x ≡ g x) xs → list_any f xs ≡ list_any g xs
any_same f g [] h = refl
any_same f g (x ∷ xs) h =
    ap (λ (b : Bool). b || list_any f xs) (h 0 x refl)
    ∙ ap (λ (b : Bool). g x || b) (any_same f g xs (λ i y e. h (suc i) y e))

faulty_same : (v w : SearchInput) (a b : Asked) → w.devices ≡ v.devices → SameAsked v w a b → is_faulty w b ≡ is_faulty v a
faulty_same v w a b e s =
    ap (λ (ds : List Offered). list_any (λ o. is_fault (w.matched b.ask o)) ds) e
    ∙ ap (λ (k : DeviceAsk). list_any (λ o. is_fault (w.matched k o)) v.devices) s.ask
    ∙ any_same (λ o. is_fault (w.matched a.ask o)) (λ o. is_fault (v.matched a.ask o)) v.devices (λ i o g. ap is_fault (s.matched i o g))

fails_same : (v w : SearchInput) (a b : Asked) → w.devices ≡ v.devices → w.broken ≡ v.broken → SameAsked v w a b → all_fails w b ≡ all_fails v a
fails_same v w a b e f s =
    ap (λ (k : DeviceAsk). is_all k.mode && (w.broken || is_none (matching w k))) s.ask
    ∙ ap (λ (t : Bool). is_all a.ask.mode && (t || is_none (matching w a.ask))) f
    ∙ ap (λ (l : List ℕ). is_all a.ask.mode && (v.broken || is_none l)) (matching_same v w a.ask e s.matched)

any_both : {X : Type 0} (R : X → X → Type 0) (f g : X → Bool) (xs ys : List X) → ((x y : X) → R x y → g y ≡ f x) → Both R xs ys → list_any g ys ≡ list_any f xs
any_both R f g [] [] e h = refl
any_both R f g [] (y ∷ ys) e h = absurd h
any_both R f g (x ∷ xs) [] e h = absurd h
any_both R f g (x ∷ xs) (y ∷ ys) e h =
    ap (λ (b : Bool). b || list_any g ys) (e x y h.0)
    ∙ ap (λ (b : Bool). f x || b) (any_both R f g xs ys e h.1)

lengths_same : {X : Type 0} (R : X → X → Type 0) (xs ys : List X) → Both R xs ys → length ys ≡ length xs
lengths_same R [] [] h = refl
lengths_same R [] (y ∷ ys) h = absurd h
lengths_same R (x ∷ xs) [] h = absurd h
lengths_same R (x ∷ xs) (y ∷ ys) h = ap suc (lengths_same R xs ys h.1)

labels_same : (v w : SearchInput) (ss ts : List Slot) → Both (SameSlot v w) ss ts → map (λ s. s.asked.label) ts ≡ map (λ s. s.asked.label) ss
labels_same v w [] [] h = refl
labels_same v w [] (t ∷ ts) h = absurd h
labels_same v w (s ∷ ss) [] h = absurd h
labels_same v w (s ∷ ss) (t ∷ ts) h =
    ap (λ (l : Label). l ∷ map (λ s. s.asked.label) ts) h.0.asked.label
    ∙ ap (λ (ls : List Label). s.asked.label ∷ ls) (labels_same v w ss ts h.1)

due_same : (v w : SearchInput) (ss ts : List Slot) (i : ℕ) → Both (SameSlot v w) ss ts → due_to ts i ≡ due_to ss i
due_same v w [] [] i h = refl
due_same v w [] (t ∷ ts) i h = absurd h
due_same v w (s ∷ ss) [] i h = absurd h
due_same v w (s ∷ ss) (t ∷ ts) i h =
    sum_by-cons (λ (z : Slot). cond (eqb z.asked.label.claim i) 1 0) t ts
    ∙ ap (λ (l : Label). cond (eqb l.claim i) 1 0 + due_to ts i) h.0.asked.label
    ∙ ap (λ (n : ℕ). cond (eqb s.asked.label.claim i) 1 0 + n) (due_same v w ss ts i h.1)
    ∙ sym (sum_by-cons (λ (z : Slot). cond (eqb z.asked.label.claim i) 1 0) s ss)

crowded_same : (v w : SearchInput) (ss ts : List Slot) → length w.claims ≡ length v.claims → Both (SameSlot v w) ss ts → is_crowded w ts ≡ is_crowded v ss
crowded_same v w ss ts e h =
    ap (λ (n : ℕ). list_any (λ i. ltb most_results (due_to ts i)) (numbers 0 n)) e
    ∙ any_same (λ i. ltb most_results (due_to ts i)) (λ i. ltb most_results (due_to ss i)) (numbers 0 (length v.claims)) (λ j i g. ap (λ (n : ℕ). ltb most_results n) (due_same v w ss ts i h))

shapes_same : (v w : SearchInput) (xs bs : List Asked) (ss ts : List Slot) → w.devices ≡ v.devices → w.broken ≡ v.broken → length w.claims ≡ length v.claims → Both (SameAsked v w) xs bs → Both (SameSlot v w) ss ts
    → shape_by w bs ts ≡ shape_by v xs ss
shapes_same v w xs bs ss ts e f n h k =
    let faulty = any_both (SameAsked v w) (is_faulty v) (is_faulty w) xs bs (λ a b s. faulty_same v w a b e s) h in
    let fails = any_both (SameAsked v w) (all_fails v) (all_fails w) xs bs (λ a b s. fails_same v w a b e f s) h in
    ap (λ (t : Bool). cond t Faulty (cond (list_any (all_fails w) bs) Hopeless (cond (is_crowded w ts) Hopeless (Open (length ts))))) faulty
    ∙ ap (λ (t : Bool). cond (list_any (is_faulty v) xs) Faulty (cond t Hopeless (cond (is_crowded w ts) Hopeless (Open (length ts))))) fails
    ∙ ap (λ (t : Bool). cond (list_any (is_faulty v) xs) Faulty (cond (list_any (all_fails v) xs) Hopeless (cond t Hopeless (Open (length ts))))) (crowded_same v w ss ts n k)
    ∙ ap (λ (m : ℕ). cond (list_any (is_faulty v) xs) Faulty (cond (list_any (all_fails v) xs) Hopeless (cond (is_crowded v ss) Hopeless (Open m)))) (lengths_same (SameSlot v w) ss ts k)

slots_are : (v w : SearchInput) (c : List ℕ) → IsFuller v w → Both (SameSlot v w) (slots v c) (slots w c)
unfolding slots
slots_are v w c h = slots_same v w (asked v c) (asked w c) h.devices (asked_same v w c h.specs h.matched)

pub shape_same : (v w : SearchInput) (c : List ℕ) → IsFuller v w → shape_of w c ≡ shape_of v c
unfolding shape_of
shape_same v w c h =
    shapes_same v w (asked v c) (asked w c) (slots v c) (slots w c) h.devices h.broken (claims_same v.claims w.claims h.specs)
    (asked_same v w c h.specs h.matched) (slots_are v w c h)

open_by : (v w : SearchInput) (s : Shape) (ss ts : List Slot) → Both (SameSlot v w) ss ts → Both (SameSlot v w) (slots_by s ss) (slots_by s ts)
open_by v w Faulty ss ts h = tt
open_by v w Hopeless ss ts h = tt
open_by v w (Open n) ss ts h = h

open_same : (v w : SearchInput) (c : List ℕ) → IsFuller v w → Both (SameSlot v w) (open_slots v c) (open_slots w c)
unfolding open_slots
open_same v w c h =
    subst (λ (s : Shape). Both (SameSlot v w) (slots_by (shape_of v c) (slots v c)) (slots_by s (slots w c))) (sym (shape_same v w c h))
    (open_by v w (shape_of v c) (slots v c) (slots w c) (slots_are v w c h))

-- ---- slots that are filled

fills_same : (v w : SearchInput) (s t : Slot) (least x : ℕ) → w.devices ≡ v.devices → SameSlot v w s t → fills w t least x ≡ fills v s least x
unfolding tolerated_at
fills_same v w s t least x e h =
    ap (λ (k : DeviceAsk). meets w k x && (tolerated_by k (slice_get w.devices x) && seated t.seat least x)) h.asked.ask
    ∙ ap (λ z. meets w s.asked.ask x && (tolerated_by s.asked.ask (slice_get w.devices x) && seated z least x)) h.seat
    ∙ ap (λ (ds : List Offered). meets w s.asked.ask x && (tolerated_by s.asked.ask (slice_get ds x) && seated s.seat least x)) e
    ∙ ap (λ (b : Bool). b && (tolerated_by s.asked.ask (slice_get v.devices x) && seated s.seat least x)) (meets_same v w s.asked.ask x e h.asked.matched)

filled_same : (v w : SearchInput) (least : ℕ) (ss ts : List Slot) (l : List ℕ) → w.devices ≡ v.devices → Both (SameSlot v w) ss ts → each_fills w least ts l ≡ each_fills v least ss l
filled_same v w least [] [] [] e h = refl
filled_same v w least [] [] (x ∷ l) e h = refl
filled_same v w least [] (t ∷ ts) l e h = absurd h
filled_same v w least (s ∷ ss) [] l e h = absurd h
filled_same v w least (s ∷ ss) (t ∷ ts) [] e h = refl
filled_same v w least (s ∷ ss) (t ∷ ts) (x ∷ l) e h =
    ap (λ (b : Bool). b && each_fills w (x + 1) ts l) (fills_same v w s t least x e h.0)
    ∙ ap (λ (b : Bool). fills v s least x && b) (filled_same v w (x + 1) ss ts l e h.1)

picks_same : (v w : SearchInput) (ss ts : List Slot) (l : List ℕ) → Both (SameSlot v w) ss ts → picks ts l ≡ picks ss l
picks_same v w [] [] l h = refl
picks_same v w [] (t ∷ ts) l h = absurd h
picks_same v w (s ∷ ss) [] l h = absurd h
picks_same v w (s ∷ ss) (t ∷ ts) [] h = refl
picks_same v w (s ∷ ss) (t ∷ ts) (x ∷ l) h =
    ap (λ (n : Label). record { label = n; position = x } ∷ picks ts l) h.0.asked.label
    ∙ ap (λ (ps : List Pick). record { label = s.asked.label; position = x } ∷ ps) (picks_same v w ss ts l h.1)

-- the device of a pick is one of the input's
pub record IsThere (v : SearchInput) (p : Pick) : Type 0 where
  pub device : Offered
  pub there : slice_get v.devices p.position ≡ Some device

there_by : (v : SearchInput) (ask : DeviceAsk) (p : Pick) (o : Option Offered) → slice_get v.devices p.position ≡ o → is_yes (match_by v ask o) ≡ true → IsThere v p
there_by v ask p None e h = absurd (cc)
there_by v ask p (Some o) e h = record { device = o; there = e }

picks_there : (v : SearchInput) (least : ℕ) (ss : List Slot) (l : List ℕ) → each_fills v least ss l ≡ true → Each (IsThere v) (picks ss l)
picks_there v least [] l e i p g = absurd (cc)
picks_there v least (s ∷ ss) [] e i p g = absurd (cc)
picks_there v least (s ∷ ss) (x ∷ l) e zero p g =
    let one : Pick = record { label = s.asked.label; position = x } in
    let same : one ≡ p = cc in
    let met = left_of (meets v s.asked.ask x) (tolerated_at v s.asked.ask x && seated s.seat least x) (left_of (fills v s least x) (each_fills v (x + 1) ss l) e) in
    subst (λ (q : Pick). IsThere v q) same (there_by v s.asked.ask one (slice_get v.devices x) refl met)
picks_there v least (s ∷ ss) (x ∷ l) e (suc i) p g = picks_there v (x + 1) ss l (right_of (fills v s least x) (each_fills v (x + 1) ss l) e) i p g

-- ---- one device more

all_imply : {X : Type 0} (f g : X → Bool) (xs : List X) → Each (λ x. f x ≡ true → g x ≡ true) xs → list_all f xs ≡ true → list_all g xs ≡ true
all_imply f g xs h e = all_from g xs (λ i x k. h i x k (all_at f xs e i x k))

free_by : (admin a b : Bool) → (a ≡ true → b ≡ true) → (admin || not b) ≡ true → (admin || not a) ≡ true
free_by true a b h e = refl
free_by false true true h e = e
free_by false true false h e = let f = h refl in absurd (cc)
free_by false false b h e = refl

held_goes_on : (v w : SearchInput) (p : Pick) → IsFuller v w → IsThere v p → is_held v p ≡ true → is_held w p ≡ true
held_goes_on v w p h t e =
    let was : are_held v.held (id_in t.device) ≡ true = sym (ap (λ (o : Option Offered). are_held v.held (id_by o)) t.there) ∙ e in
    ap (λ (ds : List Offered). are_held w.held (id_by (slice_get ds p.position))) h.devices
    ∙ ap (λ (o : Option Offered). are_held w.held (id_by o)) t.there
    ∙ h.held p.position t.device t.there was

-- what the counters on which a device draws have
pub record Drawn (v w : SearchInput) (k : CounterId) : Type 0 where
  pub value : w.value k ≡ v.value k
  pub more : v.drawn k ≤ w.drawn k

drawn_by : (v w : SearchInput) (p : Pick) (admin : Bool) (i : ℕ) (d : Draw) → IsFuller v w → IsThere v p → slice_get (cond admin [] (draws_by (slice_get v.devices p.position))) i ≡ Some d → Drawn v w d.counter
drawn_by v w p true i d h t e = absurd (cc)
drawn_by v w p false i d h t e =
    let f : slice_get (draws_of t.device) i ≡ Some d = sym (ap (λ (o : Option Offered). slice_get (draws_by o) i) t.there) ∙ e in
    record { value = h.values p.position t.device t.there i d f; more = h.drawn p.position t.device t.there i d f }

lower : (o : Option ℕ) (m n s a : ℕ) → m ≤ n → is_within o ((n + s) + a) ≡ true → is_within o ((m + s) + a) ≡ true
lower None m n s a h e = e
lower (Some value) m n s a h e = grind (arith, nat_tests, e, h)

total_same : (v w : SearchInput) (k : CounterId) (before : List Pick) → w.devices ≡ v.devices → total w k before ≡ w.drawn k + sum_by (λ q. amount k (draws v q)) before
unfolding total
total_same v w k before e = ap (λ (ds : List Offered). w.drawn k + sum_by (λ q. amount k (cond q.label.admin [] (draws_by (slice_get ds q.position)))) before) e

covers_as : (v w : SearchInput) (before : List Pick) (p : Pick) → w.devices ≡ v.devices
    → covers w before p ≡ list_all (λ d. is_within (w.value d.counter) ((w.drawn d.counter + sum_by (λ q. amount d.counter (draws v q)) before) + amount d.counter (draws v p))) (draws v p)
unfolding covers total
covers_as v w before p e =
    ap (λ (ds : List Offered).
    list_all (λ d. is_within (w.value d.counter) ((w.drawn d.counter + sum_by (λ q. amount d.counter (cond q.label.admin [] (draws_by (slice_get ds q.position)))) before) + amount d.counter (cond p.label.admin [] (draws_by (slice_get ds p.position)))))
    (cond p.label.admin [] (draws_by (slice_get ds p.position)))) e

covers_goes_on : (v w : SearchInput) (before : List Pick) (p : Pick) → IsFuller v w → IsThere v p → covers w before p ≡ true → covers v before p ≡ true
covers_goes_on v w before p h t e =
    covers_as v v before p refl
    ∙ all_imply
    (λ d. is_within (w.value d.counter) ((w.drawn d.counter + sum_by (λ q. amount d.counter (draws v q)) before) + amount d.counter (draws v p)))
    (λ d. is_within (v.value d.counter) ((v.drawn d.counter + sum_by (λ q. amount d.counter (draws v q)) before) + amount d.counter (draws v p)))
    (draws v p)
    (λ i d g f.
    let k = drawn_by v w p p.label.admin i d h t g in
    let s = sum_by (λ q. amount d.counter (draws v q)) before in
    let a = amount d.counter (draws v p) in
    lower (v.value d.counter) (v.drawn d.counter) (w.drawn d.counter) s a k.more
    (sym (ap (λ (o : Option ℕ). is_within o ((w.drawn d.counter + s) + a)) k.value) ∙ f))
    (sym (covers_as v w before p h.devices) ∙ e)

agree_same : (v w : SearchInput) (before : List Pick) (p : Pick) → IsFuller v w → list_all (λ r. agrees v r before p) (rules_of v) ≡ list_all (λ r. agrees w r before p) (rules_of w)
unfolding agrees
agree_same v w before p h =
    sym (ap (λ (rs : List Rule). list_all (λ r. agrees w r before p) rs) (rules_same v w h.specs)
    ∙ ap (λ (ds : List Offered).
    list_all (λ r. not (is_for r p.label) || (is_some (attribute_by (slice_get ds p.position) r.constraint.attribute)
    && list_all (λ q. not (is_for r q.label) || same_values (attribute_by (slice_get ds q.position) r.constraint.attribute) (attribute_by (slice_get ds p.position) r.constraint.attribute)) before)) (rules_of v)) h.devices)

apart_same : (v w : SearchInput) (before : List Pick) (p : Pick) → w.devices ≡ v.devices → list_all (λ q. apart v q p) before ≡ list_all (λ q. apart w q p) before
apart_same v w before p e =
    sym (ap (λ (ds : List Offered). list_all (λ q. not (excludes q p && device_eq (id_by (slice_get ds q.position)) (id_by (slice_get ds p.position)))) before) e)

joins : (v w : SearchInput) (before : List Pick) (p : Pick) → IsFuller v w → IsThere v p → may_join w before p ≡ true → may_join v before p ≡ true
joins v w before p h t e =
    joins_from v before p
    (apart_same v w before p h.devices ∙ apart_of w before p e)
    (free_by p.label.admin (is_held v p) (is_held w p) (held_goes_on v w p h t) (free_of w before p e))
    (covers_goes_on v w before p h t (covers_of w before p e))
    (agree_same v w before p h ∙ agrees_of w before p e)

-- ---- all of them

after_imply : {X : Type 0} (P : X → Type 0) (f g : List X → X → Bool) (before l : List X) → Each P l → ((b : List X) (x : X) → P x → f b x ≡ true → g b x ≡ true) → each_after f before l ≡ true → each_after g before l ≡ true
after_imply P f g before [] k h e = refl
after_imply P f g before (x ∷ l) k h e =
    both (g before x) (each_after g (before ++ x ∷ []) l)
    (h before x (k 0 x refl) (left_of (f before x) (each_after f (before ++ x ∷ []) l) e))
    (after_imply P f g (before ++ x ∷ []) l (λ i y m. k (suc i) y m) h (right_of (f before x) (each_after f (before ++ x ∷ []) l) e))

good_by : (v w : SearchInput) (ss ts : List Slot) (l : List ℕ) → IsFuller v w → Both (SameSlot v w) ss ts → is_good w ts l ≡ true → is_good v ss l ≡ true
unfolding is_good
good_by v w ss ts l h k e =
    let filled : each_fills v 0 ss l ≡ true = sym (filled_same v w 0 ss ts l h.devices k) ∙ left_of (each_fills w 0 ts l) (each_after (may_join w) [] (picks ts l)) e in
    let joined : each_after (may_join w) [] (picks ss l) ≡ true = ap (each_after (may_join w) []) (sym (picks_same v w ss ts l k)) ∙ right_of (each_fills w 0 ts l) (each_after (may_join w) [] (picks ts l)) e in
    both (each_fills v 0 ss l) (each_after (may_join v) [] (picks ss l)) filled
    (after_imply (IsThere v) (may_join w) (may_join v) [] (picks ss l) (picks_there v 0 ss l filled) (λ before p t f. joins v w before p h t f) joined)

pub narrower_by : (v w : SearchInput) → IsFuller v w → IsNarrower (problem_of v) (problem_of w)
narrower_by v w h = record {
  options = options_same v w h.specs;
  devices = ap length h.devices;
  shape = λ c. shape_same v w c h;
  good = λ c l e. good_by v w (open_slots v c) (open_slots w c) l h (open_same v w c h) e;
}
