-- Totals that are kept while devices are taken and left.
use Rattle.std.proofs.Common.{ℕ, zero, suc, ◌+◌, ◌-◌, ◌*◌, ◌<◌, ◌≤◌, ◌≡◌, ◌≢◌, ◌∙◌, List, [], ◌∷◌, ◌++◌, Bool, true, false, ◌&&◌, ◌||◌, cond, Option, None, Some, drop, drop_of_length-le, find, get_or, is_some, length, map, take, refl, sym, ap, subst, arith}
use Rattle.std.specs.List.{Contains, filter, flat_map, slice_get, sum_by}
use Rattle.std.specs.Borrow.{Bor}
use Rattle.std.specs.Option.{is_none, option_copied, option_map}
use Rattle.std.specs.Cmp.Lexicographic.{same_text}
use Rattle.std.proofs.lemmas.Bool.{and_from, and_parts}
use Rattle.std.proofs.lemmas.Cmp.{nat_list_eq_equiv}
use Rattle.std.proofs.lemmas.List.Elements.{Contains-append_left, Contains-append_right, filter-append}
use Rattle.std.proofs.lemmas.List.Sums.{sum_by-append, sum_by-cons}
use Rattle.object_fields.specs.declared.key.DeviceId.{DeviceId}
use Rattle.object_fields.specs.declared.key.Key.{Key}
use Rattle.api_slice.specs.Limits.{IsWithinLimits}
use Rattle.api_slice.specs.declared.types.Device.{Device}
use Rattle.api_slice.specs.declared.types.ResourceSlice.{ResourceSlice}
use Rattle.pool_view.specs.declared.inventory.Inventory.{Inventory}
use Rattle.pool_view.specs.Differing.{offers, usable_devices}
use Rattle.pool_view.specs.Names.{device_eq, text_eq}
use Rattle.pool_view.specs.OnePool.{is_in}
use Rattle.pool_view.specs.Pools.{Offered, id_in, id_of, offered_by, pool_of}
use Rattle.pool_view.specs.Inventory.{Named}
use Rattle.pool_view.specs.Usable.{counted_slices, if_usable, is_counted, pools, usable_slices}
use Rattle.request_rules.specs.Draws.{CounterId, drawn, drawn_by, drawn_from, held_devices, held_in, is_held, value_among}
use Rattle.counter_sets.specs.Holding.{AreHeld, Holders, holder_in, offered_held}
use Rattle.counter_sets.specs.Totals.{KeptCounters, drawn_in, keeps, sum_most, value_of}
use Rattle.pool_totals.specs.Adding.{AreUndrawn, HasRoom, IsAdding, device_most, devices_in, held_draws}
use Rattle.pool_totals.specs.Counting.{AllFit, AreCounted, AreWithinLimits, device_of, draws_among, found_in, found_or, is_of, is_taken}
use Rattle.pool_totals.specs.Drawn.{AreDrawn}
use Rattle.pool_totals.proofs.Adding.{none_left}
use Rattle.pool_totals.proofs.Counted.{AreThere, counted_usable, drawn_counted, fewer_counted, none_drawn, value_counted}
use Rattle.pool_totals.proofs.Draws.{device_sum, held_drawn, held_most, no_sum}
use Rattle.pool_totals.proofs.Places.{at_place, in_list, item_at}

-- ---- names

text_same : (a b : List ℕ) → text_eq a b ≡ true → a ≡ b
text_same a b e = same_text a b (sym e)

text_itself : (a : List ℕ) → text_eq a a ≡ true
text_itself a = nat_list_eq_equiv.refl a

equal_texts : (a b : List ℕ) → a ≡ b → text_eq a b ≡ true
equal_texts a b e = ap (text_eq a) (sym e) ∙ text_itself a

same_id : (d e p q n m : List ℕ) → d ≡ e → p ≡ q → n ≡ m → ◌≡◌ {A = DeviceId} (record { driver = d; pool = p; device = n }) (record { driver = e; pool = q; device = m })
same_id d e p q n m f g h = cc

device_same : (a b : DeviceId) → device_eq a b ≡ true → a ≡ b
device_same a b e =
    let outer = and_parts (text_eq a.driver b.driver) (text_eq a.pool b.pool && text_eq a.device b.device) e in
    let inner = and_parts (text_eq a.pool b.pool) (text_eq a.device b.device) outer.1 in
    same_id a.driver b.driver a.pool b.pool a.device b.device (text_same a.driver b.driver outer.0) (text_same a.pool b.pool inner.0) (text_same a.device b.device inner.1)

device_itself : (a : DeviceId) → device_eq a a ≡ true
device_itself a =
    and_from (text_eq a.driver a.driver) (text_eq a.pool a.pool && text_eq a.device a.device) (text_itself a.driver)
    (and_from (text_eq a.pool a.pool) (text_eq a.device a.device) (text_itself a.pool) (text_itself a.device))

-- ---- sums over some of a list

filter_by : {X : Type 0} (f : X → ℕ) (p : X → Bool) (x : X) (xs : List X) (b : Bool) → sum_by f (filter p xs) ≡ sum_by (λ y. cond (p y) (f y) 0) xs
    → sum_by f (cond b (x ∷ filter p xs) (filter p xs)) ≡ cond b (f x) 0 + sum_by (λ y. cond (p y) (f y) 0) xs
filter_by f p x xs true h = sum_by-cons f x (filter p xs) ∙ ap (λ (n : ℕ). f x + n) h
filter_by f p x xs false h = omega (arith, h)

sum_filter : {X : Type 0} (f : X → ℕ) (p : X → Bool) (xs : List X) → sum_by f (filter p xs) ≡ sum_by (λ x. cond (p x) (f x) 0) xs
sum_filter f p [] = refl
sum_filter f p (x ∷ xs) = filter_by f p x xs (p x) (sum_filter f p xs) ∙ sym (sum_by-cons (λ y. cond (p y) (f y) 0) x xs)

-- of one element alone
sum_one : {X : Type 0} (f : X → ℕ) (xs : List X) (i : ℕ) (x : X) → slice_get xs i ≡ Some x → ((j : ℕ) (y : X) → slice_get xs j ≡ Some y → i ≢ j → f y ≡ 0) → sum_by f xs ≡ f x
sum_one f [] i x e h = absurd (cc)
sum_one f (y ∷ ys) zero x e h =
    let same : y ≡ x = cc in
    let a : sum_by f (y ∷ ys) ≡ f y + sum_by f ys = sum_by-cons f y ys in
    let b : sum_by f ys ≡ 0 = no_sum f ys (λ j z g. h (suc j) z g (λ q. absurd (cc))) in
    let c : f y ≡ f x = ap f same in
    omega (arith, a, b, c)
sum_one f (y ∷ ys) (suc i) x e h =
    let a : sum_by f (y ∷ ys) ≡ f y + sum_by f ys = sum_by-cons f y ys in
    let b : f y ≡ 0 = h 0 y refl (λ q. absurd (cc)) in
    let c : sum_by f ys ≡ f x = sum_one f ys i x e (λ j z g n. h (suc j) z g (λ q. n (omega (arith, q)))) in
    omega (arith, a, b, c)

-- ---- devices of two kinds, and none of both

split_one : (f : Offered → ℕ) (b c : Bool) (o : Offered) (ps qs rs : List Offered) → (c ≡ true → b ≡ false) → sum_by f ps ≡ sum_by f qs + sum_by f rs
    → sum_by f (cond (b || c) (o ∷ ps) ps) ≡ sum_by f (cond b (o ∷ qs) qs) + sum_by f (cond c (o ∷ rs) rs)
split_one f true true o ps qs rs n h = absurd (let e : true ≡ false = n refl in cc)
split_one f true false o ps qs rs n h =
    let a : sum_by f (o ∷ ps) ≡ f o + sum_by f ps = sum_by-cons f o ps in
    let d : sum_by f (o ∷ qs) ≡ f o + sum_by f qs = sum_by-cons f o qs in
    omega (arith, a, d, h)
split_one f false true o ps qs rs n h =
    let a : sum_by f (o ∷ ps) ≡ f o + sum_by f ps = sum_by-cons f o ps in
    let d : sum_by f (o ∷ rs) ≡ f o + sum_by f rs = sum_by-cons f o rs in
    omega (arith, a, d, h)
split_one f false false o ps qs rs n h = h

split_list : (f : Offered → ℕ) (p q r : Offered → Bool) → ((o : Offered) → p o ≡ (q o || r o)) → ((o : Offered) → r o ≡ true → q o ≡ false) → (os : List Offered)
    → sum_by f (filter p os) ≡ sum_by f (filter q os) + sum_by f (filter r os)
split_list f p q r e n [] = refl
split_list f p q r e n (o ∷ os) =
    ap (λ (b : Bool). sum_by f (cond b (o ∷ filter p os) (filter p os))) (e o) ∙ split_one f (q o) (r o) o (filter p os) (filter q os) (filter r os) (n o) (split_list f p q r e n os)

split_draws : (p q r : Offered → Bool) → ((o : Offered) → p o ≡ (q o || r o)) → ((o : Offered) → r o ≡ true → q o ≡ false) → (xs : List ResourceSlice) (c : CounterId)
    → draws_among p xs c ≡ draws_among q xs c + draws_among r xs c
split_draws p q r e n [] c = refl
split_draws p q r e n (x ∷ xs) c =
    let a : draws_among p (x ∷ xs) c ≡ sum_by (drawn_from c) (filter p (offers x)) + draws_among p xs c = sum_by-cons (λ y. sum_by (drawn_from c) (filter p (offers y))) x xs in
    let b : draws_among q (x ∷ xs) c ≡ sum_by (drawn_from c) (filter q (offers x)) + draws_among q xs c = sum_by-cons (λ y. sum_by (drawn_from c) (filter q (offers y))) x xs in
    let d : draws_among r (x ∷ xs) c ≡ sum_by (drawn_from c) (filter r (offers x)) + draws_among r xs c = sum_by-cons (λ y. sum_by (drawn_from c) (filter r (offers y))) x xs in
    let k : sum_by (drawn_from c) (filter p (offers x)) ≡ sum_by (drawn_from c) (filter q (offers x)) + sum_by (drawn_from c) (filter r (offers x)) = split_list (drawn_from c) p q r e n (offers x) in
    let l : draws_among p xs c ≡ draws_among q xs c + draws_among r xs c = split_draws p q r e n xs c in
    omega (arith, a, b, d, k, l)

same_list : (p q : Offered → Bool) → ((o : Offered) → p o ≡ q o) → (os : List Offered) → filter p os ≡ filter q os
same_list p q e [] = refl
same_list p q e (o ∷ os) = ap (λ (b : Bool). cond b (o ∷ filter p os) (filter p os)) (e o) ∙ ap (λ (l : List Offered). cond (q o) (o ∷ l) l) (same_list p q e os)

same_draws : (p q : Offered → Bool) → ((o : Offered) → p o ≡ q o) → (xs : List ResourceSlice) (c : CounterId) → draws_among p xs c ≡ draws_among q xs c
same_draws p q e [] c = refl
same_draws p q e (x ∷ xs) c =
    sum_by-cons (λ y. sum_by (drawn_from c) (filter p (offers y))) x xs
    ∙ ap (λ (l : List Offered). sum_by (drawn_from c) l + draws_among p xs c) (same_list p q e (offers x))
    ∙ ap (λ (n : ℕ). sum_by (drawn_from c) (filter q (offers x)) + n) (same_draws p q e xs c)
    ∙ sym (sum_by-cons (λ y. sum_by (drawn_from c) (filter q (offers y))) x xs)

-- ---- held devices, by holders and by pairs

held_same : (h : Holders) (xs : List ResourceSlice) (c : CounterId) → held_draws h xs c ≡ draws_among (is_taken h) xs c
unfolding drawn_by offered_held
held_same h xs c = refl

pairs_draws : (pairs : List (DeviceId × Key)) (xs : List ResourceSlice) (c : CounterId) → draws_among (λ o. is_held pairs (id_in o)) xs c ≡ drawn xs pairs c
unfolding drawn drawn_by held_devices
pairs_draws pairs [] c = refl
pairs_draws pairs (x ∷ xs) c =
    sum_by-cons (λ y. sum_by (drawn_from c) (filter (λ o. is_held pairs (id_in o)) (offers y))) x xs
    ∙ ap (λ (n : ℕ). sum_by (drawn_from c) (held_in pairs x) + n) (pairs_draws pairs xs c)
    ∙ sym (sum_by-append (drawn_from c) (held_in pairs x) (flat_map (held_in pairs) xs))

pub are_drawn : (i : Inventory) (h : Holders) (pairs : List (DeviceId × Key)) (kept : KeptCounters) → AreHeld h pairs → AreCounted i h kept → AreDrawn i pairs kept
are_drawn i h pairs kept held counted = record {
  value_is = counted.value_is;
  drawn_is = λ c. counted.drawn_is c ∙ sym (held_same h (counted_slices i) c) ∙ held_drawn h pairs (counted_slices i) c held ∙ drawn_counted i pairs c;
}

pub pairs_fit : (i : Inventory) (h : Holders) (kept : KeptCounters) (pairs : List (DeviceId × Key)) (c : CounterId) → AreCounted i h kept → drawn (usable_slices i) pairs c ≤ sum_most
pairs_fit i h kept pairs c counted =
    subst (λ (n : ℕ). n ≤ sum_most) (pairs_draws pairs (counted_slices i) c ∙ drawn_counted i pairs c) (counted.fits (λ o. is_held pairs (id_in o)) c)

-- ---- each of a list

take_none : {X : Type 0} (xs : List X) → take 0 xs ≡ []
take_none [] = refl
take_none (x ∷ xs) = refl

take_suc : {X : Type 0} (xs : List X) (i : ℕ) (x : X) → i < length xs → x ≡ get_or xs i x → take (suc i) xs ≡ take i xs ++ x ∷ []
take_suc {X} [] i x h e = absurd (omega arith)
take_suc {X} (y ∷ xs) zero x h e = ap (λ (z : X). z ∷ []) (sym e)
take_suc {X} (y ∷ xs) (suc i) x h e = ap (λ (l : List X). y ∷ l) (take_suc xs i x (omega arith) e)

take_next : {X : Type 0} (xs : List X) (i : ℕ) (x : X) → i < length xs → x ≡ get_or xs i x → take (i + 1) xs ≡ take i xs ++ x ∷ []
take_next {X} xs i x h e =
    let n : i + 1 ≡ suc i = omega arith in
    ap (λ (k : ℕ). take k xs) n ∙ take_suc xs i x h e

take_all : {X : Type 0} (xs : List X) (i : ℕ) → length xs ≤ i → take i xs ≡ xs
take_all [] zero h = refl
take_all [] (suc i) h = refl
take_all (x ∷ xs) zero h = absurd (omega (arith, h))
take_all {X} (x ∷ xs) (suc i) h = ap (λ (l : List X). x ∷ l) (take_all xs i (omega (arith, h)))

abbrev pub Each : {X : Type 0} → (X → Type 0) → List X → Type 0
Each {X} P xs = (j : ℕ) (x : X) → slice_get xs j ≡ Some x → P x

each_end : {X : Type 0} (P : X → Type 0) (xs : List X) (x : X) → Each P xs → P x → Each P (xs ++ x ∷ [])
each_end P [] x each p zero y e = let same : x ≡ y = cc in subst P same p
each_end P [] x each p (suc j) y e = absurd (cc)
each_end P (z ∷ xs) x each p zero y e = each 0 y e
each_end P (z ∷ xs) x each p (suc j) y e = each_end P xs x (λ k w f. each (suc k) w f) p j y e

pub each_none : {X : Type 0} (P : X → Type 0) (xs : List X) → Each P (take 0 xs)
each_none {X} P xs = subst (λ (l : List X). Each P l) (sym (take_none xs)) (λ j x e. absurd (cc))

pub each_next : {X : Type 0} (P : X → Type 0) (xs : List X) (i : ℕ) (x y : X) → i < length xs → x ≡ get_or xs i x → y ≡ x → P y → Each P (take i xs) → Each P (take (i + 1) xs)
each_next {X} P xs i x y lt is same p each = subst (λ (l : List X). Each P l) (sym (take_next xs i x lt is)) (each_end P (take i xs) x each (subst P same p))

pub each_all : {X : Type 0} (P : X → Type 0) (xs : List X) (i : ℕ) → length xs ≤ i → Each P (take i xs) → Each P xs
each_all {X} P xs i h each = subst (λ (l : List X). Each P l) (take_all xs i h) each

-- ---- what any devices draw fits

-- how many devices an inventory has at most
abbrev pub all_most : ℕ
all_most = 65536

most_step : (a s l n : ℕ) → a ≤ l * device_most → s ≤ n * device_most → a + s ≤ (l + n) * device_most
most_step a s l n h k = omega (arith, h, k)

most_of : (p : Offered → Bool) (c : CounterId) (xs : List ResourceSlice) → ((j : ℕ) (x : ResourceSlice) → slice_get xs j ≡ Some x → IsWithinLimits x) → draws_among p xs c ≤ devices_in xs * device_most
most_of p c [] limits = omega arith
most_of p c (x ∷ xs) limits =
    let a : draws_among p (x ∷ xs) c ≡ sum_by (drawn_from c) (filter p (offers x)) + draws_among p xs c = sum_by-cons (λ y. sum_by (drawn_from c) (filter p (offers y))) x xs in
    let b : devices_in (x ∷ xs) ≡ length x.devices + devices_in xs = sum_by-cons (λ y. length y.devices) x xs in
    let here : sum_by (drawn_from c) (filter p (offers x)) ≤ length x.devices * device_most = held_most (drawn_from c) p x device_most x.devices (λ i d there. device_sum x c i d (limits 0 x refl) there) in
    let rest : draws_among p xs c ≤ devices_in xs * device_most = most_of p c xs (λ j y e. limits (suc j) y e) in
    subst (λ (n : ℕ). n ≤ devices_in (x ∷ xs) * device_most) (sym a)
    (subst (λ (n : ℕ). sum_by (drawn_from c) (filter p (offers x)) + draws_among p xs c ≤ n * device_most) (sym b)
    (most_step (sum_by (drawn_from c) (filter p (offers x))) (draws_among p xs c) (length x.devices) (devices_in xs) here rest))

fits_by : (n k : ℕ) → n ≤ k * device_most → k ≤ all_most → n ≤ sum_most
fits_by n k h l = omega (arith, h, l)

few_counted : (i : Inventory) → devices_in (usable_slices i) ≤ all_most → devices_in (counted_slices i) ≤ all_most
few_counted i few = let less = fewer_counted i in omega (arith, less, few)

pub all_fit : (i : Inventory) (xs : List ResourceSlice) → devices_in (usable_slices i) ≤ all_most → xs ≡ counted_slices i → AreWithinLimits xs → AllFit i
all_fit i xs few e limits chosen c =
    fits_by (draws_among chosen (counted_slices i) c) (devices_in (counted_slices i)) (subst (λ (l : List ResourceSlice). draws_among chosen l c ≤ devices_in l * device_most) e (most_of chosen c xs limits)) (few_counted i few)

-- ---- totals made anew

room_first : (m n k : ℕ) → m ≡ 0 → n ≡ k → k ≤ sum_most → m + n ≤ sum_most
room_first m n k e f h = omega (arith, e, f, h)

held_counted : (i : Inventory) (h : Holders) (xs : List ResourceSlice) (c : CounterId) → xs ≡ counted_slices i → held_draws h xs c ≡ draws_among (is_taken h) (counted_slices i) c
held_counted i h xs c e = held_same h xs c ∙ ap (λ (l : List ResourceSlice). draws_among (is_taken h) l c) e

-- there is room for what held devices draw
pub room_of : (i : Inventory) (h : Holders) (xs : List ResourceSlice) (kept : KeptCounters) → AreThere i → xs ≡ counted_slices i → AllFit i → AreUndrawn xs kept → HasRoom h xs kept
room_of i h xs kept are e fit fresh = record {
  all_kept = λ c none. none_left i h xs kept c are e fresh none;
  fits = λ c. room_first (drawn_in kept c) (held_draws h xs c) (draws_among (is_taken h) (counted_slices i) c) (fresh.none c) (held_counted i h xs c e) (fit (is_taken h) c);
}

drawn_once : (m k n t : ℕ) → m + 0 ≡ k + n → k ≡ 0 → n ≡ t → m ≡ t
drawn_once m k n t e f g = omega (arith, e, f, g)

pub are_counted : (i : Inventory) (h : Holders) (xs : List ResourceSlice) (kept new : KeptCounters) → xs ≡ counted_slices i → AllFit i → AreUndrawn xs kept → IsAdding h xs [] kept new → AreCounted i h new
are_counted i h xs kept new e fit fresh adding = record {
  value_is = λ c. adding.same c ∙ fresh.value_is c ∙ ap (λ (l : List ResourceSlice). value_among l c) e ∙ value_counted i c;
  drawn_is = λ c. drawn_once (drawn_in new c) (drawn_in kept c) (held_draws h xs c) (draws_among (is_taken h) (counted_slices i) c) (adding.drawn c) (fresh.none c) (held_counted i h xs c e);
  fits = fit;
}

-- ---- no slices

no_usable : (i : Inventory) → i.slices ≡ [] → usable_slices i ≡ []
unfolding usable_slices
no_usable i e = ap (λ (s : Named ResourceSlice). flat_map (λ p. if_usable (pool_of s p.driver p.pool)) (pools s)) e

no_counted : (i : Inventory) → i.slices ≡ [] → counted_slices i ≡ []
unfolding counted_slices
no_counted i e = ap (filter is_counted) (no_usable i e)

none_fits : (chosen : Offered → Bool) (c : CounterId) → draws_among chosen [] c ≤ sum_most
none_fits chosen c = omega arith

pub none_counted : (i : Inventory) (kept : KeptCounters) → i.slices ≡ [] → ((c : CounterId) → value_of kept c ≡ None) → ((c : CounterId) → drawn_in kept c ≡ 0) → (h : Holders) → AreCounted i h kept
none_counted i kept e none undrawn h = record {
  value_is = λ c. none c ∙ sym (ap (λ (xs : List ResourceSlice). value_among xs c) (no_usable i e));
  drawn_is = λ c. undrawn c ∙ sym (ap (λ (xs : List ResourceSlice). draws_among (is_taken h) xs c) (no_counted i e));
  fits = λ chosen c. subst (λ (xs : List ResourceSlice). draws_among chosen xs c ≤ sum_most) (sym (no_counted i e)) (none_fits chosen c);
}

-- ---- the device of an id

-- the id's device
abbrev at_id : DeviceId → Key → Offered → Bool
at_id id k o = is_held ((id, k) ∷ []) (id_in o)

record Finds {X : Type 0} (p : X → Bool) (xs : List X) (x : X) : Type 0 where
  place : ℕ
  at : slice_get xs place ≡ Some x
  is : p x ≡ true

finds_if : {X : Type 0} (p : X → Bool) (y : X) (ys : List X) (x : X) (b : Bool) → p y ≡ b → cond b (Some y) (find p ys) ≡ Some x → (find p ys ≡ Some x → Finds p ys x) → Finds p (y ∷ ys) x
finds_if p y ys x true is e rest = let same : y ≡ x = cc in record { place = 0; at = e; is = ap p (sym same) ∙ is }
finds_if p y ys x false is e rest = let later = rest e in record { place = suc later.place; at = later.at; is = later.is }

finds : {X : Type 0} (p : X → Bool) (xs : List X) (x : X) → find p xs ≡ Some x → Finds p xs x
finds p [] x e = absurd (cc)
finds p (y ∷ ys) x e = finds_if p y ys x (p y) refl e (finds p ys x)

-- the device is one of the slices', with the id
record IsFound (id : DeviceId) (xs : List ResourceSlice) (o : Offered) : Type 0 where
  place : ℕ
  at : slice_get xs place ≡ Some o.slice
  index : ℕ
  there : slice_get o.slice.devices index ≡ Some o.device
  is : device_eq (id_in o) id ≡ true

is_id : (id : DeviceId) (x : ResourceSlice) (d : Device) → is_of id x ≡ true → text_eq d.name id.device ≡ true → device_eq (id_of x d) id ≡ true
is_id id x d of name =
    let parts = and_parts (text_eq x.pool.name id.pool) (text_eq x.driver id.driver) of in
    and_from (text_eq x.driver id.driver) (text_eq x.pool.name id.pool && text_eq d.name id.device) parts.1 (and_from (text_eq x.pool.name id.pool) (text_eq d.name id.device) parts.0 name)

found_of : (id : DeviceId) (x : ResourceSlice) (xs : List ResourceSlice) (d : Device) (b : Bool) → is_of id x ≡ b → cond b (find (λ e. text_eq e.name id.device) x.devices) None ≡ Some d → IsFound id (x ∷ xs) (offered_by x d)
found_of id x xs d true is e =
    let f = finds (λ y. text_eq y.name id.device) x.devices d e in
    record { place = 0; at = refl; index = f.place; there = f.at; is = is_id id x d is f.is }
found_of id x xs d false is e = absurd (cc)

found_by : (id : DeviceId) (x : ResourceSlice) (xs : List ResourceSlice) (o : Offered) (found : Option Device) → device_of id x ≡ found → found_or (option_map (offered_by x) found) (found_in id xs) ≡ Some o → (found_in id xs ≡ Some o → IsFound id xs o)
    → IsFound id (x ∷ xs) o
found_by id x xs o None is e rest = let later = rest e in record { place = suc later.place; at = later.at; index = later.index; there = later.there; is = later.is }
found_by id x xs o (Some d) is e rest = let same : offered_by x d ≡ o = cc in subst (IsFound id (x ∷ xs)) same (found_of id x xs d (is_of id x) refl is)

found_at : (id : DeviceId) (xs : List ResourceSlice) (o : Offered) → found_in id xs ≡ Some o → IsFound id xs o
found_at id [] o e = absurd (cc)
found_at id (x ∷ xs) o e = found_by id x xs o (device_of id x) refl e (found_at id xs o)

pub found_none : (id : DeviceId) (xs : List ResourceSlice) (i : ℕ) (x y : ResourceSlice) → i < length xs → x ≡ get_or xs i x → y ≡ x → device_of id y ≡ None → found_in id (drop i xs) ≡ found_in id xs → found_in id (drop (i + 1) xs) ≡ found_in id xs
found_none id xs i x y lt is same none before =
    sym
    (ap (found_in id) (item_at xs i x lt is)
    ∙ ap (λ (o : Option Device). found_or (option_map (offered_by x) o) (found_in id (drop (i + 1) xs))) (ap (device_of id) (sym same) ∙ none))
    ∙ before

pub found_some : (id : DeviceId) (xs : List ResourceSlice) (i : ℕ) (x y : ResourceSlice) (d : Device) → i < length xs → x ≡ get_or xs i x → y ≡ x → device_of id y ≡ Some d → found_in id (drop i xs) ≡ found_in id xs → Some (offered_by y d) ≡ found_in id xs
found_some id xs i x y d lt is same some before =
    ap (λ (z : ResourceSlice). Some (offered_by z d)) same
    ∙ sym
    (ap (found_in id) (item_at xs i x lt is)
    ∙ ap (λ (o : Option Device). found_or (option_map (offered_by x) o) (found_in id (drop (i + 1) xs))) (ap (device_of id) (sym same) ∙ some))
    ∙ before

pub found_end : (id : DeviceId) (xs : List ResourceSlice) (i : ℕ) → length xs ≤ i → found_in id (drop i xs) ≡ found_in id xs → None ≡ found_in id xs
found_end id xs i h before = ap (found_in id) (sym (drop_of_length-le xs h)) ∙ before

-- ---- an id that no device has

not_by : (a : Bool) → (a ≡ true → ⊥) → (a || false) ≡ false
not_by true h = absurd (h refl)
not_by false h = refl

named_not : (id : DeviceId) (k : Key) (x : ResourceSlice) (d : Device) → (is_of id x ≡ true → text_eq d.name id.device ≡ true → ⊥) → at_id id k (offered_by x d) ≡ false
named_not id k x d h =
    not_by (device_eq id (id_of x d))
    (λ e.
    let same : id ≡ id_of x d = device_same id (id_of x d) e in
    h (and_from (text_eq x.pool.name id.pool) (text_eq x.driver id.driver) (equal_texts x.pool.name id.pool (sym (ap (λ (q : DeviceId). q.pool) same))) (equal_texts x.driver id.driver (sym (ap (λ (q : DeviceId). q.driver) same))))
    (equal_texts d.name id.device (sym (ap (λ (q : DeviceId). q.device) same))))

none_chosen : (f : Offered → ℕ) (p : Offered → Bool) (x : ResourceSlice) (ds : List Device) → ((j : ℕ) (d : Device) → slice_get ds j ≡ Some d → p (offered_by x d) ≡ false) → sum_by f (filter p (map (offered_by x) ds)) ≡ 0
none_chosen f p x [] h = refl
none_chosen f p x (d ∷ ds) h =
    ap (λ (b : Bool). sum_by f (cond b (offered_by x d ∷ filter p (map (offered_by x) ds)) (filter p (map (offered_by x) ds)))) (h 0 d refl) ∙ none_chosen f p x ds (λ j e g. h (suc j) e g)

absent_if : (id : DeviceId) (d e : Device) (ds : List Device) (j : ℕ) (b : Bool) → text_eq d.name id.device ≡ b → cond b (Some d) (find (λ y. text_eq y.name id.device) ds) ≡ None
    → slice_get (d ∷ ds) j ≡ Some e → ((n : ℕ) → find (λ y. text_eq y.name id.device) ds ≡ None → slice_get ds n ≡ Some e → text_eq e.name id.device ≡ false) → text_eq e.name id.device ≡ false
absent_if id d e ds j true is none at rest = absurd (cc)
absent_if id d e ds zero false is none at rest = let same : d ≡ e = cc in ap (λ (y : Device). text_eq y.name id.device) (sym same) ∙ is
absent_if id d e ds (suc j) false is none at rest = rest j none at

absent : (id : DeviceId) (ds : List Device) (j : ℕ) (e : Device) → find (λ y. text_eq y.name id.device) ds ≡ None → slice_get ds j ≡ Some e → text_eq e.name id.device ≡ false
absent id [] j e none at = absurd (cc)
absent id (d ∷ ds) j e none at = absent_if id d e ds j (text_eq d.name id.device) refl none at (λ n f g. absent id ds n e f g)

none_of : (id : DeviceId) (k : Key) (x : ResourceSlice) (c : CounterId) (b : Bool) → is_of id x ≡ b → cond b (find (λ y. text_eq y.name id.device) x.devices) None ≡ None → sum_by (drawn_from c) (filter (at_id id k) (offers x)) ≡ 0
none_of id k x c true is none =
    none_chosen (drawn_from c) (at_id id k) x x.devices (λ j d at. named_not id k x d (λ of name. let no : text_eq d.name id.device ≡ false = absent id x.devices j d none at in cc))
none_of id k x c false is none = none_chosen (drawn_from c) (at_id id k) x x.devices (λ j d at. named_not id k x d (λ of name. cc))

none_by : (id : DeviceId) (k : Key) (x : ResourceSlice) (xs : List ResourceSlice) (c : CounterId) (found : Option Device) → device_of id x ≡ found → found_or (option_map (offered_by x) found) (found_in id xs) ≡ None
    → (found_in id xs ≡ None → draws_among (at_id id k) xs c ≡ 0) → draws_among (at_id id k) (x ∷ xs) c ≡ 0
none_by id k x xs c (Some d) is e rest = absurd (cc)
none_by id k x xs c None is e rest =
    let a : draws_among (at_id id k) (x ∷ xs) c ≡ sum_by (drawn_from c) (filter (at_id id k) (offers x)) + draws_among (at_id id k) xs c = sum_by-cons (λ y. sum_by (drawn_from c) (filter (at_id id k) (offers y))) x xs in
    let b : sum_by (drawn_from c) (filter (at_id id k) (offers x)) ≡ 0 = none_of id k x c (is_of id x) refl is in
    let d : draws_among (at_id id k) xs c ≡ 0 = rest e in
    omega (arith, a, b, d)

none_found : (id : DeviceId) (k : Key) (xs : List ResourceSlice) (c : CounterId) → found_in id xs ≡ None → draws_among (at_id id k) xs c ≡ 0
none_found id k [] c e = refl
none_found id k (x ∷ xs) c e = none_by id k x xs c (device_of id x) refl e (none_found id k xs c)

-- ---- an id that one device has

-- no two of the devices have one id
abbrev pub IdsDiffer : Inventory → Type 0
IdsDiffer i = (n m : ℕ) (o p : Offered) → slice_get (usable_devices i) n ≡ Some o → slice_get (usable_devices i) m ≡ Some p → id_in o ≡ id_in p → n ≡ m

mapped_at : {X Y : Type 0} (f : X → Y) (xs : List X) (j : ℕ) (x : X) → slice_get xs j ≡ Some x → slice_get (map f xs) j ≡ Some (f x)
mapped_at f [] j x e = absurd (cc)
mapped_at f (y ∷ ys) zero x e = let same : y ≡ x = cc in ap (λ z. Some (f z)) same
mapped_at f (y ∷ ys) (suc j) x e = mapped_at f ys j x e

in_flat : {X Y : Type 0} (f : X → List Y) (xs : List X) (j : ℕ) (x : X) (y : Y) → slice_get xs j ≡ Some x → Contains (f x) y → Contains (flat_map f xs) y
in_flat f [] j x y e h = absurd (cc)
in_flat f (z ∷ xs) zero x y e h = let same : z ≡ x = cc in Contains-append_left (f z) (flat_map f xs) y (subst (λ q. Contains (f q) y) (sym same) h)
in_flat f (z ∷ xs) (suc j) x y e h = Contains-append_right (f z) (flat_map f xs) y (in_flat f xs j x y e h)

listed : (i : Inventory) (id : DeviceId) (o : Offered) → IsFound id (counted_slices i) o → Contains (usable_devices i) o
unfolding usable_devices
listed i id o f =
    let x = counted_usable i f.place o.slice f.at in
    in_flat offers (usable_slices i) x.0 o.slice o (at_place (usable_slices i) o.slice x) (in_list (offers o.slice) f.index o (mapped_at (offered_by o.slice) o.slice.devices f.index o.device f.there))

held_all : (slices : List ResourceSlice) (pairs : List (DeviceId × Key)) → flat_map (held_in pairs) slices ≡ filter (λ o. is_held pairs (id_in o)) (flat_map offers slices)
held_all [] pairs = refl
held_all (x ∷ xs) pairs = ap (λ (l : List Offered). held_in pairs x ++ l) (held_all xs pairs) ∙ sym (filter-append (λ o. is_held pairs (id_in o)) (offers x) (flat_map offers xs))

-- what a device draws, if it is held
abbrev drawn_held : List (DeviceId × Key) → CounterId → Offered → ℕ
drawn_held pairs c o = cond (is_held pairs (id_in o)) (drawn_from c o) 0

drawn_is : (i : Inventory) (pairs : List (DeviceId × Key)) (c : CounterId) → drawn (usable_slices i) pairs c ≡ sum_by (drawn_held pairs c) (usable_devices i)
unfolding drawn drawn_by held_devices usable_devices
drawn_is i pairs c = ap (λ (l : List Offered). sum_by (drawn_from c) l) (held_all (usable_slices i) pairs) ∙ sum_filter (drawn_from c) (λ o. is_held pairs (id_in o)) (flat_map offers (usable_slices i))

other_by : (c : CounterId) (p : Offered) (b : Bool) → (b ≡ true → ⊥) → cond (b || false) (drawn_from c p) 0 ≡ 0
other_by c p true n = absurd (n refl)
other_by c p false n = refl

one_found : (i : Inventory) (id : DeviceId) (k : Key) (o : Offered) (c : CounterId) → IdsDiffer i → found_in id (counted_slices i) ≡ Some o → draws_among (at_id id k) (counted_slices i) c ≡ drawn_from c o
one_found i id k o c ids e =
    let f = found_at id (counted_slices i) o e in
    let h = listed i id o f in
    let same : id_in o ≡ id = device_same (id_in o) id f.is in
    let at : slice_get (usable_devices i) h.0 ≡ Some o = at_place (usable_devices i) o h in
    pairs_draws ((id, k) ∷ []) (counted_slices i) c ∙ drawn_counted i ((id, k) ∷ []) c ∙ drawn_is i ((id, k) ∷ []) c
    ∙ sum_one (drawn_held ((id, k) ∷ []) c) (usable_devices i) h.0 o at (λ j p g n. other_by c p (device_eq id (id_in p)) (λ is. n (ids h.0 j o p at g (same ∙ device_same id (id_in p) is))))
    ∙ ap (λ (b : Bool). cond (b || false) (drawn_from c o) 0) (ap (device_eq id) same ∙ device_itself id)

-- ---- a device more

-- a claim has the device, and all else is as it was
abbrev IsGiven : Holders → Holders → DeviceId → Key → Type 0
IsGiven h g id k = (q : DeviceId) → holder_in g q ≡ cond (device_eq id q) (Some k) (holder_in h q)

more_by : (b : Bool) (k : Key) (w : Option Key) → is_some (cond b (Some k) w) ≡ (is_some w || (b || false))
more_by true k None = refl
more_by true k (Some j) = refl
more_by false k None = refl
more_by false k (Some j) = refl

or_nothing : (b : Bool) → (b || false) ≡ b
or_nothing true = refl
or_nothing false = refl

free_at : (h : Holders) (id : DeviceId) (k : Key) (o : Offered) → holder_in h id ≡ None → at_id id k o ≡ true → is_taken h o ≡ false
free_at h id k o none e = ap (λ (q : DeviceId). is_some (holder_in h q)) (sym (device_same id (id_in o) (sym (or_nothing (device_eq id (id_in o))) ∙ e))) ∙ ap is_some none

given_sum : (xs : List ResourceSlice) (h g : Holders) (id : DeviceId) (k : Key) (c : CounterId) → holder_in h id ≡ None → IsGiven h g id k → draws_among (is_taken g) xs c ≡ draws_among (is_taken h) xs c + draws_among (at_id id k) xs c
given_sum xs h g id k c none given =
    split_draws (is_taken g) (is_taken h) (at_id id k) (λ o. ap is_some (given (id_in o)) ∙ more_by (device_eq id (id_in o)) k (holder_in h (id_in o))) (λ o e. free_at h id k o none e) xs c

pub given_kept : (i : Inventory) (kept : KeptCounters) (id : DeviceId) (o : Offered) (c : CounterId) → AreThere i → ((c : CounterId) → value_of kept c ≡ value_among (usable_slices i) c) → found_in id (counted_slices i) ≡ Some o
    → keeps kept c ≡ false → drawn_from c o ≡ 0
given_kept i kept id o c are value e none =
    let f = found_at id (counted_slices i) o e in
    none_drawn i o.slice o.device c are (counted_usable i f.place o.slice f.at) (in_list o.slice.devices f.index o.device f.there) (ap is_some (sym (value c)) ∙ none)

sum_fits : (a d t n : ℕ) → n ≡ a + d → t ≡ a → n ≤ sum_most → t + d ≤ sum_most
sum_fits a d t n e f h = omega (arith, e, f, h)

pub given_fits : (i : Inventory) (h g : Holders) (kept : KeptCounters) (id : DeviceId) (k : Key) (o : Offered) (c : CounterId) → IdsDiffer i → AreCounted i h kept → holder_in h id ≡ None → IsGiven h g id k → found_in id (counted_slices i) ≡ Some o
    → drawn_in kept c + drawn_from c o ≤ sum_most
given_fits i h g kept id k o c ids counted none given e =
    sum_fits (draws_among (is_taken h) (counted_slices i) c) (drawn_from c o) (drawn_in kept c) (draws_among (is_taken g) (counted_slices i) c)
    (given_sum (counted_slices i) h g id k c none given ∙ ap (λ (n : ℕ). draws_among (is_taken h) (counted_slices i) c + n) (one_found i id k o c ids e)) (counted.drawn_is c) (counted.fits (is_taken g) c)

pub given_found : (i : Inventory) (h g : Holders) (kept new : KeptCounters) (id : DeviceId) (k : Key) (o : Offered) → IdsDiffer i → AreCounted i h kept → holder_in h id ≡ None → IsGiven h g id k → found_in id (counted_slices i) ≡ Some o
    → ((c : CounterId) → value_of new c ≡ value_of kept c) → ((c : CounterId) → drawn_in new c ≡ drawn_in kept c + drawn_from c o) → AreCounted i g new
given_found i h g kept new id k o ids counted none given e value more = record {
  value_is = λ c. value c ∙ counted.value_is c;
  drawn_is = λ c.
      more c ∙ ap (λ (n : ℕ). n + drawn_from c o) (counted.drawn_is c)
      ∙ sym (given_sum (counted_slices i) h g id k c none given ∙ ap (λ (n : ℕ). draws_among (is_taken h) (counted_slices i) c + n) (one_found i id k o c ids e));
  fits = counted.fits;
}

no_more : (a d n : ℕ) → n ≡ a + d → d ≡ 0 → a ≡ n
no_more a d n e f = omega (arith, e, f)

pub given_none : (i : Inventory) (h g : Holders) (kept : KeptCounters) (id : DeviceId) (k : Key) → AreCounted i h kept → holder_in h id ≡ None → IsGiven h g id k → found_in id (counted_slices i) ≡ None → AreCounted i g kept
given_none i h g kept id k counted none given e = record {
  value_is = counted.value_is;
  drawn_is = λ c.
      counted.drawn_is c
      ∙ no_more (draws_among (is_taken h) (counted_slices i) c) (draws_among (at_id id k) (counted_slices i) c) (draws_among (is_taken g) (counted_slices i) c) (given_sum (counted_slices i) h g id k c none given) (none_found id k (counted_slices i) c e);
  fits = counted.fits;
}

-- the same devices are held
pub same_counted : (i : Inventory) (h g : Holders) (kept : KeptCounters) → ((o : Offered) → is_taken h o ≡ is_taken g o) → AreCounted i h kept → AreCounted i g kept
same_counted i h g kept e counted = record {
  value_is = counted.value_is;
  drawn_is = λ c. counted.drawn_is c ∙ same_draws (is_taken h) (is_taken g) e (counted_slices i) c;
  fits = counted.fits;
}

pub holders_counted : (i : Inventory) (h g : Holders) (kept : KeptCounters) → ((q : DeviceId) → holder_in g q ≡ holder_in h q) → AreCounted i h kept → AreCounted i g kept
holders_counted i h g kept e counted = same_counted i h g kept (λ o. ap is_some (sym (e (id_in o)))) counted

taken_by : (b : Bool) (k : Key) (w : Option Key) → (b ≡ true → is_some w ≡ true) → is_some w ≡ is_some (cond b (Some k) w)
taken_by true k w h = h refl
taken_by false k w h = refl

-- another claim has the device
pub given_again : (i : Inventory) (h g : Holders) (kept : KeptCounters) (id : DeviceId) (k : Key) → AreCounted i h kept → is_some (holder_in h id) ≡ true → IsGiven h g id k → AreCounted i g kept
given_again i h g kept id k counted some given =
    same_counted i h g kept
    (λ o. taken_by (device_eq id (id_in o)) k (holder_in h (id_in o)) (λ e. ap (λ (q : DeviceId). is_some (holder_in h q)) (sym (device_same id (id_in o) e)) ∙ some) ∙ ap is_some (sym (given (id_in o)))) counted

-- ---- a device less

abbrev IsLeft : Holders → Holders → DeviceId → Type 0
IsLeft h g id = (q : DeviceId) → holder_in g q ≡ cond (device_eq id q) None (holder_in h q)

less_by : (b : Bool) (w : Option Key) → (b ≡ true → is_some w ≡ true) → is_some w ≡ (is_some (cond b None w) || (b || false))
less_by true w h = h refl
less_by false None h = refl
less_by false (Some j) h = refl

gone_by : (b : Bool) (w : Option Key) → (b || false) ≡ true → is_some (cond b None w) ≡ false
gone_by true w e = refl
gone_by false w e = absurd (cc)

-- any claim
abbrev some_claim : Key
some_claim = record { namespace = []; name = [] }

left_sum : (xs : List ResourceSlice) (h g : Holders) (id : DeviceId) (c : CounterId) → is_some (holder_in h id) ≡ true → IsLeft h g id → draws_among (is_taken h) xs c ≡ draws_among (is_taken g) xs c + draws_among (at_id id some_claim) xs c
left_sum xs h g id c some left =
    split_draws (is_taken h) (is_taken g) (at_id id some_claim)
    (λ o.
    less_by (device_eq id (id_in o)) (holder_in h (id_in o)) (λ e. ap (λ (q : DeviceId). is_some (holder_in h q)) (sym (device_same id (id_in o) e)) ∙ some)
    ∙ ap (λ (w : Option Key). is_some w || (device_eq id (id_in o) || false)) (sym (left (id_in o))))
    (λ o e. ap is_some (left (id_in o)) ∙ gone_by (device_eq id (id_in o)) (holder_in h (id_in o)) e) xs c

less_drawn : (m t a b d : ℕ) → m ≡ t - d → t ≡ a → a ≡ b + d → m ≡ b
less_drawn m t a b d e f g = omega (arith, e, f, g)

pub left_found : (i : Inventory) (h g : Holders) (kept new : KeptCounters) (id : DeviceId) (o : Offered) → IdsDiffer i → AreCounted i h kept → is_some (holder_in h id) ≡ true → IsLeft h g id → found_in id (counted_slices i) ≡ Some o
    → ((c : CounterId) → value_of new c ≡ value_of kept c) → ((c : CounterId) → drawn_in new c ≡ drawn_in kept c - drawn_from c o) → AreCounted i g new
left_found i h g kept new id o ids counted some left e value less = record {
  value_is = λ c. value c ∙ counted.value_is c;
  drawn_is = λ c.
      less_drawn (drawn_in new c) (drawn_in kept c) (draws_among (is_taken h) (counted_slices i) c) (draws_among (is_taken g) (counted_slices i) c) (drawn_from c o) (less c) (counted.drawn_is c)
      (left_sum (counted_slices i) h g id c some left ∙ ap (λ (n : ℕ). draws_among (is_taken g) (counted_slices i) c + n) (one_found i id some_claim o c ids e));
  fits = counted.fits;
}

pub left_none : (i : Inventory) (h g : Holders) (kept : KeptCounters) (id : DeviceId) → AreCounted i h kept → is_some (holder_in h id) ≡ true → IsLeft h g id → found_in id (counted_slices i) ≡ None → AreCounted i g kept
left_none i h g kept id counted some left e = record {
  value_is = counted.value_is;
  drawn_is = λ c.
      counted.drawn_is c
      ∙ sym (no_more (draws_among (is_taken g) (counted_slices i) c) (draws_among (at_id id some_claim) (counted_slices i) c) (draws_among (is_taken h) (counted_slices i) c) (left_sum (counted_slices i) h g id c some left) (none_found id some_claim (counted_slices i) c e));
  fits = counted.fits;
}

none_by_left : (b : Bool) (w : Option Key) → (b ≡ true → is_some w ≡ false) → is_some w ≡ is_some (cond b None w)
none_by_left true w h = h refl
none_by_left false w h = refl

-- none held it
pub left_free : (i : Inventory) (h g : Holders) (kept : KeptCounters) (id : DeviceId) → AreCounted i h kept → is_some (holder_in h id) ≡ false → IsLeft h g id → AreCounted i g kept
left_free i h g kept id counted none left =
    same_counted i h g kept
    (λ o. none_by_left (device_eq id (id_in o)) (holder_in h (id_in o)) (λ e. ap (λ (q : DeviceId). is_some (holder_in h q)) (sym (device_same id (id_in o) e)) ∙ none) ∙ ap is_some (sym (left (id_in o)))) counted

-- ---- as the code has them

pub none_from : {A : Type 0} (r : Option (Bor A)) (w : Option A) → option_copied r ≡ w → is_none r ≡ true → w ≡ None
none_from None w e t = sym e
none_from (Some x) w e t = absurd (cc)

pub some_from : {A : Type 0} (r : Option (Bor A)) (w : Option A) → option_copied r ≡ w → is_some r ≡ true → is_some w ≡ true
some_from None w e t = absurd (cc)
some_from (Some x) w e t = ap is_some (sym e)

swapped : (a b : Bool) → (a && b) ≡ false → (b && a) ≡ false
swapped true true e = absurd (cc)
swapped true false e = refl
swapped false true e = refl
swapped false false e = refl

-- the slices of other pools don't have the device
apart_by : (b : Bool) (id : DeviceId) (x : ResourceSlice) (xs : List ResourceSlice) → is_in id.driver id.pool x ≡ b → found_in id (cond b (x ∷ xs) xs) ≡ found_or (option_map (offered_by x) (device_of id x)) (found_in id xs)
apart_by true id x xs e = refl
apart_by false id x xs e =
    let other : is_of id x ≡ false = swapped (text_eq x.driver id.driver) (text_eq x.pool.name id.pool) e in
    ap (λ (b : Bool). found_or (option_map (offered_by x) (cond b (find (λ d. text_eq d.name id.device) x.devices) None)) (found_in id xs)) (sym other)

found_apart : (id : DeviceId) (xs : List ResourceSlice) → found_in id (filter (is_in id.driver id.pool) xs) ≡ found_in id xs
found_apart id [] = refl
found_apart id (x ∷ xs) =
    apart_by (is_in id.driver id.pool x) id x (filter (is_in id.driver id.pool) xs) refl ∙ ap (found_or (option_map (offered_by x) (device_of id x))) (found_apart id xs)

pub found_as : (i : Inventory) (id : DeviceId) (xs : List ResourceSlice) (r o : Option Offered) → xs ≡ filter (is_in id.driver id.pool) (counted_slices i) → r ≡ found_in id xs → r ≡ o → found_in id (counted_slices i) ≡ o
found_as i id xs r o e f g = sym (found_apart id (counted_slices i)) ∙ ap (found_in id) (sym e) ∙ sym f ∙ g
