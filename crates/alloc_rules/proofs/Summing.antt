-- What the devices of results draw, with those that claims hold.
use Rattle.std.proofs.Common.{ℕ, zero, suc, ◌+◌, ◌≡◌, ◌≢◌, ◌∙◌, List, [], ◌∷◌, ◌++◌, Bool, true, false, ◌&&◌, ◌||◌, cond, Option, None, Some, refl, sym, ap, arith, append_assoc, append-nil}
use Rattle.std.specs.List.{filter, flat_map, slice_get, sum_by}
use Rattle.std.specs.Cmp.Lexicographic.{same_text}
use Rattle.std.proofs.lemmas.Bool.{and_parts}
use Rattle.std.proofs.lemmas.Cmp.{nat_list_eq_equiv}
use Rattle.std.proofs.lemmas.List.Elements.{filter-append}
use Rattle.std.proofs.lemmas.List.Folds.{list_any-append}
use Rattle.std.proofs.lemmas.List.Sums.{sum_by-cons}
use Rattle.object_fields.specs.declared.key.DeviceId.{DeviceId}
use Rattle.object_fields.specs.declared.key.Key.{Key}
use Rattle.api_slice.specs.declared.types.ResourceSlice.{ResourceSlice}
use Rattle.pool_view.specs.Differing.{offers, usable_devices}
use Rattle.pool_view.specs.Names.{device_eq, text_eq}
use Rattle.pool_view.specs.Pools.{Offered, id_in}
use Rattle.pool_view.specs.Usable.{usable_slices}
use Rattle.pool_view.specs.declared.inventory.Inventory.{Inventory}
use Rattle.request_rules.specs.Draws.{CounterId, drawn, drawn_by, drawn_from, held_devices, held_in, is_held}
use Rattle.request_rules.specs.Lists.{or_else}
use Rattle.plan_rules.specs.Chosen.{Due}
use Rattle.alloc_rules.specs.Rows.{pair_of, pairs_of}
use Rattle.plan_rules.specs.Standing.{held_behind, held_by, holder_of, taker_of}
use Rattle.alloc_rules.proofs.SoFar.{holder_joined, pairs_end}

-- ---- names

text_same : (a b : List ℕ) → text_eq a b ≡ true → a ≡ b
text_same a b e = same_text a b (sym e)

same_id : (d e p q n m : List ℕ) → d ≡ e → p ≡ q → n ≡ m → ◌≡◌ {A = DeviceId} (record { driver = d; pool = p; device = n }) (record { driver = e; pool = q; device = m })
same_id d e p q n m f g h = cc

pub device_same : (a b : DeviceId) → device_eq a b ≡ true → a ≡ b
device_same a b e =
    let outer = and_parts (text_eq a.driver b.driver) (text_eq a.pool b.pool && text_eq a.device b.device) e in
    let inner = and_parts (text_eq a.pool b.pool) (text_eq a.device b.device) outer.1 in
    same_id a.driver b.driver a.pool b.pool a.device b.device (text_same a.driver b.driver outer.0) (text_same a.pool b.pool inner.0) (text_same a.device b.device inner.1)

pub device_itself : (a : DeviceId) → device_eq a a ≡ true
device_itself a =
    ap (λ (t : Bool). t && (text_eq a.pool a.pool && text_eq a.device a.device)) (nat_list_eq_equiv.refl a.driver)
    ∙ ap (λ (t : Bool). t && text_eq a.device a.device) (nat_list_eq_equiv.refl a.pool)
    ∙ nat_list_eq_equiv.refl a.device

-- ---- sums over some of a list

filter_by : {X : Type 0} (f : X → ℕ) (p : X → Bool) (x : X) (xs : List X) (b : Bool) → sum_by f (filter p xs) ≡ sum_by (λ y. cond (p y) (f y) 0) xs
    → sum_by f (cond b (x ∷ filter p xs) (filter p xs)) ≡ cond b (f x) 0 + sum_by (λ y. cond (p y) (f y) 0) xs
filter_by f p x xs true h = sum_by-cons f x (filter p xs) ∙ ap (λ (n : ℕ). f x + n) h
filter_by f p x xs false h = omega (arith, h)

sum_filter : {X : Type 0} (f : X → ℕ) (p : X → Bool) (xs : List X) → sum_by f (filter p xs) ≡ sum_by (λ x. cond (p x) (f x) 0) xs
sum_filter f p [] = refl
sum_filter f p (x ∷ xs) = filter_by f p x xs (p x) (sum_filter f p xs) ∙ sym (sum_by-cons (λ y. cond (p y) (f y) 0) x xs)

sum_both : {X : Type 0} (f g h : X → ℕ) (xs : List X) → ((x : X) → f x ≡ g x + h x) → sum_by f xs ≡ sum_by g xs + sum_by h xs
sum_both f g h [] e = refl
sum_both f g h (x ∷ xs) e =
    let a : sum_by f (x ∷ xs) ≡ f x + sum_by f xs = sum_by-cons f x xs in
    let b : sum_by g (x ∷ xs) ≡ g x + sum_by g xs = sum_by-cons g x xs in
    let c : sum_by h (x ∷ xs) ≡ h x + sum_by h xs = sum_by-cons h x xs in
    let d : sum_by f xs ≡ sum_by g xs + sum_by h xs = sum_both f g h xs e in
    let k : f x ≡ g x + h x = e x in
    omega (arith, a, b, c, d, k)

sum_none : {X : Type 0} (f : X → ℕ) (xs : List X) → ((i : ℕ) (x : X) → slice_get xs i ≡ Some x → f x ≡ 0) → sum_by f xs ≡ 0
sum_none f [] h = refl
sum_none f (x ∷ xs) h =
    let a : sum_by f (x ∷ xs) ≡ f x + sum_by f xs = sum_by-cons f x xs in
    let b : f x ≡ 0 = h 0 x refl in
    let c : sum_by f xs ≡ 0 = sum_none f xs (λ i y e. h (suc i) y e) in
    omega (arith, a, b, c)

-- of one element alone
sum_one : {X : Type 0} (f : X → ℕ) (xs : List X) (i : ℕ) (x : X) → slice_get xs i ≡ Some x → ((j : ℕ) (y : X) → slice_get xs j ≡ Some y → i ≢ j → f y ≡ 0) → sum_by f xs ≡ f x
sum_one f [] i x e h = absurd (cc)
sum_one f (y ∷ ys) zero x e h =
    let same : y ≡ x = cc in
    let a : sum_by f (y ∷ ys) ≡ f y + sum_by f ys = sum_by-cons f y ys in
    let b : sum_by f ys ≡ 0 = sum_none f ys (λ j z g. h (suc j) z g (λ q. absurd (cc))) in
    let c : f y ≡ f x = ap f same in
    omega (arith, a, b, c)
sum_one f (y ∷ ys) (suc i) x e h =
    let a : sum_by f (y ∷ ys) ≡ f y + sum_by f ys = sum_by-cons f y ys in
    let b : f y ≡ 0 = h 0 y refl (λ q. absurd (cc)) in
    let c : sum_by f ys ≡ f x = sum_one f ys i x e (λ j z g n. h (suc j) z g (λ q. n (omega (arith, q)))) in
    omega (arith, a, b, c)

-- ---- the held ones among all devices of usable slices

held_all : (slices : List ResourceSlice) (pairs : List (DeviceId × Key)) → flat_map (held_in pairs) slices ≡ filter (λ o. is_held pairs (id_in o)) (flat_map offers slices)
held_all [] pairs = refl
held_all (x ∷ xs) pairs = ap (λ (l : List Offered). held_in pairs x ++ l) (held_all xs pairs) ∙ sym (filter-append (λ o. is_held pairs (id_in o)) (offers x) (flat_map offers xs))

-- what a device draws, if it is held
abbrev drawn_held : List (DeviceId × Key) → CounterId → Offered → ℕ
drawn_held pairs c o = cond (is_held pairs (id_in o)) (drawn_from c o) 0

drawn_is : (i : Inventory) (pairs : List (DeviceId × Key)) (c : CounterId) → drawn (usable_slices i) pairs c ≡ sum_by (drawn_held pairs c) (usable_devices i)
unfolding drawn drawn_by held_devices usable_devices
drawn_is i pairs c = ap (λ (l : List Offered). sum_by (drawn_from c) l) (held_all (usable_slices i) pairs) ∙ sum_filter (drawn_from c) (λ o. is_held pairs (id_in o)) (flat_map offers (usable_slices i))

-- nothing is drawn if none is held
pub drawn_none : (i : Inventory) (c : CounterId) → drawn (usable_slices i) [] c ≡ 0
drawn_none i c = drawn_is i [] c ∙ sum_none (drawn_held [] c) (usable_devices i) (λ j o at. refl)

held_none_by : (p : DeviceId × Key) (ps : List (DeviceId × Key)) (id : DeviceId) (b : Bool) → cond b (Some p.1) (holder_of ps id) ≡ None → (holder_of ps id ≡ None → is_held ps id ≡ false) → (b || is_held ps id) ≡ false
held_none_by p ps id true h rest = absurd (cc)
held_none_by p ps id false h rest = rest h

none_held : (pairs : List (DeviceId × Key)) (id : DeviceId) → holder_of pairs id ≡ None → is_held pairs id ≡ false
none_held [] id e = refl
none_held (p ∷ ps) id e = held_none_by p ps id (device_eq p.0 id) e (none_held ps id)

split_by : (a b : Bool) (n : ℕ) → (b ≡ true → a ≡ false) → cond (a || (b || false)) n 0 ≡ cond a n 0 + cond b n 0
split_by true true n h = absurd (let e : true ≡ false = h refl in cc)
split_by true false n h = omega arith
split_by false true n h = omega arith
split_by false false n h = refl

-- a device that is alone with its id
pub record IsAlone (i : Inventory) (o : Offered) : Type 0 where
  pub place : ℕ
  pub at : slice_get (usable_devices i) place ≡ Some o
  pub alone : (n : ℕ) (p : Offered) → slice_get (usable_devices i) n ≡ Some p → id_in o ≡ id_in p → place ≡ n

-- one device more is held
drawn_more : (i : Inventory) (pairs : List (DeviceId × Key)) (c : CounterId) (id : DeviceId) (k : Key) (o : Offered) → IsAlone i o → device_eq (id_in o) id ≡ true → holder_of pairs id ≡ None
    → drawn (usable_slices i) (pairs ++ (id, k) ∷ []) c ≡ drawn (usable_slices i) pairs c + drawn_from c o
drawn_more i pairs c id k o h is free =
    drawn_is i (pairs ++ (id, k) ∷ []) c
    ∙ sum_both (drawn_held (pairs ++ (id, k) ∷ []) c) (drawn_held pairs c) (λ p. cond (device_eq id (id_in p)) (drawn_from c p) 0) (usable_devices i) each
    ∙ ap (λ (n : ℕ). n + sum_by (λ p. cond (device_eq id (id_in p)) (drawn_from c p) 0) (usable_devices i)) (sym (drawn_is i pairs c))
    ∙ ap (λ (n : ℕ). drawn (usable_slices i) pairs c + n) (sum_one (λ p. cond (device_eq id (id_in p)) (drawn_from c p) 0) (usable_devices i) h.place o h.at others ∙ own)
  where
    same : id_in o ≡ id
    same = device_same (id_in o) id is

    each : (p : Offered) → drawn_held (pairs ++ (id, k) ∷ []) c p ≡ drawn_held pairs c p + cond (device_eq id (id_in p)) (drawn_from c p) 0
    each p =
        ap (λ (t : Bool). cond t (drawn_from c p) 0) (list_any-append (λ (h : DeviceId × Key). device_eq h.0 (id_in p)) pairs ((id, k) ∷ []))
        ∙ split_by (is_held pairs (id_in p)) (device_eq id (id_in p)) (drawn_from c p) (λ e. none_held pairs (id_in p) (ap (holder_of pairs) (sym (device_same id (id_in p) e)) ∙ free))

    others_by : (p : Offered) (b : Bool) → device_eq id (id_in p) ≡ b → (id_in o ≡ id_in p → ⊥) → cond b (drawn_from c p) 0 ≡ 0
    others_by p true e n = absurd (n (same ∙ device_same id (id_in p) e))
    others_by p false e n = refl

    others : (j : ℕ) (p : Offered) → slice_get (usable_devices i) j ≡ Some p → h.place ≢ j → cond (device_eq id (id_in p)) (drawn_from c p) 0 ≡ 0
    others j p e n = others_by p (device_eq id (id_in p)) refl (λ q. n (h.alone j p e q))

    own : cond (device_eq id (id_in o)) (drawn_from c o) 0 ≡ drawn_from c o
    own = ap (λ (t : Bool). cond t (drawn_from c o) 0) (ap (device_eq id) same ∙ device_itself id)

-- ---- the results, one after another

-- the device of a result, if it draws
pub record DrawsOn (i : Inventory) (d : Due) (o : Offered) : Type 0 where
  pub alone : IsAlone i o
  pub is : device_eq (id_in o) d.result.device ≡ true

pub due_more : (i : Inventory) (pairs : List (DeviceId × Key)) (before : List Due) (c : CounterId) (d : Due) (o : Offered) → DrawsOn i d o → held_behind pairs before d ≡ None
    → drawn (usable_slices i) (pairs ++ pairs_of (before ++ d ∷ [])) c ≡ drawn (usable_slices i) (pairs ++ pairs_of before) c + cond d.result.admin 0 (drawn_from c o)
due_more i pairs before c d o h none =
    ap (λ (l : List (DeviceId × Key)). drawn (usable_slices i) l c) (ap (λ (l : List (DeviceId × Key)). pairs ++ l) (pairs_end before d) ∙ sym (append_assoc pairs (pairs_of before) (pair_of d ++ [])))
    ∙ by d.result.admin refl
  where
    free_by : (o : Option Key) → held_by d o ≡ None → o ≡ None
    free_by None e = refl
    free_by (Some k) e = absurd (cc)

    by : (b : Bool) → d.result.admin ≡ b → drawn (usable_slices i) ((pairs ++ pairs_of before) ++ (cond b [] ((d.result.device, d.claim) ∷ []) ++ [])) c ≡ drawn (usable_slices i) (pairs ++ pairs_of before) c + cond b 0 (drawn_from c o)
    by true e = ap (λ (l : List (DeviceId × Key)). drawn (usable_slices i) l c) (append-nil (pairs ++ pairs_of before)) ∙ omega arith
    by false e =
        drawn_more i (pairs ++ pairs_of before) c d.result.device d.claim o h.alone h.is
        (holder_joined pairs before d.result.device ∙ free_by (or_else (holder_of pairs d.result.device) (taker_of before d.result.device)) (sym (ap (λ (t : Bool). cond t None (held_by d (or_else (holder_of pairs d.result.device) (taker_of before d.result.device)))) e) ∙ none))
