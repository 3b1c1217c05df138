-- Slices of usable pools and their devices differ.
use Rattle.std.proofs.Common.{ℕ, ◌≡◌, ◌∙◌, ⊎_elim, List, [], ◌∷◌, ◌++◌, Bool, true, false, not, cond, ◌&&◌, Option, None, Some, refl, sym, ap, subst}
use Rattle.std.specs.Prelude.{filter, map, slice_get}
use Rattle.std.specs.List.{AllByRecursion, Contains, flat_map, list_any}
use Rattle.std.specs.List.Sorted.{IsStrictlySortedBy}
use Rattle.std.specs.BTreeSet.{insert_key}
use Rattle.std.specs.Map.{keys_of}
use Rattle.std.specs.Cmp.{IsTotalOrder}
use Rattle.std.specs.Cmp.Lexicographic.{nat_list_cmp_total, nat_list_eq_equiv, same_text}
use Rattle.std.specs.Ordering.{is_eq, match_ordering, ordering_reverse, ordering_then}
use Rattle.std.specs.declared.cmp.Ordering.{Ordering}
use Rattle.std.specs.declared.cmp.Ordering.TheVariants.{Less, Equal, Greater}
use Rattle.std.proofs.lemmas.Bool.{and_parts, or_parts}
use Rattle.std.proofs.lemmas.Cmp.{on_total, then_total}
use Rattle.std.proofs.lemmas.List.{map-append}
use Rattle.std.proofs.lemmas.List.Concat.{flat_map-append}
use Rattle.std.proofs.lemmas.List.Elements.{Contains-append_left, Contains-append_right, filter-append}
use Rattle.object_fields.specs.declared.key.DeviceId.{DeviceId}
use Rattle.api_cluster.specs.declared.types.Node.{Node}
use Rattle.api_slice.specs.declared.types.Device.{Device}
use Rattle.api_slice.specs.declared.types.ResourceSlice.{ResourceSlice}
use Rattle.pool_view.specs.declared.inventory.Inventory.{Inventory}
use Rattle.pool_view.specs.declared.names.PoolName.{PoolName}
use Rattle.pool_view.specs.declared.stored.Stored.{Stored}
use Rattle.pool_view.specs.Differing.{IsAtItsName, offers, usable_devices}
use Rattle.pool_view.specs.Groups.{objects}
use Rattle.pool_view.specs.Inventory.{AtOwnNames, Named}
use Rattle.pool_view.specs.Names.{at_name, text_cmp, text_eq}
use Rattle.pool_view.specs.Pools.{Offered, counts_of, counts_differ, device_names, has_twice, id_in, id_of, is_complete, is_invalid, is_usable, offered_by, place_cmp, place_of, pool_of, slices_of}
use Rattle.pool_view.specs.Usable.{devices_for, if_usable, node_devices, pool_cmp, pool_named, pools, pools_with, usable_slices}
use Rattle.pool_view.specs.Visibility.{offered_to, sees_device}
use Rattle.pool_view.proofs.Pairs.{Pairwise, all_at, all_both, all_filter, all_flat, all_flat_by, all_imply, all_in, all_map, all_pairs_by, pairs_filter, pairs_flat, pairs_imply, pairs_imply_by, pairs_map, pairs_sorted, pairs_unmap, same_place, same_some, sorted_pairs}
use Rattle.pool_view.proofs.Members.{head_or, in_head, in_tail, none_in}
use Rattle.pool_view.proofs.PoolGroups.{of_pool, pools_exact, same_parts, text_equal}

-- ---- the pools strictly increase

driver_of : PoolName → List ℕ
driver_of p = p.driver

pool_in : PoolName → List ℕ
pool_in p = p.pool

pub pool_total : IsTotalOrder pool_cmp
unfolding driver_of pool_in
pool_total = then_total (on_total driver_of nat_list_cmp_total) (on_total pool_in nat_list_cmp_total)

abbrev pub Before : PoolName → PoolName → Type 0
Before p q = pool_cmp p q ≡ Less

all_put_by : (o : Ordering) (k x : PoolName) (P : PoolName → Type 0) (xs more : List PoolName) → P k → AllByRecursion P (x ∷ xs) → AllByRecursion P more → AllByRecursion P (match_ordering o (k ∷ x ∷ xs) (x ∷ xs) (x ∷ more))
all_put_by Less k x P xs more p h m = (p, h)
all_put_by Equal k x P xs more p h m = h
all_put_by Greater k x P xs more p h m = (h.0, m)

all_put : (k : PoolName) (P : PoolName → Type 0) (xs : List PoolName) → P k → AllByRecursion P xs → AllByRecursion P (insert_key pool_cmp xs k)
all_put k P [] p h = (p, tt)
all_put k P (x ∷ xs) p h = all_put_by (pool_cmp k x) k x P xs (insert_key pool_cmp xs k) p h (all_put k P xs p h.1)

put_by : (o : Ordering) (k x : PoolName) (xs : List PoolName) → pool_cmp k x ≡ o → Pairwise Before (x ∷ xs) → Pairwise Before (insert_key pool_cmp xs k) → Pairwise Before (match_ordering o (k ∷ x ∷ xs) (x ∷ xs) (x ∷ insert_key pool_cmp xs k))
put_by Less k x xs e h later = ((e, all_imply (λ y. Before x y) (λ y. Before k y) xs (λ y l. pool_total.trans k x y e l) h.0), h)
put_by Equal k x xs e h later = h
put_by Greater k x xs e h later = (all_put k (λ y. Before x y) xs (pool_total.antisymm x k ∙ ap ordering_reverse e) h.0, later)

put : (xs : List PoolName) (k : PoolName) → Pairwise Before xs → Pairwise Before (insert_key pool_cmp xs k)
put [] k h = (tt, tt)
put (x ∷ xs) k h = put_by (pool_cmp k x) k x xs refl h (put xs k h.1)

pub pools_rise : (es : Named ResourceSlice) (ps : List PoolName) → Pairwise Before ps → Pairwise Before (pools_with ps es)
pools_rise [] ps h = h
pools_rise (e ∷ es) ps h = pools_rise es (insert_key pool_cmp ps (pool_named e.1.object)) (put ps (pool_named e.1.object) h)

-- ---- the slices of one pool

abbrev pub block : Named ResourceSlice → PoolName → List ResourceSlice
block all p = if_usable (pool_of all p.driver p.pool)

all_if : (b : Bool) (P : ResourceSlice → Type 0) (xs : List ResourceSlice) → AllByRecursion P xs → AllByRecursion P (cond b xs [])
all_if true P xs h = h
all_if false P xs h = tt

pub all_block : (P : ResourceSlice → Type 0) (all : Named ResourceSlice) (p : PoolName) → AllByRecursion P (slices_of p.driver p.pool all) → AllByRecursion P (block all p)
unfolding pool_of
all_block P all p h =
    all_if (is_usable (pool_of all p.driver p.pool)) P (pool_of all p.driver p.pool) (all_filter P _ (slices_of p.driver p.pool all) h)

pairs_if : (b : Bool) (R : ResourceSlice → ResourceSlice → Type 0) (xs : List ResourceSlice) → Pairwise R xs → Pairwise R (cond b xs [])
pairs_if true R xs h = h
pairs_if false R xs h = tt

pairs_block : (R : ResourceSlice → ResourceSlice → Type 0) (all : Named ResourceSlice) (p : PoolName) → Pairwise R (slices_of p.driver p.pool all) → Pairwise R (block all p)
unfolding pool_of
pairs_block R all p h =
    pairs_if (is_usable (pool_of all p.driver p.pool)) R (pool_of all p.driver p.pool) (pairs_filter R _ (slices_of p.driver p.pool all) h)

-- they are of it
pub is_pool : (x : ResourceSlice) (p : PoolName) → (text_eq x.driver p.driver && text_eq x.pool.name p.pool) ≡ true → pool_named x ≡ p
is_pool x p e =
    let both = and_parts (text_eq x.driver p.driver) (text_eq x.pool.name p.pool) e in
    same_parts x.driver p.driver x.pool.name p.pool (same_text x.driver p.driver (sym both.0)) (same_text x.pool.name p.pool (sym both.1))

abbrev pub OfPool : PoolName → ResourceSlice → Type 0
OfPool p x = pool_named x ≡ p

of_pool_by : (b : Bool) (p : PoolName) (x : ResourceSlice) (xs : List ResourceSlice) → (b ≡ true → OfPool p x) → AllByRecursion (OfPool p) xs → AllByRecursion (OfPool p) (cond b (x ∷ xs) xs)
of_pool_by true p x xs f h = (f refl, h)
of_pool_by false p x xs f h = h

pub all_of_pool : (p : PoolName) (all : Named ResourceSlice) → AllByRecursion (OfPool p) (slices_of p.driver p.pool all)
all_of_pool p [] = tt
all_of_pool p (e ∷ es) =
    of_pool_by (text_eq e.1.object.driver p.driver && text_eq e.1.object.pool.name p.pool) p e.1.object (slices_of p.driver p.pool es) (is_pool e.1.object p) (all_of_pool p es)

pub block_of_pool : (all : Named ResourceSlice) (p : PoolName) → AllByRecursion (OfPool p) (block all p)
block_of_pool all p = all_block (OfPool p) all p (all_of_pool p all)

-- what holds of each slice that is stored holds of them
all_usable : (P : ResourceSlice → Type 0) (i : Inventory) → AllByRecursion P (objects i.slices) → AllByRecursion P (usable_slices i)
unfolding usable_slices
all_usable P i h = all_flat P (block i.slices) (pools i.slices) (λ p. all_block P i.slices p (subst (λ xs. AllByRecursion P xs) (of_pool p i.slices) (all_filter P _ (objects i.slices) h)))

-- ---- the devices of one pool

abbrev Differs : Offered → Offered → Type 0
Differs o p = id_in o ≡ id_in p → ⊥

abbrev name_in : Offered → List ℕ
name_in o = o.device.name

none_same : (n : List ℕ) (ms : List (List ℕ)) → list_any (λ m. text_eq m n) ms ≡ false → AllByRecursion (λ m. n ≡ m → ⊥) ms
none_same n [] e = tt
none_same n (m ∷ ms) e =
    let parts = or_parts (text_eq m n) (list_any (λ m. text_eq m n) ms) e in
    ((λ (same : n ≡ m). let wrong : true ≡ false = sym (nat_list_eq_equiv.refl m) ∙ sym (ap (λ k. text_eq m k) same) ∙ parts.0 in absurd (cc)), none_same n ms parts.1)

names_differ : (ns : List (List ℕ)) → has_twice ns ≡ false → Pairwise (λ n m. n ≡ m → ⊥) ns
names_differ [] e = tt
names_differ (n ∷ ns) e = let parts = or_parts (list_any (λ m. text_eq m n) ns) (has_twice ns) e in (none_same n ns parts.0, names_differ ns parts.1)

not_so : (b : Bool) → not b ≡ true → b ≡ false
not_so true e = absurd (cc)
not_so false e = refl

usable_once : (xs : List ResourceSlice) → is_usable xs ≡ true → has_twice (flat_map device_names xs) ≡ false
unfolding is_usable
usable_once xs e =
    let valid = and_parts (is_complete (counts_of xs)) (not (is_invalid xs)) e in
    let named = or_parts (counts_differ (counts_of xs)) _ (not_so _ valid.1) in
    (or_parts (has_twice (flat_map device_names xs)) _ named.1).0

names_one : (x : ResourceSlice) (ds : List Device) → map name_in (map (offered_by x) ds) ≡ map (λ d. d.name) ds
names_one x [] = refl
names_one x (d ∷ ds) = ap (λ ns. d.name ∷ ns) (names_one x ds)

names_offered : (xs : List ResourceSlice) → map name_in (flat_map offers xs) ≡ flat_map device_names xs
names_offered [] = refl
names_offered (x ∷ xs) =
    map-append name_in (offers x) (flat_map offers xs) ∙ ap (λ ns. ns ++ map name_in (flat_map offers xs)) (names_one x x.devices) ∙ ap (λ ns. device_names x ++ ns) (names_offered xs)

once : (xs : List ResourceSlice) → is_usable xs ≡ true → Pairwise Differs (flat_map offers xs)
once xs e =
    let names : Pairwise (λ n m. n ≡ m → ⊥) (map name_in (flat_map offers xs)) = subst (λ ns. Pairwise (λ n m. n ≡ m → ⊥) ns) (sym (names_offered xs)) (names_differ (flat_map device_names xs) (usable_once xs e)) in
    pairs_imply (λ o p. name_in o ≡ name_in p → ⊥) Differs (flat_map offers xs) (λ o p h same. h (ap (λ (id : DeviceId). id.device) same)) (pairs_unmap (λ n m. n ≡ m → ⊥) name_in (flat_map offers xs) names)

once_by : (b : Bool) (xs : List ResourceSlice) → is_usable xs ≡ b → Pairwise Differs (flat_map offers (cond b xs []))
once_by true xs e = once xs e
once_by false xs e = tt

block_once : (all : Named ResourceSlice) (p : PoolName) → Pairwise Differs (flat_map offers (block all p))
block_once all p = once_by (is_usable (pool_of all p.driver p.pool)) (pool_of all p.driver p.pool) refl

-- ---- the devices of all pools

abbrev InPool : PoolName → Offered → Type 0
InPool p o = pool_named o.slice ≡ p

all_same : {X : Type 0} (Q : Type 0) (xs : List X) → Q → AllByRecursion (λ x. Q) xs
all_same Q [] q = tt
all_same Q (x ∷ xs) q = (q, all_same Q xs q)

in_pool : (all : Named ResourceSlice) (p : PoolName) → AllByRecursion (InPool p) (flat_map offers (block all p))
in_pool all p =
    all_flat_by (OfPool p) (InPool p) offers (block all p) (λ x h. all_map (InPool p) (offered_by x) x.devices (all_same (OfPool p x) x.devices h)) (block_of_pool all p)

pool_of_id : DeviceId → PoolName
pool_of_id id = record { driver = id.driver; pool = id.pool }

pools_apart : (p q : PoolName) → Before p q → (o r : Offered) → InPool p o → InPool q r → Differs o r
unfolding pool_of_id
pools_apart p q less o r f g same =
    let one : p ≡ q = sym f ∙ ap pool_of_id same ∙ g in
    let wrong : Equal ≡ Less = sym (pools_exact.equal p) ∙ ap (λ s. pool_cmp p s) one ∙ less in
    absurd (cc)

flat_flat : {X Y Z : Type 0} (f : Y → List Z) (g : X → List Y) (xs : List X) → flat_map f (flat_map g xs) ≡ flat_map (λ x. flat_map f (g x)) xs
flat_flat f g [] = refl
flat_flat f g (x ∷ xs) = flat_map-append f (g x) (flat_map g xs) ∙ ap (λ zs. flat_map f (g x) ++ zs) (flat_flat f g xs)

devices_apart : (all : Named ResourceSlice) → Pairwise Differs (flat_map (λ p. flat_map offers (block all p)) (pools all))
devices_apart all =
    pairs_flat Before Differs (λ p. flat_map offers (block all p)) (pools all) (block_once all)
    (λ p q less. all_pairs_by (InPool p) (InPool q) Differs (flat_map offers (block all p)) (flat_map offers (block all q)) (pools_apart p q less) (in_pool all p) (in_pool all q))
    (pools_rise all [] tt)

pub devices_differ : (i : Inventory) → Pairwise Differs (usable_devices i)
unfolding usable_devices usable_slices
devices_differ i = subst (λ os. Pairwise Differs os) (sym (flat_flat offers (block i.slices) (pools i.slices))) (devices_apart i.slices)

-- ---- those that a node sees are among them, in order

abbrev sees : Node → Offered → Bool
sees node o = sees_device o.slice.nodes node o.device

seen_by : (b : Bool) (x : ResourceSlice) (d : Device) (ds : List Device) (os : List Offered) → map (offered_by x) ds ≡ os → map (offered_by x) (cond b (d ∷ ds) ds) ≡ cond b (offered_by x d ∷ os) os
seen_by true x d ds os e = ap (λ ps. offered_by x d ∷ ps) e
seen_by false x d ds os e = e

seen_one : (node : Node) (x : ResourceSlice) (ds : List Device) → map (offered_by x) (filter (sees_device x.nodes node) ds) ≡ filter (sees node) (map (offered_by x) ds)
seen_one node x [] = refl
seen_one node x (d ∷ ds) = seen_by (sees_device x.nodes node d) x d (filter (sees_device x.nodes node) ds) (filter (sees node) (map (offered_by x) ds)) (seen_one node x ds)

seen_all : (node : Node) (xs : List ResourceSlice) → flat_map (offered_to node) xs ≡ filter (sees node) (flat_map offers xs)
seen_all node [] = refl
seen_all node (x ∷ xs) =
    ap (λ os. os ++ flat_map (offered_to node) xs) (seen_one node x x.devices) ∙ ap (λ os. filter (sees node) (offers x) ++ os) (seen_all node xs)
    ∙ sym (filter-append (sees node) (offers x) (flat_map offers xs))

all_for : (P : Offered → Type 0) (r : Option (Stored Node)) (xs : List ResourceSlice) → AllByRecursion P (flat_map offers xs) → AllByRecursion P (devices_for r xs)
all_for P None xs h = tt
all_for P (Some node) xs h = subst (λ os. AllByRecursion P os) (sym (seen_all node.object xs)) (all_filter P (sees node.object) (flat_map offers xs) h)

pairs_for : (R : Offered → Offered → Type 0) (r : Option (Stored Node)) (xs : List ResourceSlice) → Pairwise R (flat_map offers xs) → Pairwise R (devices_for r xs)
pairs_for R None xs h = tt
pairs_for R (Some node) xs h = subst (λ os. Pairwise R os) (sym (seen_all node.object xs)) (pairs_filter R (sees node.object) (flat_map offers xs) h)

all_on : (P : Offered → Type 0) (i : Inventory) (node : List ℕ) → AllByRecursion P (usable_devices i) → AllByRecursion P (node_devices i node)
unfolding usable_devices node_devices
all_on P i node h = all_for P (at_name i.nodes node) (usable_slices i) h

node_differ : (i : Inventory) (node : List ℕ) → Pairwise Differs (node_devices i node)
unfolding usable_devices node_devices
node_differ i node = pairs_for Differs (at_name i.nodes node) (usable_slices i) (devices_differ i)

-- ---- ids identify devices

same_by_id : (os : List Offered) (n m : ℕ) (o p : Offered) → Pairwise Differs os → slice_get os n ≡ Some o → slice_get os m ≡ Some p → id_in o ≡ id_in p → n ≡ m
same_by_id os n m o p h e f same = same_place Differs os n m o p h (λ differ. differ same) (λ differ. differ (sym same)) e f

pub view_ids : (i : Inventory) (node : List ℕ) (n m : ℕ) (o p : Offered) → slice_get (node_devices i node) n ≡ Some o → slice_get (node_devices i node) m ≡ Some p → id_in o ≡ id_in p → n ≡ m
view_ids i node n m o p e f same = same_by_id (node_devices i node) n m o p (node_differ i node) e f same

pub usable_ids : (i : Inventory) (n m : ℕ) (o p : Offered) → slice_get (usable_devices i) n ≡ Some o → slice_get (usable_devices i) m ≡ Some p → id_in o ≡ id_in p → n ≡ m
usable_ids i n m o p e f same = same_by_id (usable_devices i) n m o p (devices_differ i) e f same

-- ---- whose devices they are

all_slices : (i : Inventory) → AllByRecursion (λ o. Contains (usable_slices i) o.slice) (usable_devices i)
unfolding usable_devices
all_slices i =
    all_flat_by (λ x. Contains (usable_slices i) x) (λ o. Contains (usable_slices i) o.slice) offers (usable_slices i)
    (λ x h. all_map (λ o. Contains (usable_slices i) o.slice) (offered_by x) x.devices (all_same (Contains (usable_slices i) x) x.devices h)) (all_in (usable_slices i))

all_devices : (i : Inventory) → AllByRecursion (λ o. Contains o.slice.devices o.device) (usable_devices i)
unfolding usable_devices
all_devices i = all_flat (λ o. Contains o.slice.devices o.device) offers (usable_slices i) (λ x. all_map (λ o. Contains o.slice.devices o.device) (offered_by x) x.devices (all_in x.devices))

pub view_slice : (i : Inventory) (node : List ℕ) (n : ℕ) (o : Offered) → slice_get (node_devices i node) n ≡ Some o → Contains (usable_slices i) o.slice
view_slice i node n o e = all_at (λ o. Contains (usable_slices i) o.slice) (node_devices i node) n o (all_on (λ o. Contains (usable_slices i) o.slice) i node (all_slices i)) e

pub view_device : (i : Inventory) (node : List ℕ) (n : ℕ) (o : Offered) → slice_get (node_devices i node) n ≡ Some o → Contains o.slice.devices o.device
view_device i node n o e = all_at (λ o. Contains o.slice.devices o.device) (node_devices i node) n o (all_on (λ o. Contains o.slice.devices o.device) i node (all_devices i)) e

-- ---- names identify slices

abbrev Entry : Type 0
Entry = List ℕ × Stored ResourceSlice

abbrev Rises : Entry → Entry → Type 0
Rises e f = text_cmp e.0 f.0 ≡ Less

entries_rise : (es : Named ResourceSlice) → IsStrictlySortedBy text_cmp (keys_of es) → Pairwise Rises es
entries_rise es h = pairs_unmap (λ a b. text_cmp a b ≡ Less) (λ e. e.0) es (pairs_sorted text_cmp (keys_of es) h)

found : (es : Named ResourceSlice) → Pairwise Rises es → AllByRecursion (λ f. at_name es f.0 ≡ Some f.1) es
found [] h = tt
found (e ∷ es) h = (
  ap (λ o. cond (is_eq o) (Some e.1) (at_name es e.0)) (text_equal e.0),
  all_both (λ f. Rises e f) (λ f. at_name es f.0 ≡ Some f.1) (λ f. at_name (e ∷ es) f.0 ≡ Some f.1) es
      (λ f less there. ap (λ o. cond (is_eq o) (Some e.1) (at_name es f.0)) (nat_list_cmp_total.antisymm f.0 e.0 ∙ ap ordering_reverse less) ∙ there) h.0 (found es h.1),
)

at_its_name : (all : Named ResourceSlice) (e : Entry) → e.0 ≡ e.1.object.name → at_name all e.0 ≡ Some e.1 → IsAtItsName all e.1.object
at_its_name all e own there = record { stored = e.1; there = ap (λ n. at_name all n) (sym own) ∙ there; is = refl }

all_named : (all : Named ResourceSlice) → AtOwnNames all → IsStrictlySortedBy text_cmp (keys_of all) → AllByRecursion (IsAtItsName all) (objects all)
all_named all own h =
    all_map (IsAtItsName all) (λ e. e.1.object) all (all_both (λ e. e.0 ≡ e.1.object.name) (λ e. at_name all e.0 ≡ Some e.1) (λ e. IsAtItsName all e.1.object) all (at_its_name all) own (found all (entries_rise all h)))

pub of_all : {X : Type 0} (P : X → Type 0) (xs : List X) (x : X) → AllByRecursion P xs → Contains xs x → P x
of_all P [] x h c = absurd (none_in x c)
of_all P (y ∷ ys) x h c = ⊎_elim (λ (e : y ≡ x). subst P e h.0) (λ (g : Contains ys x). of_all P ys x h.1 g) (head_or y x ys c)

pub usable_stored : (i : Inventory) (x : ResourceSlice) → AtOwnNames i.slices → IsStrictlySortedBy text_cmp (keys_of i.slices) → Contains (usable_slices i) x → IsAtItsName i.slices x
usable_stored i x own h c = of_all (IsAtItsName i.slices) (usable_slices i) x (all_usable (IsAtItsName i.slices) i (all_named i.slices own h)) c

one_of_name : (all : Named ResourceSlice) (x y : ResourceSlice) → IsAtItsName all x → IsAtItsName all y → x.name ≡ y.name → x ≡ y
one_of_name all x y f g same =
    let one : f.stored ≡ g.stored = same_some f.stored g.stored (sym f.there ∙ ap (λ n. at_name all n) same ∙ g.there) in
    sym f.is ∙ ap (λ s. s.object) one ∙ g.is

pub usable_names : (i : Inventory) (x y : ResourceSlice) → AtOwnNames i.slices → IsStrictlySortedBy text_cmp (keys_of i.slices) → Contains (usable_slices i) x → Contains (usable_slices i) y → x.name ≡ y.name → x ≡ y
usable_names i x y own h c d same = one_of_name i.slices x y (usable_stored i x own h c) (usable_stored i y own h d) same

pub view_names : (i : Inventory) (node : List ℕ) (n m : ℕ) (o p : Offered) → AtOwnNames i.slices → IsStrictlySortedBy text_cmp (keys_of i.slices) → slice_get (node_devices i node) n ≡ Some o → slice_get (node_devices i node) m ≡ Some p
    → o.slice.name ≡ p.slice.name → o.slice ≡ p.slice
view_names i node n m o p own h e f same = usable_names i o.slice p.slice own h (view_slice i node n o e) (view_slice i node m p f) same

-- ---- the slices of usable pools strictly increase

abbrev NamesRise : ResourceSlice → ResourceSlice → Type 0
NamesRise x y = text_cmp x.name y.name ≡ Less

abbrev PlacesRise : ResourceSlice → ResourceSlice → Type 0
PlacesRise x y = place_cmp (place_of x) (place_of y) ≡ Less

objects_rise : (all : Named ResourceSlice) → AtOwnNames all → IsStrictlySortedBy text_cmp (keys_of all) → Pairwise NamesRise (objects all)
objects_rise all own h =
    pairs_map NamesRise (λ e. e.1.object) all
    (pairs_imply_by (λ e. e.0 ≡ e.1.object.name) Rises (λ e f. NamesRise e.1.object f.1.object) all
    (λ e f a b less. ap (λ n. text_cmp n f.1.object.name) (sym a) ∙ ap (λ n. text_cmp e.0 n) (sym b) ∙ less) own (entries_rise all h))

third : (a b c : Ordering) → a ≡ Equal → b ≡ Equal → c ≡ Less → ordering_then a (ordering_then b c) ≡ Less
third a b c e f g = ap (λ o. ordering_then o (ordering_then b c)) e ∙ ap (λ o. ordering_then o c) f ∙ g

within_pool : (p : PoolName) (x y : ResourceSlice) → OfPool p x → OfPool p y → NamesRise x y → PlacesRise x y
within_pool p x y f g less =
    let one : pool_named x ≡ pool_named y = f ∙ sym g in
    let driver : text_cmp x.driver y.driver ≡ Equal = ap (λ (q : PoolName). text_cmp x.driver q.driver) (sym one) ∙ text_equal x.driver in
    let pool : text_cmp x.pool.name y.pool.name ≡ Equal = ap (λ (q : PoolName). text_cmp x.pool.name q.pool) (sym one) ∙ text_equal x.pool.name in
    third (text_cmp x.driver y.driver) (text_cmp x.pool.name y.pool.name) (text_cmp x.name y.name) driver pool less

prefix_less : (a b c : Ordering) → ordering_then a b ≡ Less → ordering_then a (ordering_then b c) ≡ Less
prefix_less Less b c e = refl
prefix_less Equal b c e = ap (λ o. ordering_then o c) e
prefix_less Greater b c e = absurd (cc)

across_pools : (p q : PoolName) → Before p q → (x y : ResourceSlice) → OfPool p x → OfPool q y → PlacesRise x y
across_pools p q less x y f g =
    let pools_less : pool_cmp (pool_named x) (pool_named y) ≡ Less = ap (λ r. pool_cmp r (pool_named y)) f ∙ ap (λ r. pool_cmp p r) g ∙ less in
    prefix_less (text_cmp x.driver y.driver) (text_cmp x.pool.name y.pool.name) (text_cmp x.name y.name) pools_less

block_rises : (all : Named ResourceSlice) → Pairwise NamesRise (objects all) → (p : PoolName) → Pairwise PlacesRise (block all p)
block_rises all h p =
    pairs_imply_by (OfPool p) NamesRise PlacesRise (block all p) (within_pool p) (block_of_pool all p)
    (pairs_block NamesRise all p (subst (λ xs. Pairwise NamesRise xs) (of_pool p all) (pairs_filter NamesRise _ (objects all) h)))

usable_rise : (i : Inventory) → Pairwise NamesRise (objects i.slices) → Pairwise PlacesRise (usable_slices i)
unfolding usable_slices
usable_rise i h =
    pairs_flat Before PlacesRise (block i.slices) (pools i.slices) (block_rises i.slices h)
    (λ p q less. all_pairs_by (OfPool p) (OfPool q) PlacesRise (block i.slices p) (block i.slices q) (across_pools p q less) (block_of_pool i.slices p) (block_of_pool i.slices q)) (pools_rise i.slices [] tt)

pub usable_order : (i : Inventory) → AtOwnNames i.slices → IsStrictlySortedBy text_cmp (keys_of i.slices) → IsStrictlySortedBy place_cmp (map place_of (usable_slices i))
usable_order i own h = sorted_pairs place_cmp (map place_of (usable_slices i)) (pairs_map (λ a b. place_cmp a b ≡ Less) place_of (usable_slices i) (usable_rise i (objects_rise i.slices own h)))

-- ---- ids identify the devices of all usable slices

in_map : {X Y : Type 0} (f : X → Y) (xs : List X) (x : X) → Contains xs x → Contains (map f xs) (f x)
in_map f [] x h = absurd (none_in x h)
in_map f (y ∷ ys) x h =
    ⊎_elim (λ (e : y ≡ x). subst (λ z. Contains (map f (y ∷ ys)) (f z)) e (in_head (f y) (map f ys))) (λ (g : Contains ys x). in_tail (f y) (f x) (map f ys) (in_map f ys x g)) (head_or y x ys h)

pub in_flat : {X Y : Type 0} (f : X → List Y) (xs : List X) (x : X) (y : Y) → Contains xs x → Contains (f x) y → Contains (flat_map f xs) y
in_flat f [] x y h g = absurd (none_in x h)
in_flat f (z ∷ zs) x y h g =
    ⊎_elim (λ (e : z ≡ x). Contains-append_left (f z) (flat_map f zs) y (subst (λ w. Contains (f w) y) (sym e) g)) (λ (k : Contains zs x). Contains-append_right (f z) (flat_map f zs) y (in_flat f zs x y k g))
    (head_or z x zs h)

same_item : {X : Type 0} (R : X → X → Type 0) (xs : List X) (x y : X) → Pairwise R xs → Contains xs x → Contains xs y → (R x y → ⊥) → (R y x → ⊥) → x ≡ y
same_item R [] x y h c d forth back = absurd (none_in x c)
same_item R (z ∷ zs) x y h c d forth back =
    ⊎_elim
    (λ (e : z ≡ x). ⊎_elim (λ (f : z ≡ y). sym e ∙ f) (λ (g : Contains zs y). absurd (forth (subst (λ w. R w y) e (of_all (λ w. R z w) zs y h.0 g)))) (head_or z y zs d))
    (λ (k : Contains zs x).
    ⊎_elim (λ (f : z ≡ y). absurd (back (subst (λ w. R w x) f (of_all (λ w. R z w) zs x h.0 k)))) (λ (g : Contains zs y). same_item R zs x y h.1 k g forth back) (head_or z y zs d))
    (head_or z x zs c)

offered : (i : Inventory) (x : ResourceSlice) (d : Device) → Contains (usable_slices i) x → Contains x.devices d → Contains (usable_devices i) (offered_by x d)
unfolding usable_devices
offered i x d h g = in_flat offers (usable_slices i) x (offered_by x d) h (in_map (offered_by x) x.devices d g)

pub usable_one : (i : Inventory) (x y : ResourceSlice) (d e : Device) → Contains (usable_slices i) x → Contains x.devices d → Contains (usable_slices i) y → Contains y.devices e → id_of x d ≡ id_of y e → (x ≡ y) × (d ≡ e)
usable_one i x y d e h g k l same =
    let one : offered_by x d ≡ offered_by y e = same_item Differs (usable_devices i) (offered_by x d) (offered_by y e) (devices_differ i) (offered i x d h g) (offered i y e k l) (λ differ. differ same) (λ differ. differ (sym same)) in
    (ap (λ (o : Offered). o.slice) one, ap (λ (o : Offered). o.device) one)
