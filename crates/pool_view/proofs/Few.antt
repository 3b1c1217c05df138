-- The slices of usable pools have no more devices than all slices.
use Rattle.std.proofs.Common.{ℕ, ◌+◌, ◌≤◌, ◌≡◌, ◌∙◌, List, [], ◌∷◌, ◌++◌, Bool, true, false, cond, length, refl, sym, ap, subst, arith}
use Rattle.std.specs.Prelude.{filter}
use Rattle.std.specs.List.{AllByRecursion, flat_map, sum_by}
use Rattle.std.specs.Ordering.{is_eq}
use Rattle.std.specs.declared.cmp.Ordering.TheVariants.{Less, Equal}
use Rattle.std.proofs.lemmas.List.Sums.{sum_by-cons}
use Rattle.api_slice.specs.declared.types.ResourceSlice.{ResourceSlice}
use Rattle.pool_view.specs.declared.inventory.Inventory.{Inventory}
use Rattle.pool_view.specs.declared.names.PoolName.{PoolName}
use Rattle.pool_view.specs.Groups.{objects}
use Rattle.pool_view.specs.Inventory.{Named, device_count, devices_most}
use Rattle.pool_view.specs.Pools.{is_usable, pool_of, slices_of}
use Rattle.pool_view.specs.Usable.{pool_cmp, pool_named, pools, usable_slices}
use Rattle.pool_view.proofs.Differ.{Before, block, pools_rise}
use Rattle.pool_view.proofs.Found.{is_equal}
use Rattle.pool_view.proofs.Pairs.{Pairwise, all_imply}
use Rattle.pool_view.proofs.PoolGroups.{of_pool, pools_exact}

-- the devices of slices
abbrev sizes : List ResourceSlice → ℕ
sizes [] = 0
sizes (x ∷ xs) = length x.devices + sizes xs

-- whether a slice is one of a pool
abbrev is_of : PoolName → ResourceSlice → Bool
is_of p x = is_eq (pool_cmp p (pool_named x))

-- the devices of a pool's slices
abbrev part : PoolName → List ResourceSlice → ℕ
part p xs = sizes (filter (is_of p) xs)

abbrev parts : List PoolName → List ResourceSlice → ℕ
parts [] xs = 0
parts (p ∷ ps) xs = part p xs + parts ps xs

-- ---- each slice is one of one pool at most

zero_plus : (n : ℕ) → n ≡ 0 + n
zero_plus n = omega arith

part_out : (b : Bool) (x : ResourceSlice) (xs : List ResourceSlice) → b ≡ false → sizes (cond b (x ∷ xs) xs) ≡ sizes xs
part_out true x xs e = absurd (cc)
part_out false x xs e = refl

part_with : (b : Bool) (x : ResourceSlice) (xs : List ResourceSlice) → sizes (cond b (x ∷ xs) xs) ≡ cond b (length x.devices) 0 + sizes xs
part_with true x xs = refl
part_with false x xs = zero_plus (sizes xs)

of_none : (x : ResourceSlice) (xs : List ResourceSlice) (ps : List PoolName) → AllByRecursion (λ p. is_of p x ≡ false) ps → parts ps (x ∷ xs) ≡ parts ps xs
of_none x xs [] h = refl
of_none x xs (p ∷ ps) h =
    ap (λ (n : ℕ). n + parts ps (x ∷ xs)) (part_out (is_of p x) x (filter (is_of p) xs) h.0)
    ∙ ap (λ (n : ℕ). part p xs + n) (of_none x xs ps h.1)

other : (b : Bool) (p q : PoolName) (x : ResourceSlice) → Before p q → is_of p x ≡ true → is_of q x ≡ b → b ≡ false
other false p q x less e f = refl
other true p q x less e f =
    let same : p ≡ q = pools_exact.same p (pool_named x) (is_equal (pool_cmp p (pool_named x)) e) ∙ sym (pools_exact.same q (pool_named x) (is_equal (pool_cmp q (pool_named x)) f)) in
    let wrong : Equal ≡ Less = sym (pools_exact.equal p) ∙ ap (λ (r : PoolName). pool_cmp p r) same ∙ less in
    absurd (cc)

more_in : (a s t u : ℕ) → u ≡ t → (a + s) + u ≤ a + (s + t)
more_in a s t u e = omega (arith, e)

more_out : (a s t u : ℕ) → u ≤ a + t → (0 + s) + u ≤ a + (s + t)
more_out a s t u h = omega (arith, h)

one_by : (b : Bool) (x : ResourceSlice) (xs : List ResourceSlice) (p : PoolName) (ps : List PoolName) → is_of p x ≡ b → AllByRecursion (λ q. Before p q) ps → parts ps (x ∷ xs) ≤ length x.devices + parts ps xs
    → (cond b (length x.devices) 0 + part p xs) + parts ps (x ∷ xs) ≤ length x.devices + (part p xs + parts ps xs)
one_by true x xs p ps e less h =
    more_in (length x.devices) (part p xs) (parts ps xs) (parts ps (x ∷ xs))
    (of_none x xs ps (all_imply (λ q. Before p q) (λ q. is_of q x ≡ false) ps (λ q before. other (is_of q x) p q x before e refl) less))
one_by false x xs p ps e less h = more_out (length x.devices) (part p xs) (parts ps xs) (parts ps (x ∷ xs)) h

of_one : (x : ResourceSlice) (xs : List ResourceSlice) (ps : List PoolName) → Pairwise Before ps → parts ps (x ∷ xs) ≤ length x.devices + parts ps xs
of_one x xs [] h = omega arith
of_one x xs (p ∷ ps) h =
    subst (λ (n : ℕ). n + parts ps (x ∷ xs) ≤ length x.devices + (part p xs + parts ps xs)) (sym (part_with (is_of p x) x (filter (is_of p) xs)))
    (one_by (is_of p x) x xs p ps refl h.0 (of_one x xs ps h.1))

parts_none : (ps : List PoolName) → parts ps [] ≡ 0
parts_none [] = refl
parts_none (p ∷ ps) = ap (λ (n : ℕ). 0 + n) (parts_none ps)

through : (a b c d : ℕ) → a ≤ d + b → b ≤ c → a ≤ d + c
through a b c d h g = omega (arith, h, g)

parts_within : (xs : List ResourceSlice) (ps : List PoolName) → Pairwise Before ps → parts ps xs ≤ sizes xs
parts_within [] ps h = omega (arith, parts_none ps)
parts_within (x ∷ xs) ps h = through (parts ps (x ∷ xs)) (parts ps xs) (sizes xs) (length x.devices) (of_one x xs ps h) (parts_within xs ps h)

-- ---- usable slices

less_by : (b : Bool) (x : ResourceSlice) (xs ys : List ResourceSlice) → sizes ys ≤ sizes xs → sizes (cond b (x ∷ ys) ys) ≤ length x.devices + sizes xs
less_by true x xs ys h = omega (arith, h)
less_by false x xs ys h = omega (arith, h)

filter_less : (t : ResourceSlice → Bool) (xs : List ResourceSlice) → sizes (filter t xs) ≤ sizes xs
filter_less t [] = omega arith
filter_less t (x ∷ xs) = less_by (t x) x xs (filter t xs) (filter_less t xs)

if_less : (b : Bool) (xs : List ResourceSlice) (n : ℕ) → sizes xs ≤ n → sizes (cond b xs []) ≤ n
if_less true xs n h = h
if_less false xs n h = omega arith

block_less : (all : Named ResourceSlice) (p : PoolName) → sizes (block all p) ≤ part p (objects all)
unfolding pool_of
block_less all p =
    if_less (is_usable (pool_of all p.driver p.pool)) (pool_of all p.driver p.pool) (part p (objects all))
    (subst (λ (xs : List ResourceSlice). sizes (pool_of all p.driver p.pool) ≤ sizes xs) (sym (of_pool p all)) (filter_less _ (slices_of p.driver p.pool all)))

assoc : (a b c : ℕ) → a + (b + c) ≡ (a + b) + c
assoc a b c = omega arith

sizes_append : (xs ys : List ResourceSlice) → sizes (xs ++ ys) ≡ sizes xs + sizes ys
sizes_append [] ys = zero_plus (sizes ys)
sizes_append (x ∷ xs) ys = ap (λ (n : ℕ). length x.devices + n) (sizes_append xs ys) ∙ assoc (length x.devices) (sizes xs) (sizes ys)

both_less : (s a b c d : ℕ) → s ≡ a + b → a ≤ c → b ≤ d → s ≤ c + d
both_less s a b c d e f g = omega (arith, e, f, g)

blocks_less : (all : Named ResourceSlice) (ps : List PoolName) → sizes (flat_map (block all) ps) ≤ parts ps (objects all)
blocks_less all [] = omega arith
blocks_less all (p ∷ ps) =
    both_less (sizes (flat_map (block all) (p ∷ ps))) (sizes (block all p)) (sizes (flat_map (block all) ps)) (part p (objects all)) (parts ps (objects all))
    (sizes_append (block all p) (flat_map (block all) ps)) (block_less all p) (blocks_less all ps)

counted_all : (all : Named ResourceSlice) → sizes (objects all) ≡ device_count all
counted_all [] = refl
counted_all (e ∷ es) = ap (λ (n : ℕ). length e.1.object.devices + n) (counted_all es)

sizes_are : (xs : List ResourceSlice) → sum_by (λ x. length x.devices) xs ≡ sizes xs
sizes_are [] = refl
sizes_are (x ∷ xs) = sum_by-cons (λ (y : ResourceSlice). length y.devices) x xs ∙ ap (λ (n : ℕ). length x.devices + n) (sizes_are xs)

usable_less : (i : Inventory) → sizes (usable_slices i) ≤ parts (pools i.slices) (objects i.slices)
unfolding usable_slices
usable_less i = blocks_less i.slices (pools i.slices)

last : (a b c d e m : ℕ) → a ≡ b → b ≤ c → c ≤ d → d ≡ e → e ≤ m → a ≤ m
last a b c d e m f g h k l = omega (arith, f, g, h, k, l)

pub usable_few : (i : Inventory) → device_count i.slices ≤ devices_most → sum_by (λ x. length x.devices) (usable_slices i) ≤ devices_most
usable_few i few =
    last (sum_by (λ x. length x.devices) (usable_slices i)) (sizes (usable_slices i)) (parts (pools i.slices) (objects i.slices)) (sizes (objects i.slices)) (device_count i.slices) devices_most
    (sizes_are (usable_slices i)) (usable_less i) (parts_within (objects i.slices) (pools i.slices) (pools_rise i.slices [] tt)) (counted_all i.slices) few
