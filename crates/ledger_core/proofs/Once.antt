-- Lists of devices with their claims, in which no device comes twice.
use Rattle.std.proofs.Common.{ℕ, suc, ◌<◌, ◌≡◌, ◌≢◌, ◌∙◌, List, [], ◌∷◌, ◌++◌, Bool, true, false, cond, ◌||◌, Option, None, Some, map, refl, sym, ap, arith}
use Rattle.std.specs.List.{list_any, slice_get}
use Rattle.std.specs.Map.{lookup}
use Rattle.object_fields.specs.declared.key.DeviceId.{DeviceId}
use Rattle.object_fields.specs.declared.key.Key.{Key}
use Rattle.pool_view.specs.Names.{device_eq}
use Rattle.cluster.specs.declared.state.State.{State}
use Rattle.cluster.specs.Held.{HeldOnce, held}
use Rattle.ledger_core.proofs.SameNames.{device_same}

abbrev pub Pairs : Type 0
Pairs = List (DeviceId × Key)

-- the first claim that has the device
abbrev pub looked : DeviceId → Pairs → Option Key
looked id ps = lookup (λ d. device_eq d id) ps

-- each of the devices with the claim
abbrev pub with_key : Key → List DeviceId → Pairs
with_key k ds = map (λ d. (d, k)) ds

abbrev pub is_among : DeviceId → List DeviceId → Bool
is_among id ds = list_any (λ d. device_eq d id) ds

abbrev pub first : Option Key → Option Key → Option Key
first None o = o
first (Some k) o = Some k

-- none has the device of one before it
abbrev pub Once : Pairs → Type 0
Once [] = Unit {0}
Once (p ∷ ps) = (looked p.0 ps ≡ None) × Once ps

looked_by : (b : Bool) (k : Key) (o more : Option Key) → cond b (Some k) (first o more) ≡ first (cond b (Some k) o) more
looked_by true k o more = refl
looked_by false k o more = refl

pub looked_append : (id : DeviceId) (xs ys : Pairs) → looked id (xs ++ ys) ≡ first (looked id xs) (looked id ys)
looked_append id [] ys = refl
looked_append id (p ∷ xs) ys = ap (λ o. cond (device_eq p.0 id) (Some p.1) o) (looked_append id xs ys) ∙ looked_by (device_eq p.0 id) p.1 (looked id xs) (looked id ys)

with_by : (b c : Bool) (k : Key) → cond b (Some k) (cond c (Some k) None) ≡ cond (b || c) (Some k) None
with_by true c k = refl
with_by false c k = refl

pub looked_with : (id : DeviceId) (k : Key) (ds : List DeviceId) → looked id (with_key k ds) ≡ cond (is_among id ds) (Some k) None
looked_with id k [] = refl
looked_with id k (d ∷ ds) = ap (λ o. cond (device_eq d id) (Some k) o) (looked_with id k ds) ∙ with_by (device_eq d id) (is_among id ds) k

-- ---- where one device is

none_prefix : (a b : Option Key) → first a b ≡ None → a ≡ None
none_prefix None b e = refl
none_prefix (Some k) b e = absurd (cc)

none_back : (a b : Option Key) → first a b ≡ None → b ≡ None
none_back None b e = e
none_back (Some k) b e = absurd (cc)

none_join : (a b : Option Key) → a ≡ None → b ≡ None → first a b ≡ None
none_join a b e f = ap (λ o. first o b) e ∙ f

-- what isn't among xs and ys isn't among xs, nor among ys
pub absent_prefix : (id : DeviceId) (xs ys : Pairs) → looked id (xs ++ ys) ≡ None → looked id xs ≡ None
absent_prefix id xs ys e = none_prefix (looked id xs) (looked id ys) (sym (looked_append id xs ys) ∙ e)

pub absent_back : (id : DeviceId) (xs ys : Pairs) → looked id (xs ++ ys) ≡ None → looked id ys ≡ None
absent_back id xs ys e = none_back (looked id xs) (looked id ys) (sym (looked_append id xs ys) ∙ e)

absent_join : (id : DeviceId) (xs ys : Pairs) → looked id xs ≡ None → looked id ys ≡ None → looked id (xs ++ ys) ≡ None
absent_join id xs ys e f = looked_append id xs ys ∙ none_join (looked id xs) (looked id ys) e f

pub once_rest : (xs ys : Pairs) → Once (xs ++ ys) → Once ys
once_rest [] ys o = o
once_rest (p ∷ xs) ys o = once_rest xs ys o.1

prefix_by : (id : DeviceId) (p : DeviceId × Key) (xs ys : Pairs) (k : Key) (b : Bool) → device_eq p.0 id ≡ b → looked p.0 (xs ++ ys) ≡ None → looked id ys ≡ Some k → looked id xs ≡ None
    → looked id (p ∷ xs) ≡ None
prefix_by id p xs ys k true same none is later =
    let e : looked id ys ≡ None = absent_back id xs ys (ap (λ (d : DeviceId). looked d (xs ++ ys)) (sym (device_same p.0 id same)) ∙ none) in
    absurd (cc)
prefix_by id p xs ys k false same none is later = ap (λ b. cond b (Some p.1) (looked id xs)) same ∙ later

-- a device that is in the second list isn't in the first
pub once_prefix : (id : DeviceId) (xs ys : Pairs) (k : Key) → Once (xs ++ ys) → looked id ys ≡ Some k → looked id xs ≡ None
once_prefix id [] ys k o is = refl
once_prefix id (p ∷ xs) ys k o is = prefix_by id p xs ys k (device_eq p.0 id) refl o.0 is (once_prefix id xs ys k o.1 is)

back_by : (id : DeviceId) (p : DeviceId × Key) (xs ys : Pairs) (k : Key) (b : Bool) → device_eq p.0 id ≡ b → looked p.0 (xs ++ ys) ≡ None → cond b (Some p.1) (looked id xs) ≡ Some k
    → (looked id xs ≡ Some k → looked id ys ≡ None) → looked id ys ≡ None
back_by id p xs ys k true same none is later = absent_back id xs ys (ap (λ (d : DeviceId). looked d (xs ++ ys)) (sym (device_same p.0 id same)) ∙ none)
back_by id p xs ys k false same none is later = later is

-- one that is in the first isn't in the second
pub once_back : (id : DeviceId) (xs ys : Pairs) (k : Key) → Once (xs ++ ys) → looked id xs ≡ Some k → looked id ys ≡ None
once_back id [] ys k o is = absurd (cc)
once_back id (p ∷ xs) ys k o is = back_by id p xs ys k (device_eq p.0 id) refl o.0 is (λ e. once_back id xs ys k o.1 e)

-- what comes between may be left out
pub once_without : (xs ms ys : Pairs) → Once (xs ++ (ms ++ ys)) → Once (xs ++ ys)
once_without [] ms ys o = once_rest ms ys o
once_without (p ∷ xs) ms ys o = (
  absent_join p.0 xs ys (absent_prefix p.0 xs (ms ++ ys) o.0) (absent_back p.0 ms ys (absent_back p.0 xs (ms ++ ys) o.0)),
  once_without xs ms ys o.1,
)

-- ---- the devices of one claim, among others

abbrev pub among_others : Pairs → Key → List DeviceId → Pairs → Pairs
among_others xs k ds ys = xs ++ (with_key k ds ++ ys)

in_by : (id : DeviceId) (xs : Pairs) (k : Key) (ds : List DeviceId) (ys : Pairs) (b : Bool) → is_among id ds ≡ b → Once (among_others xs k ds ys)
    → looked id (among_others xs k ds ys) ≡ cond b (Some k) (looked id (xs ++ ys))
in_by id xs k ds ys true is o =
    let mid : looked id (with_key k ds ++ ys) ≡ Some k = looked_append id (with_key k ds) ys ∙ ap (λ a. first a (looked id ys)) (looked_with id k ds ∙ ap (λ b. cond b (Some k) None) is) in
    looked_append id xs (with_key k ds ++ ys) ∙ ap (λ a. first a (looked id (with_key k ds ++ ys))) (once_prefix id xs (with_key k ds ++ ys) k o mid) ∙ mid
in_by id xs k ds ys false is o =
    let mid : looked id (with_key k ds ++ ys) ≡ looked id ys = looked_append id (with_key k ds) ys ∙ ap (λ a. first a (looked id ys)) (looked_with id k ds ∙ ap (λ b. cond b (Some k) None) is) in
    looked_append id xs (with_key k ds ++ ys) ∙ ap (λ o. first (looked id xs) o) mid ∙ sym (looked_append id xs ys)

-- with them the claim has them
pub looked_in : (id : DeviceId) (xs : Pairs) (k : Key) (ds : List DeviceId) (ys : Pairs) → Once (among_others xs k ds ys)
    → looked id (among_others xs k ds ys) ≡ cond (is_among id ds) (Some k) (looked id (xs ++ ys))
looked_in id xs k ds ys o = in_by id xs k ds ys (is_among id ds) refl o

out_by : (id : DeviceId) (xs : Pairs) (k : Key) (ds : List DeviceId) (ys : Pairs) (b : Bool) → is_among id ds ≡ b → Once (among_others xs k ds ys)
    → looked id (xs ++ ys) ≡ cond b None (looked id (among_others xs k ds ys))
out_by id xs k ds ys true is o =
    let mine : looked id (with_key k ds) ≡ Some k = looked_with id k ds ∙ ap (λ b. cond b (Some k) None) is in
    let mid : looked id (with_key k ds ++ ys) ≡ Some k = looked_append id (with_key k ds) ys ∙ ap (λ a. first a (looked id ys)) mine in
    absent_join id xs ys (once_prefix id xs (with_key k ds ++ ys) k o mid) (once_back id (with_key k ds) ys k (once_rest xs (with_key k ds ++ ys) o) mine)
out_by id xs k ds ys false is o = sym (looked_in id xs k ds ys o ∙ ap (λ b. cond b (Some k) (looked id (xs ++ ys))) is)

-- without them nobody has them
pub looked_out : (id : DeviceId) (xs : Pairs) (k : Key) (ds : List DeviceId) (ys : Pairs) → Once (among_others xs k ds ys)
    → looked id (xs ++ ys) ≡ cond (is_among id ds) None (looked id (among_others xs k ds ys))
looked_out id xs k ds ys o = out_by id xs k ds ys (is_among id ds) refl o

-- ---- of a state

-- a device that is there is at an index
record Standing (id : DeviceId) (ps : Pairs) : Type 0 where
  at : ℕ
  pair : DeviceId × Key
  is_there : slice_get ps at ≡ Some pair
  device : pair.0 ≡ id

standing_by : (id : DeviceId) (p : DeviceId × Key) (ps : Pairs) (k : Key) (b : Bool) → device_eq p.0 id ≡ b → cond b (Some p.1) (looked id ps) ≡ Some k → (looked id ps ≡ Some k → Standing id ps)
    → Standing id (p ∷ ps)
standing_by id p ps k true same is later = record { at = 0; pair = p; is_there = refl; device = device_same p.0 id same }
standing_by id p ps k false same is later = let s = later is in record { at = suc s.at; pair = s.pair; is_there = s.is_there; device = s.device }

standing : (id : DeviceId) (ps : Pairs) (k : Key) → looked id ps ≡ Some k → Standing id ps
standing id [] k is = absurd (cc)
standing id (p ∷ ps) k is = standing_by id p ps k (device_eq p.0 id) refl is (λ e. standing id ps k e)

abbrev Apart : Pairs → Type 0
Apart ps = (i j : ℕ) (p q : DeviceId × Key) → i < j → slice_get ps i ≡ Some p → slice_get ps j ≡ Some q → p.0 ≢ q.0

absent_by : (p : DeviceId × Key) (ps : Pairs) (o : Option Key) → looked p.0 ps ≡ o → Apart (p ∷ ps) → o ≡ None
absent_by p ps None is apart = refl
absent_by p ps (Some k) is apart =
    let s = standing p.0 ps k is in
    absurd (apart 0 (suc s.at) p s.pair (omega arith) refl s.is_there (sym s.device))

once_of_apart : (ps : Pairs) → Apart ps → Once ps
once_of_apart [] apart = tt
once_of_apart (p ∷ ps) apart = (absent_by p ps (looked p.0 ps) refl apart, once_of_apart ps (λ i j x y lt e f. apart (suc i) (suc j) x y (omega (arith, lt)) e f))

pub once_held : (s : State) → HeldOnce s → Once (held s)
once_held s h = once_of_apart (held s) h.apart
