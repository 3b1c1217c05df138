-- Which devices may be free after a pod's uses are taken away, or a claim is deleted.
use Rattle.std.proofs.Common.{ℕ, ◌≡◌, ◌≢◌, ◌⊎◌, ◌∙◌, inl, inr, ⊎_elim, List, [], ◌∷◌, Bool, true, false, true≢false, cond, eqb, ◌&&◌, ◌||◌, Option, None, Some, is_some, length, refl, sym, ap, arith, append-nil}
use Rattle.std.specs.List.{list_any}
use Rattle.std.specs.Map.{lookup, remove_entry, set_value}
use Rattle.std.specs.Option.{option_map_or}
use Rattle.std.specs.Ordering.{is_eq}
use Rattle.std.specs.BTreeMap.{is_at}
use Rattle.std.proofs.lemmas.Bool.{and_from, eqb-true}
use Rattle.std.proofs.lemmas.List.Folds.{list_any-append}
use Rattle.object_fields.specs.declared.key.DeviceId.{DeviceId}
use Rattle.object_fields.specs.declared.key.Key.{Key}
use Rattle.cluster.specs.declared.object.Target.{Target}
use Rattle.cluster.specs.declared.object.Target.TheVariants as target
use Rattle.cluster.specs.declared.state.ClaimState.{ClaimState}
use Rattle.cluster.specs.declared.state.Granted.{Granted}
use Rattle.cluster.specs.declared.state.PodState.{PodState}
use Rattle.cluster.specs.declared.state.State.{State}
use Rattle.cluster.specs.declared.state.Use.{Use}
use Rattle.cluster.specs.Claims.{claim_keys, first_places}
use Rattle.cluster.specs.Deleted.{without_object}
use Rattle.cluster.specs.Freed.{claims_by, freed, freed_by, grant_left, with_freed, without_user, without_uses}
use Rattle.cluster.specs.Held.{devices_held, held, held_by}
use Rattle.cluster.specs.Tables.{changed_at}
use Rattle.pool_view.specs.declared.names.PoolName.{PoolName}
use Rattle.pool_view.specs.Names.{at_key, device_eq, key_cmp, key_eq, text_eq}
use Rattle.request_rules.specs.Lists.{add_some}
use Rattle.allocations.specs.Growth.{KeepsBut, StaysHeld, is_among, is_in_pool}
use Rattle.allocations.specs.Lost.{devices_of, grant_at, lost_among, lost_at, lost_by, lost_of, lost_with}
use Rattle.allocations.proofs.GrowthHeld.{holds, same_keeps, set_kept}
use Rattle.allocations.proofs.HeldIds.{Claims, any_held}
use Rattle.allocations.proofs.Holding.{key_eq-same, skip_there}
use Rattle.allocations.proofs.Names.{same_from_device_eq, text_eq-same}

-- a device that is held, or lost
abbrev Kept : Claims → List DeviceId → DeviceId → Type 0
Kept claims lost d = (holds claims d ≡ true) ⊎ (is_among lost d ≡ true)

either : (a b : Bool) → (a || b) ≡ true → (a ≡ true) ⊎ (b ≡ true)
either true b e = inl refl
either false b e = inr e

false_from : (a : Bool) → (a ≡ true → ⊥) → a ≡ false
false_from true h = absurd (h refl)
false_from false h = refl

or_first : (a b : Bool) → a ≡ true → (a || b) ≡ true
or_first true b e = refl
or_first false b e = absurd (cc)

or_second : (a b : Bool) → b ≡ true → (a || b) ≡ true
or_second true b e = refl
or_second false b e = e

here_or_later : (d : DeviceId) (e : Key × ClaimState) (es : Claims) → holds (e ∷ es) d ≡ true → (is_among (held_by e.1.grant) d ≡ true) ⊎ (holds es d ≡ true)
here_or_later d e es h = either (is_among (held_by e.1.grant) d) (holds es d) (sym (any_held d e es) ∙ h)

held_first : (d : DeviceId) (e : Key × ClaimState) (es : Claims) → is_among (held_by e.1.grant) d ≡ true → holds (e ∷ es) d ≡ true
held_first d e es h = any_held d e es ∙ or_first (is_among (held_by e.1.grant) d) (holds es d) h

held_later : (d : DeviceId) (e : Key × ClaimState) (es : Claims) → holds es d ≡ true → holds (e ∷ es) d ≡ true
held_later d e es h = any_held d e es ∙ or_second (is_among (held_by e.1.grant) d) (holds es d) h

-- ---- a claim deleted

-- the devices of the grant of a claim
abbrev held_in : Option ClaimState → List DeviceId
held_in o = devices_of (add_some (grant_at o) [])

-- a device of the grant
granted_by : (g : Option Granted) (d : DeviceId) → is_among (held_by g) d ≡ true → is_among (devices_of (add_some g [])) d ≡ true
granted_by None d h = absurd (cc)
granted_by (Some g) d h = ap (λ (ds : List DeviceId). is_among ds d) (append-nil (devices_held g.results)) ∙ h

removed_by : (test : Key → Bool) (b : Bool) (e : Key × ClaimState) (es : Claims) (d : DeviceId) → test e.0 ≡ b → (holds es d ≡ true → Kept (remove_entry test es) (held_in (lookup test es)) d)
    → holds (e ∷ es) d ≡ true → Kept (cond b es (e ∷ remove_entry test es)) (held_in (cond b (Some e.1) (lookup test es))) d
removed_by test true e es d is later h = ⊎_elim (λ m. inr (granted_by e.1.grant d m)) (λ m. inl m) (here_or_later d e es h)
removed_by test false e es d is later h =
    ⊎_elim (λ m. inl (held_first d e (remove_entry test es) m))
    (λ m. ⊎_elim (λ n. inl (held_later d e (remove_entry test es) n)) (λ n. inr n) (later m)) (here_or_later d e es h)

removed : (test : Key → Bool) (es : Claims) (d : DeviceId) → holds es d ≡ true → Kept (remove_entry test es) (held_in (lookup test es)) d
removed test [] d h = absurd (cc)
removed test (e ∷ es) d h = removed_by test (test e.0) e es d refl (removed test es d) h

-- where the claims are the same
nothing_lost : (s t : State) (lost : List DeviceId) → t.claims ≡ s.claims → KeepsBut s t lost
nothing_lost s t lost e = record { each = λ d h. inl ((same_keeps s t e).each d h) }

pub object_lost : (t : Target) (s : State) → KeepsBut s (without_object t s) (devices_of (add_some (lost_of s t) []))
unfolding held
object_lost (target.Node name) s = nothing_lost s (without_object (target.Node name) s) [] refl
object_lost (target.Slice name) s = nothing_lost s (without_object (target.Slice name) s) [] refl
object_lost (target.Class name) s = nothing_lost s (without_object (target.Class name) s) [] refl
object_lost (target.Claim key) s = record { each = λ d h. removed (is_at (key_cmp key)) s.claims d h }
object_lost (target.Pod key) s = nothing_lost s (without_object (target.Pod key) s) [] refl

-- ---- a pod's uses taken away

users_by : (e f : Key × Use) (es : List (Key × Use)) (pod : Key) (b : Bool) (g : Option Granted) → grant_left (cond b (f ∷ es) (e ∷ remove_entry (is_at (key_cmp pod)) (f ∷ es))) g ≡ g
users_by e f es pod true g = refl
users_by e f es pod false g = refl

only_by : (e : Key × Use) (b : Bool) (u : Use) (g : Option Granted) → cond b (Some e.1) None ≡ Some u → grant_left (cond b [] (e ∷ [])) g ≡ None
only_by e true u g is = refl
only_by e false u g is = absurd (cc)

-- a claim loses its grant if the pod is its only user
users_left : (users : List (Key × Use)) (pod : Key) (u : Use) (g : Option Granted) → at_key users pod ≡ Some u → grant_left (without_user pod users) g ≡ cond (eqb (length users) 1) None g
users_left [] pod u g is = absurd (cc)
users_left (e ∷ []) pod u g is = only_by e (is_eq (key_cmp pod e.0)) u g is
users_left (e ∷ f ∷ es) pod u g is =
    let many : eqb (length (e ∷ f ∷ es)) 1 ≡ false = false_from (eqb (length (e ∷ f ∷ es)) 1) (λ t. let n = eqb-true (length (e ∷ f ∷ es)) 1 t in absurd (omega (arith, n))) in
    users_by e f es pod (is_eq (key_cmp pod e.0)) g ∙ ap (λ b. cond b None g) (sym many)

grant_by : (index : ℕ) (pod : Key) (c : ClaimState) (o : Option Use) → at_key c.users pod ≡ o → (freed_by index pod o c).grant ≡ cond (is_some o && eqb (length c.users) 1) None c.grant
grant_by index pod c None is = refl
grant_by index pod c (Some u) is = users_left c.users pod u c.grant is

left_or_lost : (b : Bool) (g left : Option Granted) (d : DeviceId) → left ≡ cond b None g → is_among (held_by g) d ≡ true
    → (is_among (held_by left) d ≡ true) ⊎ (is_among (devices_of (add_some (cond b g None) [])) d ≡ true)
left_or_lost true g left d e h = inr (granted_by g d h)
left_or_lost false g left d e h = inl (ap (λ (x : Option Granted). is_among (held_by x) d) e ∙ h)

use_left : (index : ℕ) (pod : Key) (c : ClaimState) (d : DeviceId) → is_among (held_by c.grant) d ≡ true
    → (is_among (held_by (freed index pod c).grant) d ≡ true) ⊎ (is_among (devices_of (add_some (lost_by pod c) [])) d ≡ true)
use_left index pod c d h =
    left_or_lost (is_some (at_key c.users pod) && eqb (length c.users) 1) c.grant (freed index pod c).grant d (grant_by index pod c (at_key c.users pod) refl) h

-- which of two holds: the claim holds the device, or it doesn't
set_or_lost : (index : ℕ) (pod k : Key) (es : Claims) (c : ClaimState) (d : DeviceId) (b : Bool) → at_key es k ≡ Some c → is_among (held_by c.grant) d ≡ b → holds es d ≡ true
    → Kept (set_value (is_at (key_cmp k)) es (freed index pod c)) (devices_of (add_some (lost_by pod c) [])) d
set_or_lost index pod k es c d true is m h =
    ⊎_elim (λ n. inl (set_kept (is_at (key_cmp k)) es c (freed index pod c) d is (λ _. n) h)) (λ n. inr n) (use_left index pod c d m)
set_or_lost index pod k es c d false is m h = inl (set_kept (is_at (key_cmp k)) es c (freed index pod c) d is (λ n. absurd (true≢false (sym n ∙ m))) h)

one_by : (index : ℕ) (pod k : Key) (es : Claims) (d : DeviceId) (o : Option ClaimState) → at_key es k ≡ o → holds es d ≡ true
    → Kept (option_map_or (λ c. set_value (is_at (key_cmp k)) es (freed index pod c)) o es) (devices_of (add_some (lost_at pod o) [])) d
one_by index pod k es d None is h = inl h
one_by index pod k es d (Some c) is h = set_or_lost index pod k es c d (is_among (held_by c.grant) d) is refl h

one_left : (index : ℕ) (pod k : Key) (es : Claims) (d : DeviceId) → holds es d ≡ true → Kept (changed_at k (freed index pod) es) (devices_of (add_some (lost_at pod (at_key es k)) [])) d
one_left index pod k es d h = one_by index pod k es d (at_key es k) refl h

-- ---- keys that differ

abbrev Away : Key → List Key → Type 0
Away k [] = Unit {0}
Away k (l ∷ ls) = (k ≢ l) × Away k ls

abbrev Differ : List Key → Type 0
Differ [] = Unit {0}
Differ (k ∷ ks) = Away k ks × Differ ks

away_if : (k l : Key) (seen ks : List Key) (b : Bool) → list_any (λ m. key_eq m l) seen ≡ b → list_any (λ m. key_eq m k) seen ≡ true → Away k (first_places seen ks) → Away k (first_places (l ∷ seen) ks)
    → Away k (cond b (first_places seen ks) (l ∷ first_places (l ∷ seen) ks))
away_if k l seen ks true is at here later = here
away_if k l seen ks false is at here later = ((λ (e : k ≡ l). true≢false (sym at ∙ ap (λ (x : Key). list_any (λ m. key_eq m x) seen) e ∙ is)), later)

away_seen : (k : Key) (ks seen : List Key) → list_any (λ m. key_eq m k) seen ≡ true → Away k (first_places seen ks)
away_seen k [] seen at = tt
away_seen k (l ∷ ks) seen at =
    away_if k l seen ks (list_any (λ m. key_eq m l) seen) refl at (away_seen k ks seen at) (away_seen k ks (l ∷ seen) (or_second (key_eq l k) (list_any (λ m. key_eq m k) seen) at))

differ_if : (l : Key) (seen ks : List Key) (b : Bool) → Differ (first_places seen ks) → Differ (first_places (l ∷ seen) ks) → Differ (cond b (first_places seen ks) (l ∷ first_places (l ∷ seen) ks))
differ_if l seen ks true here later = here
differ_if l seen ks false here later = (away_seen l ks (l ∷ seen) (ap (λ b. b || list_any (λ m. key_eq m l) seen) (key_eq-same l)), later)

first_differ : (ks seen : List Key) → Differ (first_places seen ks)
first_differ [] seen = tt
first_differ (l ∷ ks) seen = differ_if l seen ks (list_any (λ m. key_eq m l) seen) (first_differ ks seen) (first_differ ks (l ∷ seen))

pod_differ : (o : Option PodState) → Differ (claims_by o)
pod_differ None = tt
pod_differ (Some p) = first_differ (claim_keys p.pod.object) []

-- ---- all of them

other_by : (k l : Key) (f : ClaimState → ClaimState) (es : Claims) (o : Option ClaimState) → k ≢ l → at_key es k ≡ o → at_key (option_map_or (λ c. set_value (is_at (key_cmp k)) es (f c)) o es) l ≡ at_key es l
other_by k l f es None n is = refl
other_by k l f es (Some c) n is = skip_there es k l (f c) n

-- what the other claims lose is what they would have lost
lost_same : (pod k : Key) (f : ClaimState → ClaimState) (es : Claims) (ks : List Key) → Away k ks → lost_among pod (changed_at k f es) ks ≡ lost_among pod es ks
lost_same pod k f es [] away = refl
lost_same pod k f es (l ∷ ls) away =
    ap (λ (o : Option ClaimState). add_some (lost_at pod o) (lost_among pod (changed_at k f es) ls)) (other_by k l f es (at_key es k) away.0 refl)
    ∙ ap (λ (gs : List Granted). add_some (lost_at pod (at_key es l)) gs) (lost_same pod k f es ls away.1)

-- a device of the first grant, or of those after it
among_first : (o : Option Granted) (gs : List Granted) (d : DeviceId) → is_among (devices_of (add_some o [])) d ≡ true → is_among (devices_of (add_some o gs)) d ≡ true
among_first None gs d h = absurd (cc)
among_first (Some g) gs d h =
    let here : is_among (devices_held g.results) d ≡ true = ap (λ (ds : List DeviceId). is_among ds d) (sym (append-nil (devices_held g.results))) ∙ h in
    list_any-append (λ e. device_eq e d) (devices_held g.results) (devices_of gs) ∙ or_first (is_among (devices_held g.results) d) (is_among (devices_of gs) d) here

among_later : (o : Option Granted) (gs : List Granted) (d : DeviceId) → is_among (devices_of gs) d ≡ true → is_among (devices_of (add_some o gs)) d ≡ true
among_later None gs d h = h
among_later (Some g) gs d h = list_any-append (λ e. device_eq e d) (devices_held g.results) (devices_of gs) ∙ or_second (is_among (devices_held g.results) d) (is_among (devices_of gs) d) h

all_left : (index : ℕ) (pod : Key) (ks : List Key) (es : Claims) (d : DeviceId) → Differ ks → holds es d ≡ true → Kept (with_freed index pod ks es) (devices_of (lost_among pod es ks)) d
all_left index pod [] es d differ h = inl h
all_left index pod (k ∷ ks) es d differ h =
    let more : Claims = changed_at k (freed index pod) es in
    let here = lost_at pod (at_key es k) in
    ⊎_elim
    (λ (m : holds more d ≡ true). ⊎_elim (λ n. inl n)
    (λ (n : is_among (devices_of (lost_among pod more ks)) d ≡ true).
    inr (among_later here (lost_among pod es ks) d (ap (λ (gs : List Granted). is_among (devices_of gs) d) (sym (lost_same pod k (freed index pod) es ks differ.0)) ∙ n)))
    (all_left index pod ks more d differ.1 m))
    (λ (m : is_among (devices_of (add_some here [])) d ≡ true). inr (among_first here (lost_among pod es ks) d m))
    (one_left index pod k es d h)

pub uses_lost : (index : ℕ) (pod : Key) (s : State) → KeepsBut s (without_uses index pod s) (devices_of (lost_with s pod))
unfolding held
uses_lost index pod s = record { each = λ d h. all_left index pod (claims_by (at_key s.pods pod)) s.claims d (pod_differ (at_key s.pods pod)) h }

-- ---- pools

in_pool : (pool : PoolName) (d : DeviceId) → d.driver ≡ pool.driver → d.pool ≡ pool.pool → is_in_pool pool d ≡ true
in_pool pool d e f =
    and_from (text_eq d.driver pool.driver) (text_eq d.pool pool.pool)
    (ap (λ (n : List ℕ). text_eq d.driver n) (sym e) ∙ text_eq-same d.driver) (ap (λ (n : List ℕ). text_eq d.pool n) (sym f) ∙ text_eq-same d.pool)

-- a device of the pool among these makes one of them a device of the pool
any_in : (pool : PoolName) (lost : List DeviceId) (d : DeviceId) → is_in_pool pool d ≡ true → is_among lost d ≡ true → list_any (is_in_pool pool) lost ≡ true
any_in pool [] d p h = absurd (cc)
any_in pool (x ∷ xs) d p h =
    ⊎_elim
    (λ (e : device_eq x d ≡ true). or_first (is_in_pool pool x) (list_any (is_in_pool pool) xs) (ap (is_in_pool pool) (same_from_device_eq x d e) ∙ p))
    (λ (e : is_among xs d ≡ true). or_second (is_in_pool pool x) (list_any (is_in_pool pool) xs) (any_in pool xs d p e))
    (either (device_eq x d) (is_among xs d) h)

pub pool_stays : (s t : State) (lost : List DeviceId) (pool : PoolName) → KeepsBut s t lost → list_any (is_in_pool pool) lost ≡ false → StaysHeld s t pool
pool_stays s t lost pool keeps none = record {
  each = λ d e f h. ⊎_elim (λ m. m) (λ (m : is_among lost d ≡ true). absurd (true≢false (sym (any_in pool lost d (in_pool pool d e f) m) ∙ none))) (keeps.each d h);
}
