-- Changes after which all devices that were held are held.
use Rattle.std.proofs.Common.{ℕ, ◌≡◌, ◌∙◌, List, [], ◌∷◌, Bool, true, false, cond, ◌||◌, Option, None, Some, refl, sym, ap, subst}
use Rattle.std.specs.List.{list_any}
use Rattle.std.specs.Map.{lookup, set_value}
use Rattle.std.specs.Option.{option_map, option_map_or}
use Rattle.std.specs.Ordering.{is_eq, match_ordering}
use Rattle.std.specs.BTreeMap.{insert_entry, is_at}
use Rattle.std.specs.declared.cmp.Ordering.{Ordering}
use Rattle.std.specs.declared.cmp.Ordering.TheVariants.{Less, Equal, Greater}
use Rattle.object_fields.specs.declared.key.DeviceId.{DeviceId}
use Rattle.object_fields.specs.declared.key.Key.{Key}
use Rattle.api_claim.specs.declared.types.ClaimStatus.{ClaimStatus}
use Rattle.api_claim.specs.declared.types.ResourceClaim.{ResourceClaim}
use Rattle.api_cluster.specs.declared.types.Pod.{Pod}
use Rattle.cluster.specs.declared.object.Object.{Object}
use Rattle.cluster.specs.declared.object.Object.TheVariants as object
use Rattle.cluster.specs.declared.plan.Grant.{Grant}
use Rattle.cluster.specs.declared.plan.Plan.{Plan}
use Rattle.cluster.specs.declared.state.ClaimState.{ClaimState}
use Rattle.cluster.specs.declared.state.Granted.{Granted}
use Rattle.cluster.specs.declared.state.State.{State}
use Rattle.cluster.specs.Adopted.{adopted_by, with_adopted}
use Rattle.cluster.specs.Applied.{new_claim, updated_claim, with_object}
use Rattle.cluster.specs.Bound.{with_bound}
use Rattle.cluster.specs.Claims.{claim_keys, first_places}
use Rattle.cluster.specs.Held.{held, held_by}
use Rattle.cluster.specs.Reserved.{joined_by, with_grant, with_grants, with_joins, with_reserved}
use Rattle.cluster.specs.Tables.{changed_at, put_at}
use Rattle.cluster.specs.Wrote.{as_published, with_written, written_by}
use Rattle.pool_view.specs.Names.{at_key, device_eq, key_cmp}
use Rattle.allocations.specs.Allocation.{IsAllocation}
use Rattle.allocations.specs.Claims.{wanted, wanted_of}
use Rattle.allocations.specs.Growth.{KeepsHeld, is_among}
use Rattle.allocations.specs.Input.{grants_by, input_of}
use Rattle.request_rules.specs.Grants.{grants_of}
use Rattle.allocations.proofs.HeldIds.{Claims, any_held, pairs_in}
use Rattle.allocations.proofs.Holding.{EachOpen, OfDifferent, apart_wanted, cuts_differ, cuts_open, each_kept, each_wanted, granted, grant_sets, some_claim}

-- ---- the devices that a table of claims holds

-- a claim of the table holds the device
abbrev pub holds : Claims → DeviceId → Bool
holds claims d = list_any (λ h. device_eq h.0 d) (pairs_in claims)

either_kept : (a b p q : Bool) → (a ≡ true → b ≡ true) → (p ≡ true → q ≡ true) → (a || p) ≡ true → (b || q) ≡ true
either_kept true b p q f g e = ap (λ (t : Bool). t || q) (f refl)
either_kept false true p q f g e = refl
either_kept false false p q f g e = g e

or_second : (a b : Bool) → b ≡ true → (a || b) ≡ true
or_second true b e = refl
or_second false b e = e

-- a table in which the first claim holds no less, and those after it neither
first_kept : (d : DeviceId) (e f : Key × ClaimState) (es fs : Claims) → (is_among (held_by e.1.grant) d ≡ true → is_among (held_by f.1.grant) d ≡ true) → (holds es d ≡ true → holds fs d ≡ true)
    → holds (e ∷ es) d ≡ true → holds (f ∷ fs) d ≡ true
first_kept d e f es fs one rest h =
    any_held d f fs
    ∙ either_kept (is_among (held_by e.1.grant) d) (is_among (held_by f.1.grant) d) (holds es d) (holds fs d) one rest (sym (any_held d e es) ∙ h)

set_by : (test : Key → Bool) (b : Bool) (e : Key × ClaimState) (es : Claims) (v w : ClaimState) (d : DeviceId) → test e.0 ≡ b → lookup test (e ∷ es) ≡ Some v → (is_among (held_by v.grant) d ≡ true → is_among (held_by w.grant) d ≡ true)
    → (lookup test es ≡ Some v → holds es d ≡ true → holds (set_value test es w) d ≡ true) → holds (e ∷ es) d ≡ true → holds (set_value test (e ∷ es) w) d ≡ true
set_by test true e es v w d is there more later h =
    let is_v : e.1 ≡ v = some_claim e.1 v (sym (ap (λ b. cond b (Some e.1) (lookup test es)) is) ∙ there) in
    ap (λ b. holds (cond b ((e.0, w) ∷ es) (e ∷ set_value test es w)) d) is
    ∙ first_kept d e (e.0, w) es es (λ m. more (sym (ap (λ (c : ClaimState). is_among (held_by c.grant) d) is_v) ∙ m)) (λ m. m) h
set_by test false e es v w d is there more later h =
    let g : lookup test es ≡ Some v = sym (ap (λ b. cond b (Some e.1) (lookup test es)) is) ∙ there in
    ap (λ b. holds (cond b ((e.0, w) ∷ es) (e ∷ set_value test es w)) d) is
    ∙ first_kept d e e es (set_value test es w) (λ m. m) (later g) h

-- a claim that holds no less
pub set_kept : (test : Key → Bool) (es : Claims) (v w : ClaimState) (d : DeviceId) → lookup test es ≡ Some v → (is_among (held_by v.grant) d ≡ true → is_among (held_by w.grant) d ≡ true)
    → holds es d ≡ true → holds (set_value test es w) d ≡ true
set_kept test [] v w d there more h = absurd (cc)
set_kept test (e ∷ es) v w d there more h = set_by test (test e.0) e es v w d refl there more (λ g. set_kept test es v w d g more) h

changed_by : (k : Key) (f : ClaimState → ClaimState) (es : Claims) (d : DeviceId) (o : Option ClaimState) → at_key es k ≡ o
    → ((v : ClaimState) → at_key es k ≡ Some v → is_among (held_by v.grant) d ≡ true → is_among (held_by (f v).grant) d ≡ true)
    → holds es d ≡ true → holds (option_map_or (λ v. set_value (is_at (key_cmp k)) es (f v)) o es) d ≡ true
changed_by k f es d None is more h = h
changed_by k f es d (Some v) is more h = set_kept (is_at (key_cmp k)) es v (f v) d is (more v is) h

-- a claim changed to one that holds no less
pub changed_kept : (k : Key) (f : ClaimState → ClaimState) (es : Claims) (d : DeviceId) → ((v : ClaimState) → at_key es k ≡ Some v → is_among (held_by v.grant) d ≡ true → is_among (held_by (f v).grant) d ≡ true)
    → holds es d ≡ true → holds (changed_at k f es) d ≡ true
changed_kept k f es d more h = changed_by k f es d (at_key es k) refl more h

inserted_by : (o : Ordering) (e : Key × ClaimState) (es : Claims) (k : Key) (w : ClaimState) (d : DeviceId) → key_cmp k e.0 ≡ o → lookup (is_at (key_cmp k)) (e ∷ es) ≡ None
    → (lookup (is_at (key_cmp k)) es ≡ None → holds es d ≡ true → holds (insert_entry key_cmp es k w) d ≡ true) → holds (e ∷ es) d ≡ true → holds (insert_entry key_cmp (e ∷ es) k w) d ≡ true
inserted_by Less e es k w d is none later h =
    ap (λ o. holds (match_ordering o ((k, w) ∷ e ∷ es) ((e.0, w) ∷ es) (e ∷ insert_entry key_cmp es k w)) d) is
    ∙ any_held d (k, w) (e ∷ es) ∙ or_second (is_among (held_by w.grant) d) (holds (e ∷ es) d) h
inserted_by Equal e es k w d is none later h =
    let f : Some e.1 ≡ None = sym (ap (λ o. cond (is_eq o) (Some e.1) (lookup (is_at (key_cmp k)) es)) is) ∙ none in
    absurd (cc)
inserted_by Greater e es k w d is none later h =
    let g : lookup (is_at (key_cmp k)) es ≡ None = sym (ap (λ o. cond (is_eq o) (Some e.1) (lookup (is_at (key_cmp k)) es)) is) ∙ none in
    ap (λ o. holds (match_ordering o ((k, w) ∷ e ∷ es) ((e.0, w) ∷ es) (e ∷ insert_entry key_cmp es k w)) d) is
    ∙ first_kept d e e es (insert_entry key_cmp es k w) (λ m. m) (later g) h

-- a new claim
inserted_kept : (es : Claims) (k : Key) (w : ClaimState) (d : DeviceId) → lookup (is_at (key_cmp k)) es ≡ None → holds es d ≡ true → holds (insert_entry key_cmp es k w) d ≡ true
inserted_kept [] k w d none h = absurd (cc)
inserted_kept (e ∷ es) k w d none h = inserted_by (key_cmp k e.0) e es k w d refl none (λ g. inserted_kept es k w d g) h

-- ---- each change

pub same_keeps : (s t : State) → t.claims ≡ s.claims → KeepsHeld s t
unfolding held
same_keeps s t e = record { each = λ d h. ap (λ (es : Claims). holds es d) e ∙ h }

pub claims_keep : (s t : State) → ((d : DeviceId) → holds s.claims d ≡ true → holds t.claims d ≡ true) → KeepsHeld s t
unfolding held
claims_keep s t f = record { each = f }

put_kept : (index : ℕ) (x : ResourceClaim) (es : Claims) (d : DeviceId) (o : Option ClaimState) → at_key es x.key ≡ o → holds es d ≡ true → holds (put_at x.key (new_claim index x) (updated_claim index x) es o) d ≡ true
put_kept index x es d None is h = inserted_kept es x.key (new_claim index x) d is h
put_kept index x es d (Some v) is h = set_kept (is_at (key_cmp x.key)) es v (updated_claim index x v) d is (λ m. m) h

pub applied_keeps : (index : ℕ) (o : Object) (s : State) → KeepsHeld s (with_object index o s)
applied_keeps index (object.Node x) s = same_keeps s (with_object index (object.Node x) s) refl
applied_keeps index (object.Slice x) s = same_keeps s (with_object index (object.Slice x) s) refl
applied_keeps index (object.Class x) s = same_keeps s (with_object index (object.Class x) s) refl
applied_keeps index (object.Claim x) s = claims_keep s (with_object index (object.Claim x) s) (λ d h. put_kept index x s.claims d (at_key s.claims x.key) refl h)
applied_keeps index (object.Pod x) s = same_keeps s (with_object index (object.Pod x) s) refl

published_more : (g : Option Granted) (d : DeviceId) → is_among (held_by g) d ≡ true → is_among (held_by (option_map as_published g)) d ≡ true
published_more None d h = h
published_more (Some g) d h = h

pub written_keeps : (index : ℕ) (pod claim : Key) (s : State) → KeepsHeld s (with_written index pod claim s)
written_keeps index pod claim s = claims_keep s (with_written index pod claim s) (λ d h. changed_kept claim (written_by index pod) s.claims d (λ v is m. published_more v.grant d m) h)

pub bound_keeps : (pod : Key) (node : List ℕ) (s : State) → KeepsHeld s (with_bound pod node s)
bound_keeps pod node s = same_keeps s (with_bound pod node s) refl

-- a claim without a grant holds nothing
nothing_held : (g : Option Granted) (d : DeviceId) (P : Type 0) → g ≡ None → is_among (held_by g) d ≡ true → P
nothing_held None d P e h = absurd (cc)
nothing_held (Some g) d P e h = absurd (cc)

pub adopted_keeps : (index : ℕ) (claim : Key) (status : ClaimStatus) (s : State) (c : ClaimState) → at_key s.claims claim ≡ Some c → c.grant ≡ None → KeepsHeld s (with_adopted index claim status s)
adopted_keeps index claim status s c is none =
    claims_keep s (with_adopted index claim status s) (λ d h. changed_kept claim (adopted_by index status) s.claims d
    (λ v there m. nothing_held v.grant d (is_among (held_by (adopted_by index status v).grant) d ≡ true) (ap (λ (x : ClaimState). x.grant) (some_claim v c (sym there ∙ is)) ∙ none) m) h)

joins_kept : (pod : Key) (ks : List Key) (es : Claims) (d : DeviceId) → holds es d ≡ true → holds (with_joins pod ks es) d ≡ true
joins_kept pod [] es d h = h
joins_kept pod (k ∷ ks) es d h = joins_kept pod ks (changed_at k (joined_by pod) es) d (changed_kept k (joined_by pod) es d (λ v is m. m) h)

grants_kept : (node : List ℕ) (pod : Key) (gs : List Grant) (es : Claims) (d : DeviceId) → EachOpen es gs → OfDifferent gs → holds es d ≡ true → holds (with_grants node pod gs es) d ≡ true
grants_kept node pod [] es d each keys h = h
grants_kept node pod (g ∷ gs) es d each keys h =
    let w : ClaimState = granted node pod g.results each.0.claim in
    let set : holds (set_value (is_at (key_cmp g.claim)) es w) d ≡ true =
    set_kept (is_at (key_cmp g.claim)) es each.0.claim w d each.0.is_there (λ m. nothing_held each.0.claim.grant d (is_among (held_by w.grant) d ≡ true) each.0.none m) h in
    grants_kept node pod gs (with_grant node pod g.claim g.results es) d (each_kept node pod g.claim g.results es each.0 gs keys.0 each.1) keys.1
    (ap (λ (xs : Claims). holds xs d) (grant_sets node pod g.claim g.results es each.0) ∙ set)

pub reserved_keeps : (s : State) (job : ℕ) (pod : Key) (p : Pod) (plan : Plan) (choice : List ℕ) → IsAllocation s (wanted s p) plan.node choice plan.grants → KeepsHeld s (with_reserved job pod plan s)
unfolding wanted grants_by grants_of input_of
reserved_keeps s job pod p plan choice a =
    let ks = first_places [] (claim_keys p) in
    let cs = wanted_of s ks in
    let each : EachOpen s.claims plan.grants = subst (λ (gs : List Grant). EachOpen s.claims gs) (sym a.cut) (cuts_open s.claims 0 cs a.results (each_wanted s ks)) in
    let keys : OfDifferent plan.grants = subst (λ (gs : List Grant). OfDifferent gs) (sym a.cut) (cuts_differ 0 cs a.results (apart_wanted s (claim_keys p) [])) in
    claims_keep s (with_reserved job pod plan s) (λ d h. joins_kept pod plan.joins (with_grants plan.node pod plan.grants s.claims) d (grants_kept plan.node pod plan.grants s.claims d each keys h))
