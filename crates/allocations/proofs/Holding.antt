-- What each change leaves of the devices that claims hold.
use Rattle.std.proofs.Common.{ℕ, zero, suc, ◌+◌, ◌<◌, ◌≤◌, eqb, ◌≡◌, ◌≢◌, ◌∙◌, ◌⊎◌, inl, inr, ⊎_elim, get_or, List, [], ◌∷◌, ◌++◌, Bool, true, false, true≢false, cond, ◌||◌, Option, None, Some, map, length, refl, sym, ap, subst, arith}
use Rattle.std.specs.List.{Contains, flat_map, slice_get}
use Rattle.std.specs.Map.{lookup, set_value}
use Rattle.std.specs.Option.{option_map_or}
use Rattle.std.specs.Ordering.{is_eq, match_ordering, ordering_then}
use Rattle.std.specs.BTreeMap.{insert_entry, is_at}
use Rattle.std.specs.declared.cmp.Ordering.{Ordering}
use Rattle.std.specs.declared.cmp.Ordering.TheVariants.{Less, Equal, Greater}
use Rattle.std.proofs.lemmas.List.Elements.{Contains-append_left, Contains-append_right, Contains-append_cases}
use Rattle.std.proofs.lemmas.Option.{slice_get-get_or}
use Rattle.object_fields.specs.declared.key.DeviceId.{DeviceId}
use Rattle.object_fields.specs.declared.key.Key.{Key}
use Rattle.api_claim.specs.declared.types.ResourceClaim.{ResourceClaim}
use Rattle.cluster.specs.declared.plan.Grant.{Grant}
use Rattle.cluster.specs.declared.plan.DeviceResult.{DeviceResult}
use Rattle.cluster.specs.declared.plan.Plan.{Plan}
use Rattle.cluster.specs.declared.state.ClaimState.{ClaimState}
use Rattle.cluster.specs.declared.state.Granted.{Granted}
use Rattle.cluster.specs.declared.state.State.{State}
use Rattle.cluster.specs.declared.state.Use.TheVariants.{Assumed}
use Rattle.pool_view.specs.Names.{at_key, key_cmp, key_eq, text_cmp, text_eq}
use Rattle.allocations.proofs.Names.{same_from_text_eq, text_eq-same}
use Rattle.std.proofs.lemmas.Bool.{and_from, cases_order, eqb-true}
use Rattle.std.specs.List.{list_any}
use Rattle.std.specs.Cmp.Lexicographic.{texts_ties}
use Rattle.cluster.specs.Reserved.{joined_by, with_grant, with_grants, with_joins, with_reserved}
use Rattle.cluster.specs.Tables.{changed_at}
use Rattle.cluster.specs.Held.{devices_held, held, held_by}
use Rattle.allocations.specs.Claims.{add_ungranted, add_wanted, wanted, wanted_of}
use Rattle.cluster.specs.Claims.{claim_keys, first_places}
use Rattle.request_rules.specs.Lists.{EachTwo}
use Rattle.request_rules.specs.Allocation.{HoldsOnce, IsAllocation, Result}
use Rattle.request_rules.specs.Grants.{grants_from, grants_of, named_result, results_at}
use Rattle.request_rules.specs.Input.{SearchInput}
use Rattle.allocations.specs.Input.{device_result, grant_of, grants_by, input_of}
use Rattle.allocations.specs.Allocation.{IsAllocation as Allocated}
use Rattle.api_cluster.specs.declared.types.Pod.{Pod}
use Rattle.cluster.specs.Held.{HeldOnce}
use Rattle.allocations.proofs.HeldIds.{Claims, at_map, first_of, held_in, holder_of, ids_of_held, mapped_at}
use Rattle.allocations.proofs.Picked.{Contains-from_get}

-- ---- lists whose elements differ

abbrev pub Apart : List DeviceId → Type 0
Apart [] = Unit {0}
Apart (d ∷ ds) = (Contains ds d → ⊥) × Apart ds

-- the lists have no device in common
abbrev pub Disjoint : List DeviceId → List DeviceId → Type 0
Disjoint xs ys = (d : DeviceId) → Contains xs d → Contains ys d → ⊥

none_in_nil : (d : DeviceId) → Contains [] d → ⊥
none_in_nil d h = let lt = h.1 in absurd (omega (arith, lt))

head_by : (x : DeviceId) (xs : List DeviceId) (d : DeviceId) (k : ℕ) → k < length (x ∷ xs) → get_or (x ∷ xs) k d ≡ d → (x ≡ d) ⊎ Contains xs d
head_by x xs d zero lt e = inl e
head_by x xs d (suc k) lt e = inr (k, omega (arith, lt), e)

head_or : (x : DeviceId) (xs : List DeviceId) (d : DeviceId) → Contains (x ∷ xs) d → (x ≡ d) ⊎ Contains xs d
head_or x xs d h = head_by x xs d h.0 h.1 h.2

head_in : (x : DeviceId) (xs : List DeviceId) → Contains (x ∷ xs) x
head_in x xs = (0, omega arith, refl)

tail_in : (x : DeviceId) (xs : List DeviceId) (d : DeviceId) → Contains xs d → Contains (x ∷ xs) d
tail_in x xs d h = Contains-append_right (x ∷ []) xs d h

pub apart_join : (xs ys : List DeviceId) → Apart xs → Apart ys → Disjoint xs ys → Apart (xs ++ ys)
apart_join [] ys a b n = b
apart_join (x ∷ xs) ys a b n = (
  λ c. ⊎_elim (λ h. a.0 h) (λ h. n x (head_in x xs) h) (Contains-append_cases xs ys x c),
  apart_join xs ys a.1 b (λ d h g. n d (tail_in x xs d h) g),
)

pub apart_prefix : (xs ys : List DeviceId) → Apart (xs ++ ys) → Apart xs
apart_prefix [] ys a = tt
apart_prefix (x ∷ xs) ys a = (λ c. a.0 (Contains-append_left xs ys x c), apart_prefix xs ys a.1)

pub apart_back : (xs ys : List DeviceId) → Apart (xs ++ ys) → Apart ys
apart_back [] ys a = a
apart_back (x ∷ xs) ys a = apart_back xs ys a.1

pub apart_disjoint : (xs ys : List DeviceId) → Apart (xs ++ ys) → Disjoint xs ys
apart_disjoint [] ys a d h g = none_in_nil d h
apart_disjoint (x ∷ xs) ys a d h g =
    ⊎_elim (λ (e : x ≡ d). a.0 (subst (λ (w : DeviceId). Contains (xs ++ ys) w) (sym e) (Contains-append_right xs ys d g))) (λ (k : Contains xs d). apart_disjoint xs ys a.1 d k g) (head_or x xs d h)

some_same : (d e : DeviceId) → Some d ≡ Some e → d ≡ e
some_same d e h = cc

apart_at : (ds : List DeviceId) → Apart ds → (i j : ℕ) (d e : DeviceId) → i < j → slice_get ds i ≡ Some d → slice_get ds j ≡ Some e → d ≢ e
apart_at [] a i j d e lt f g same = absurd (cc)
apart_at (x ∷ xs) a i zero d e lt f g same = absurd (omega (arith, lt))
apart_at (x ∷ xs) a zero (suc j) d e lt f g same =
    let h : Contains xs e = Contains-from_get xs j e g in
    a.0 (subst (λ (w : DeviceId). Contains xs w) (sym (some_same x d f ∙ same)) h)
apart_at (x ∷ xs) a (suc i) (suc j) d e lt f g same = apart_at xs a.1 i j d e (omega (arith, lt)) f g same

apart_from : (ds : List DeviceId) → ((i j : ℕ) (d e : DeviceId) → i < j → slice_get ds i ≡ Some d → slice_get ds j ≡ Some e → d ≢ e) → Apart ds
apart_from [] h = tt
apart_from (x ∷ xs) h = (
  λ c.
      let lt = c.1 in
      h 0 (suc c.0) x x (omega (arith, lt)) refl (slice_get-get_or xs c.0 x c.1 ∙ ap (λ (w : DeviceId). Some w) c.2) refl,
  apart_from xs (λ i j d e lt f g. h (suc i) (suc j) d e (omega (arith, lt)) f g),
)

-- ---- the devices that a table of claims holds

pub some_claim : (c d : ClaimState) → Some c ≡ Some d → c ≡ d
some_claim c d h = cc

same_by : (test : Key → Bool) (b : Bool) (e : Key × ClaimState) (es : Claims) (v w : ClaimState) → test e.0 ≡ b → lookup test (e ∷ es) ≡ Some v → held_by w.grant ≡ held_by v.grant
    → (lookup test es ≡ Some v → held_in (set_value test es w) ≡ held_in es) → held_in (set_value test (e ∷ es) w) ≡ held_in (e ∷ es)
same_by test true e es v w is h same later =
    let is_v : e.1 ≡ v = some_claim e.1 v (sym (ap (λ b. cond b (Some e.1) (lookup test es)) is) ∙ h) in
    ap (λ b. held_in (cond b ((e.0, w) ∷ es) (e ∷ set_value test es w))) is ∙ ap (λ ds. ds ++ held_in es) (same ∙ ap (λ (c : ClaimState). held_by c.grant) (sym is_v))
same_by test false e es v w is h same later =
    let g : lookup test es ≡ Some v = sym (ap (λ b. cond b (Some e.1) (lookup test es)) is) ∙ h in
    ap (λ b. held_in (cond b ((e.0, w) ∷ es) (e ∷ set_value test es w))) is ∙ ap (λ ds. held_by e.1.grant ++ ds) (later g)

-- a claim changed apart from its devices
pub same_held : (test : Key → Bool) (es : Claims) (v w : ClaimState) → lookup test es ≡ Some v → held_by w.grant ≡ held_by v.grant → held_in (set_value test es w) ≡ held_in es
same_held test [] v w h same = refl
same_held test (e ∷ es) v w h same = same_by test (test e.0) e es v w refl h same (λ g. same_held test es v w g same)

inserted_by : (o : Ordering) (e : Key × ClaimState) (es : Claims) (k : Key) (w : ClaimState) → key_cmp k e.0 ≡ o → lookup (is_at (key_cmp k)) (e ∷ es) ≡ None → w.grant ≡ None
    → (lookup (is_at (key_cmp k)) es ≡ None → held_in (insert_entry key_cmp es k w) ≡ held_in es) → held_in (insert_entry key_cmp (e ∷ es) k w) ≡ held_in (e ∷ es)
inserted_by Less e es k w is h none later =
    ap (λ o. held_in (match_ordering o ((k, w) ∷ e ∷ es) ((e.0, w) ∷ es) (e ∷ insert_entry key_cmp es k w))) is ∙ ap (λ g. held_by g ++ held_in (e ∷ es)) none
inserted_by Equal e es k w is h none later =
    let f : Some e.1 ≡ None = sym (ap (λ o. cond (is_eq o) (Some e.1) (lookup (is_at (key_cmp k)) es)) is) ∙ h in
    absurd (cc)
inserted_by Greater e es k w is h none later =
    let g : lookup (is_at (key_cmp k)) es ≡ None = sym (ap (λ o. cond (is_eq o) (Some e.1) (lookup (is_at (key_cmp k)) es)) is) ∙ h in
    ap (λ o. held_in (match_ordering o ((k, w) ∷ e ∷ es) ((e.0, w) ∷ es) (e ∷ insert_entry key_cmp es k w))) is ∙ ap (λ ds. held_by e.1.grant ++ ds) (later g)

-- a new claim without a grant
pub inserted_held : (es : Claims) (k : Key) (w : ClaimState) → lookup (is_at (key_cmp k)) es ≡ None → w.grant ≡ None → held_in (insert_entry key_cmp es k w) ≡ held_in es
inserted_held [] k w h none = ap (λ g. held_by g ++ []) none
inserted_held (e ∷ es) k w h none = inserted_by (key_cmp k e.0) e es k w refl h none (λ g. inserted_held es k w g none)

-- the devices held after a claim's grant was written: they differ, and each was held before or is in the grant
record Given (news olds all : List DeviceId) : Type 0 where
  apart : Apart all
  among : (d : DeviceId) → Contains all d → Contains news d ⊎ Contains olds d

given_by : (test : Key → Bool) (b : Bool) (e : Key × ClaimState) (es : Claims) (v w : ClaimState) → test e.0 ≡ b → lookup test (e ∷ es) ≡ Some v → v.grant ≡ None
    → Apart (held_by w.grant) → Apart (held_in (e ∷ es)) → Disjoint (held_by w.grant) (held_in (e ∷ es))
    → (lookup test es ≡ Some v → Apart (held_in es) → Disjoint (held_by w.grant) (held_in es) → Given (held_by w.grant) (held_in es) (held_in (set_value test es w)))
    → Given (held_by w.grant) (held_in (e ∷ es)) (held_in (set_value test (e ∷ es) w))
given_by test true e es v w is h none news olds apart later =
    let is_v : e.1 ≡ v = some_claim e.1 v (sym (ap (λ b. cond b (Some e.1) (lookup test es)) is) ∙ h) in
    let set : held_by w.grant ++ held_in es ≡ held_in (set_value test (e ∷ es) w) = sym (ap (λ b. held_in (cond b ((e.0, w) ∷ es) (e ∷ set_value test es w))) is) in
    let given : Given (held_by w.grant) (held_in (e ∷ es)) (held_by w.grant ++ held_in es) = record {
      apart = apart_join (held_by w.grant) (held_in es) news (apart_back (held_by e.1.grant) (held_in es) olds) (λ d h g. apart d h (Contains-append_right (held_by e.1.grant) (held_in es) d g));
      among = λ d c. ⊎_elim (λ h. inl h) (λ h. inr (Contains-append_right (held_by e.1.grant) (held_in es) d h)) (Contains-append_cases (held_by w.grant) (held_in es) d c);
    } in
    subst (λ (ds : List DeviceId). Given (held_by w.grant) (held_in (e ∷ es)) ds) set given
given_by test false e es v w is h none news olds apart later =
    let there : lookup test es ≡ Some v = sym (ap (λ b. cond b (Some e.1) (lookup test es)) is) ∙ h in
    let first = held_by e.1.grant in
    let rest = held_in (set_value test es w) in
    let set : first ++ rest ≡ held_in (set_value test (e ∷ es) w) = sym (ap (λ b. held_in (cond b ((e.0, w) ∷ es) (e ∷ set_value test es w))) is) in
    let r : Given (held_by w.grant) (held_in es) rest = later there (apart_back first (held_in es) olds) (λ d h g. apart d h (Contains-append_right first (held_in es) d g)) in
    let given : Given (held_by w.grant) (held_in (e ∷ es)) (first ++ rest) = record {
      apart = apart_join first rest (apart_prefix first (held_in es) olds) r.apart
          (λ d h g. ⊎_elim (λ k. apart d k (Contains-append_left first (held_in es) d h)) (λ k. apart_disjoint first (held_in es) olds d h k) (r.among d g));
      among = λ d c. ⊎_elim (λ h. inr (Contains-append_left first (held_in es) d h)) (λ h. ⊎_elim (λ k. inl k) (λ k. inr (Contains-append_right first (held_in es) d k)) (r.among d h)) (Contains-append_cases first rest d c);
    } in
    subst (λ (ds : List DeviceId). Given (held_by w.grant) (held_in (e ∷ es)) ds) set given

-- a claim without a grant is granted devices that nothing holds
given_held : (test : Key → Bool) (es : Claims) (v w : ClaimState) → lookup test es ≡ Some v → v.grant ≡ None → Apart (held_by w.grant) → Apart (held_in es) → Disjoint (held_by w.grant) (held_in es)
    → Given (held_by w.grant) (held_in es) (held_in (set_value test es w))
given_held test [] v w h none news olds apart = absurd (cc)
given_held test (e ∷ es) v w h none news olds apart = given_by test (test e.0) e es v w refl h none news olds apart (λ g a n. given_held test es v w g none news a n)

-- ---- the keys of the claims that are granted

same_from_text_cmp : (a b : List ℕ) → is_eq (text_cmp a b) ≡ true → a ≡ b
same_from_text_cmp a b e = same_from_text_eq a b (texts_ties a b ∙ e)

same_names : (m n a b : List ℕ) → m ≡ n → a ≡ b → ◌≡◌ {A = Key} (record { namespace = m; name = a }) (record { namespace = n; name = b })
same_names m n a b e f = cc

then_by : (o p : Ordering) → is_eq (ordering_then o p) ≡ true → (is_eq o ≡ true) × (is_eq p ≡ true)
then_by Less p e = absurd (cc)
then_by Equal p e = (refl, e)
then_by Greater p e = absurd (cc)

pub same_from_key_cmp : (a b : Key) → is_eq (key_cmp a b) ≡ true → a ≡ b
same_from_key_cmp a b e =
    let parts = then_by (text_cmp a.namespace b.namespace) (text_cmp a.name b.name) e in
    same_names a.namespace b.namespace a.name b.name (same_from_text_cmp a.namespace b.namespace parts.0) (same_from_text_cmp a.name b.name parts.1)

pub key_eq-same : (k : Key) → key_eq k k ≡ true
key_eq-same k = and_from (text_eq k.namespace k.namespace) (text_eq k.name k.name) (text_eq-same k.namespace) (text_eq-same k.name)

skip_by : (e : Key × ClaimState) (es : Claims) (k l : Key) (w : ClaimState) (b c : Bool) → k ≢ l → is_eq (key_cmp k e.0) ≡ b → is_eq (key_cmp l e.0) ≡ c
    → at_key (set_value (is_at (key_cmp k)) es w) l ≡ at_key es l → at_key (set_value (is_at (key_cmp k)) (e ∷ es) w) l ≡ at_key (e ∷ es) l
skip_by e es k l w true true n is at later = absurd (n (same_from_key_cmp k e.0 is ∙ sym (same_from_key_cmp l e.0 at)))
skip_by e es k l w true false n is at later = rw (is) (rw (at) refl)
skip_by e es k l w false c n is at later = rw (is) (ap (λ o. cond (is_eq (key_cmp l e.0)) (Some e.1) o) later)

-- writing at a key leaves the others unchanged
pub skip_there : (es : Claims) (k l : Key) (w : ClaimState) → k ≢ l → at_key (set_value (is_at (key_cmp k)) es w) l ≡ at_key es l
skip_there [] k l w n = refl
skip_there (e ∷ es) k l w n = skip_by e es k l w (is_eq (key_cmp k e.0)) (is_eq (key_cmp l e.0)) n refl refl (skip_there es k l w n)

-- a claim that exists without a grant
pub record Ungranted (claims : Claims) (k : Key) : Type 0 where
  pub claim : ClaimState
  pub is_there : at_key claims k ≡ Some claim
  pub none : claim.grant ≡ None

abbrev pub EachUngranted : Claims → List ResourceClaim → Type 0
EachUngranted claims [] = Unit {0}
EachUngranted claims (c ∷ cs) = Ungranted claims c.key × EachUngranted claims cs

-- none of the claims has the key
abbrev pub Away : Key → List ResourceClaim → Type 0
Away k [] = Unit {0}
Away k (c ∷ cs) = (k ≢ c.key) × Away k cs

abbrev pub KeysApart : List ResourceClaim → Type 0
KeysApart [] = Unit {0}
KeysApart (c ∷ cs) = Away c.key cs × KeysApart cs

each_with : (claims : Claims) (k : Key) (x : ClaimState) (g : Option Granted) (others : List ResourceClaim) → at_key claims k ≡ Some x → x.grant ≡ g → EachUngranted claims others
    → EachUngranted claims (add_ungranted k x g others)
each_with claims k x None others is none each = (record { claim = x; is_there = is; none = none }, each)
each_with claims k x (Some g) others is none each = each

each_by : (claims : Claims) (k : Key) (o : Option ClaimState) (others : List ResourceClaim) → at_key claims k ≡ o → EachUngranted claims others → EachUngranted claims (add_wanted k o others)
each_by claims k None others is each = each
each_by claims k (Some x) others is each = each_with claims k x x.grant others is refl each

pub each_wanted : (s : State) (ks : List Key) → EachUngranted s.claims (wanted_of s ks)
each_wanted s [] = tt
each_wanted s (k ∷ ks) = each_by s.claims k (at_key s.claims k) (wanted_of s ks) refl (each_wanted s ks)

away_with : (k l : Key) (x : ClaimState) (g : Option Granted) (others : List ResourceClaim) → k ≢ l → Away k others → Away k (add_ungranted l x g others)
away_with k l x None others n away = (n, away)
away_with k l x (Some g) others n away = away

away_by : (k l : Key) (o : Option ClaimState) (others : List ResourceClaim) → k ≢ l → Away k others → Away k (add_wanted l o others)
away_by k l None others n away = away
away_by k l (Some x) others n away = away_with k l x x.grant others n away

away_if : (s : State) (k l : Key) (seen ks : List Key) (b : Bool) → list_any (λ m. key_eq m l) seen ≡ b → list_any (λ m. key_eq m k) seen ≡ true → Away k (wanted_of s (first_places seen ks))
    → Away k (wanted_of s (first_places (l ∷ seen) ks)) → Away k (wanted_of s (cond b (first_places seen ks) (l ∷ first_places (l ∷ seen) ks)))
away_if s k l seen ks true is at here later = here
away_if s k l seen ks false is at here later =
    away_by k l (at_key s.claims l) (wanted_of s (first_places (l ∷ seen) ks))
    (λ (e : k ≡ l). true≢false (sym at ∙ ap (λ (x : Key). list_any (λ m. key_eq m x) seen) e ∙ is)) later

or_right : (b c : Bool) → c ≡ true → (b || c) ≡ true
or_right true c e = refl
or_right false c e = e

-- a key that was seen doesn't appear again
away_seen : (s : State) (k : Key) (ks seen : List Key) → list_any (λ m. key_eq m k) seen ≡ true → Away k (wanted_of s (first_places seen ks))
away_seen s k [] seen at = tt
away_seen s k (l ∷ ks) seen at =
    away_if s k l seen ks (list_any (λ m. key_eq m l) seen) refl at (away_seen s k ks seen at) (away_seen s k ks (l ∷ seen) (or_right (key_eq l k) (list_any (λ m. key_eq m k) seen) at))

apart_with : (k : Key) (x : ClaimState) (g : Option Granted) (others : List ResourceClaim) → Away k others → KeysApart others → KeysApart (add_ungranted k x g others)
apart_with k x None others away a = (away, a)
apart_with k x (Some g) others away a = a

apart_by : (k : Key) (o : Option ClaimState) (others : List ResourceClaim) → Away k others → KeysApart others → KeysApart (add_wanted k o others)
apart_by k None others away a = a
apart_by k (Some x) others away a = apart_with k x x.grant others away a

apart_if : (s : State) (l : Key) (seen ks : List Key) (b : Bool) → KeysApart (wanted_of s (first_places seen ks)) → KeysApart (wanted_of s (first_places (l ∷ seen) ks))
    → KeysApart (wanted_of s (cond b (first_places seen ks) (l ∷ first_places (l ∷ seen) ks)))
apart_if s l seen ks true here later = here
apart_if s l seen ks false here later =
    apart_by l (at_key s.claims l) (wanted_of s (first_places (l ∷ seen) ks))
    (away_seen s l ks (l ∷ seen) (ap (λ b. b || list_any (λ m. key_eq m l) seen) (key_eq-same l))) later

-- the claims that a pod needs have keys that differ
pub apart_wanted : (s : State) (ks seen : List Key) → KeysApart (wanted_of s (first_places seen ks))
apart_wanted s [] seen = tt
apart_wanted s (l ∷ ks) seen = apart_if s l seen ks (list_any (λ m. key_eq m l) seen) (apart_wanted s ks seen) (apart_wanted s ks (l ∷ seen))

-- ---- the grants of a plan

abbrev pub granted : List ℕ → Key → List DeviceResult → ClaimState → ClaimState
granted node pod results x = record x { grant = Some (record { node = node; results = results; published = false }); users = insert_entry key_cmp x.users pod (Assumed x.claim.version) }

pub grant_sets : (node : List ℕ) (pod k : Key) (results : List DeviceResult) (claims : Claims) (u : Ungranted claims k)
    → with_grant node pod k results claims ≡ set_value (is_at (key_cmp k)) claims (granted node pod results u.claim)
grant_sets node pod k results claims u = ap (λ o. option_map_or (λ x. set_value (is_at (key_cmp k)) claims (granted node pod results x)) o claims) u.is_there

-- the claims of the grants exist, and have no grant
abbrev pub EachOpen : Claims → List Grant → Type 0
EachOpen claims [] = Unit {0}
EachOpen claims (g ∷ gs) = Ungranted claims g.claim × EachOpen claims gs

-- none of the grants is of the claim
abbrev pub NoneOf : Key → List Grant → Type 0
NoneOf k [] = Unit {0}
NoneOf k (g ∷ gs) = (k ≢ g.claim) × NoneOf k gs

-- the grants are of different claims
abbrev pub OfDifferent : List Grant → Type 0
OfDifferent [] = Unit {0}
OfDifferent (g ∷ gs) = NoneOf g.claim gs × OfDifferent gs

-- the devices that grants hold
abbrev devices_of : List Grant → List DeviceId
devices_of gs = flat_map (λ g. devices_held g.results) gs

-- the other claims have no grant as before
pub each_kept : (node : List ℕ) (pod k : Key) (results : List DeviceResult) (claims : Claims) (u : Ungranted claims k) (gs : List Grant) → NoneOf k gs → EachOpen claims gs
    → EachOpen (with_grant node pod k results claims) gs
each_kept node pod k results claims u [] away each = tt
each_kept node pod k results claims u (g ∷ gs) away each = (
  record {
    claim = each.0.claim;
    is_there = ap (λ (es : Claims). at_key es g.claim) (grant_sets node pod k results claims u)
        ∙ skip_there claims k g.claim (granted node pod results u.claim) away.0 ∙ each.0.is_there;
    none = each.0.none;
  },
  each_kept node pod k results claims u gs away.1 each.1,
)

grant_given : (node : List ℕ) (pod : Key) (claims : Claims) (g : Grant) → Ungranted claims g.claim → Apart (held_in claims) → Apart (devices_held g.results)
    → Disjoint (devices_held g.results) (held_in claims) → Given (devices_held g.results) (held_in claims) (held_in (with_grant node pod g.claim g.results claims))
grant_given node pod claims g u olds news apart =
    let given = given_held (is_at (key_cmp g.claim)) claims u.claim (granted node pod g.results u.claim) u.is_there u.none news olds apart in
    subst (λ (es : Claims). Given (devices_held g.results) (held_in claims) (held_in es)) (sym (grant_sets node pod g.claim g.results claims u)) given

grants_apart : (node : List ℕ) (pod : Key) (gs : List Grant) (claims : Claims) → EachOpen claims gs → OfDifferent gs → Apart (held_in claims) → Apart (devices_of gs)
    → Disjoint (devices_of gs) (held_in claims) → Apart (held_in (with_grants node pod gs claims))
grants_apart node pod [] claims each keys olds news apart = olds
grants_apart node pod (g ∷ gs) claims each keys olds news apart =
    let first = devices_held g.results in
    let rest = devices_of gs in
    let given = grant_given node pod claims g each.0 olds (apart_prefix first rest news) (λ d h k. apart d (Contains-append_left first rest d h) k) in
    grants_apart node pod gs (with_grant node pod g.claim g.results claims) (each_kept node pod g.claim g.results claims each.0 gs keys.0 each.1) keys.1 given.apart (apart_back first rest news)
    (λ d h k. ⊎_elim (λ m. apart_disjoint first rest news d m h) (λ m. apart d (Contains-append_right first rest d h) m) (given.among d k))

-- ---- the results that each claim gets

abbrev Once : List Result → Type 0
Once rs = EachTwo (λ r s. r.label.admin ≡ false → s.label.admin ≡ false → r.device ≢ s.device) rs

abbrev cut_devices : ℕ → List Result → List DeviceId
cut_devices i rs = devices_held (map device_result (map named_result (results_at i rs)))

abbrev cut_by : Bool → Bool → DeviceId → List DeviceId → List DeviceId
cut_by b c d ds = cond b (cond c ds (d ∷ ds)) ds

step_by : (i : ℕ) (r : Result) (rs : List Result) (b : Bool) → devices_held (map device_result (map named_result (cond b (r ∷ results_at i rs) (results_at i rs)))) ≡ cut_by b r.label.admin r.device (cut_devices i rs)
step_by i r rs true = refl
step_by i r rs false = refl

cut_step : (i : ℕ) (r : Result) (rs : List Result) → cut_devices i (r ∷ rs) ≡ cut_by (eqb r.label.claim i) r.label.admin r.device (cut_devices i rs)
cut_step i r rs = step_by i r rs (eqb r.label.claim i)

-- a result without admin access for the claim at an index
record Cut (i : ℕ) (rs : List Result) (d : DeviceId) : Type 0 where
  place : ℕ
  result : Result
  is_there : slice_get rs place ≡ Some result
  claim : result.label.claim ≡ i
  plain : result.label.admin ≡ false
  device : result.device ≡ d

cut_later : (i : ℕ) (r : Result) (rs : List Result) (d : DeviceId) → Cut i rs d → Cut i (r ∷ rs) d
cut_later i r rs d c = record { place = suc c.place; result = c.result; is_there = c.is_there; claim = c.claim; plain = c.plain; device = c.device }

found_by : (i : ℕ) (r : Result) (rs : List Result) (d : DeviceId) (b c : Bool) → eqb r.label.claim i ≡ b → r.label.admin ≡ c → Contains (cut_by b c r.device (cut_devices i rs)) d
    → (Contains (cut_devices i rs) d → Cut i rs d) → Cut i (r ∷ rs) d
found_by i r rs d true true claim admin h later = cut_later i r rs d (later h)
found_by i r rs d true false claim admin h later =
    ⊎_elim (λ (e : r.device ≡ d). record { place = 0; result = r; is_there = refl; claim = eqb-true r.label.claim i claim; plain = admin; device = e })
    (λ (g : Contains (cut_devices i rs) d). cut_later i r rs d (later g)) (head_or r.device (cut_devices i rs) d h)
found_by i r rs d false c claim admin h later = cut_later i r rs d (later h)

found : (i : ℕ) (rs : List Result) (d : DeviceId) → Contains (cut_devices i rs) d → Cut i rs d
found i [] d h = absurd (none_in_nil d h)
found i (r ∷ rs) d h =
    found_by i r rs d (eqb r.label.claim i) r.label.admin refl refl (subst (λ (ds : List DeviceId). Contains ds d) (cut_step i r rs) h) (λ g. found i rs d g)

once_tail : (r : Result) (rs : List Result) → Once (r ∷ rs) → Once rs
once_tail r rs once = λ i j x y lt f g. once (suc i) (suc j) x y (omega (arith, lt)) f g

cut_apart_by : (i : ℕ) (r : Result) (rs : List Result) (b c : Bool) → r.label.admin ≡ c → Once (r ∷ rs) → Apart (cut_devices i rs) → Apart (cut_by b c r.device (cut_devices i rs))
cut_apart_by i r rs true true admin once rest = rest
cut_apart_by i r rs true false admin once rest = (
  λ h.
      let f = found i rs r.device h in
      once 0 (suc f.place) r f.result (omega arith) refl f.is_there admin f.plain (sym f.device),
  rest,
)
cut_apart_by i r rs false c admin once rest = rest

-- the devices of one claim's results differ
cut_apart : (i : ℕ) (rs : List Result) → Once rs → Apart (cut_devices i rs)
cut_apart i [] once = tt
cut_apart i (r ∷ rs) once =
    subst (λ (ds : List DeviceId). Apart ds) (sym (cut_step i r rs)) (cut_apart_by i r rs (eqb r.label.claim i) r.label.admin refl once (cut_apart i rs (once_tail r rs once)))

some_result : (r s : Result) → Some r ≡ Some s → r ≡ s
some_result r s h = cc

-- those of two claims have no device in common
cut_disjoint : (i j : ℕ) (rs : List Result) → i ≢ j → Once rs → Disjoint (cut_devices i rs) (cut_devices j rs)
cut_disjoint i j rs n once d h g =
    let a = found i rs d h in
    let b = found j rs d g in
    ⊎_elim
    (λ (e : a.place ≡ b.place).
    let same : a.result ≡ b.result = some_result a.result b.result (sym a.is_there ∙ ap (λ k. slice_get rs k) e ∙ b.is_there) in
    n (sym a.claim ∙ ap (λ (r : Result). r.label.claim) same ∙ b.claim))
    (λ (o : (a.place < b.place) ⊎ (b.place < a.place)).
    ⊎_elim (λ lt. once a.place b.place a.result b.result lt a.is_there b.is_there a.plain b.plain (a.device ∙ sym b.device))
    (λ lt. once b.place a.place b.result a.result lt b.is_there a.is_there b.plain a.plain (b.device ∙ sym a.device)) o)
    (cases_order a.place b.place)

abbrev pub cuts : ℕ → List ResourceClaim → List Result → List Grant
cuts i cs rs = map grant_of (grants_from i cs rs)

-- a device of the claims from an index on is among the results of one of them
record Later (i : ℕ) (rs : List Result) (d : DeviceId) : Type 0 where
  claim : ℕ
  after : i ≤ claim
  among : Contains (cut_devices claim rs) d

given_later : (i : ℕ) (cs : List ResourceClaim) (rs : List Result) (d : DeviceId) → Contains (devices_of (cuts i cs rs)) d → Later i rs d
given_later i [] rs d h = absurd (none_in_nil d h)
given_later i (c ∷ cs) rs d h =
    ⊎_elim (λ (g : Contains (cut_devices i rs) d). record { claim = i; after = omega arith; among = g })
    (λ (g : Contains (devices_of (cuts (i + 1) cs rs)) d).
    let l = given_later (i + 1) cs rs d g in
    let le = l.after in
    record { claim = l.claim; after = omega (arith, le); among = l.among })
    (Contains-append_cases (cut_devices i rs) (devices_of (cuts (i + 1) cs rs)) d h)

cuts_apart : (i : ℕ) (cs : List ResourceClaim) (rs : List Result) → Once rs → Apart (devices_of (cuts i cs rs))
cuts_apart i [] rs once = tt
cuts_apart i (c ∷ cs) rs once =
    apart_join (cut_devices i rs) (devices_of (cuts (i + 1) cs rs)) (cut_apart i rs once) (cuts_apart (i + 1) cs rs once)
    (λ d h g.
    let l = given_later (i + 1) cs rs d g in
    let le = l.after in
    cut_disjoint i l.claim rs (λ (e : i ≡ l.claim). absurd (omega (arith, le, e))) once d h l.among)

pub cuts_open : (claims : Claims) (i : ℕ) (cs : List ResourceClaim) (rs : List Result) → EachUngranted claims cs → EachOpen claims (cuts i cs rs)
cuts_open claims i [] rs each = tt
cuts_open claims i (c ∷ cs) rs each = (each.0, cuts_open claims (i + 1) cs rs each.1)

cuts_away : (k : Key) (i : ℕ) (cs : List ResourceClaim) (rs : List Result) → Away k cs → NoneOf k (cuts i cs rs)
cuts_away k i [] rs away = tt
cuts_away k i (c ∷ cs) rs away = (away.0, cuts_away k (i + 1) cs rs away.1)

pub cuts_differ : (i : ℕ) (cs : List ResourceClaim) (rs : List Result) → KeysApart cs → OfDifferent (cuts i cs rs)
cuts_differ i [] rs a = tt
cuts_differ i (c ∷ cs) rs a = (cuts_away c.key (i + 1) cs rs a.0, cuts_differ (i + 1) cs rs a.1)

-- ---- each change

held_at : (s : State) (i : ℕ) (p : DeviceId × Key) → slice_get (held s) i ≡ Some p → slice_get (held_in s.claims) i ≡ Some p.0
held_at s i p e = sym (ap (λ l. slice_get l i) (ids_of_held s)) ∙ at_map first_of (held s) i p e

pair_at : (s : State) (i : ℕ) (d : DeviceId) → slice_get (held_in s.claims) i ≡ Some d → (p : DeviceId × Key) × (slice_get (held s) i ≡ Some p) × (first_of p ≡ d)
pair_at s i d e = mapped_at first_of (held s) i d (ap (λ l. slice_get l i) (ids_of_held s) ∙ e)

pub once_from : (s : State) → Apart (held_in s.claims) → HeldOnce s
once_from s a = record { apart = λ i j p q lt f g. apart_at (held_in s.claims) a i j p.0 q.0 lt (held_at s i p f) (held_at s j q g) }

pub apart_of : (s : State) → HeldOnce s → Apart (held_in s.claims)
apart_of s h = apart_from (held_in s.claims) (λ i j d e lt f g same.
    let x = pair_at s i d f in
    let y = pair_at s j e g in
    h.apart i j x.0 y.0 lt x.1 y.1 (x.2 ∙ same ∙ sym y.2))

-- if the same devices are held
pub once_same : (s t : State) → HeldOnce s → held_in t.claims ≡ held_in s.claims → HeldOnce t
once_same s t h e = once_from t (subst (λ (ds : List DeviceId). Apart ds) (sym e) (apart_of s h))

joined_same : (pod claim : Key) (es : Claims) (o : Option ClaimState) → at_key es claim ≡ o → held_in (option_map_or (λ c. set_value (is_at (key_cmp claim)) es (joined_by pod c)) o es) ≡ held_in es
joined_same pod claim es None e = refl
joined_same pod claim es (Some c) e = same_held (is_at (key_cmp claim)) es c (joined_by pod c) e refl

joins_same : (pod : Key) (ks : List Key) (es : Claims) → held_in (with_joins pod ks es) ≡ held_in es
joins_same pod [] es = refl
joins_same pod (k ∷ ks) es = joins_same pod ks (changed_at k (joined_by pod) es) ∙ joined_same pod k es (at_key es k) refl

-- what an allocation guarantees for the devices that its results hold
abbrev pub HoldLaw : Type 0
HoldLaw = (w : SearchInput) (c : List ℕ) (rs : List Result) → IsAllocation w c rs → HoldsOnce w rs

pub once_reserved : HoldLaw → (s : State) (job : ℕ) (pod : Key) (p : Pod) (plan : Plan) (choice : List ℕ) → Allocated s (wanted s p) plan.node choice plan.grants → HeldOnce s
    → HeldOnce (with_reserved job pod plan s)
unfolding wanted grants_by grants_of input_of
once_reserved law s job pod p plan choice a h =
    let ks = first_places [] (claim_keys p) in
    let cs = wanted_of s ks in
    let rs = a.results in
    let held_once = law (input_of s cs plan.node) choice rs a.meant in
    let free : Disjoint (devices_of (cuts 0 cs rs)) (held_in s.claims) = λ d c g.
    let l = given_later 0 cs rs d c in
    let x = found l.claim rs d l.among in
    let k = holder_of s x.result.device (subst (λ (w : DeviceId). Contains (held_in s.claims) w) (sym x.device) g) in
    held_once.unheld x.place x.result x.is_there x.plain k.0 k.1 in
    let after : Apart (held_in (with_grants plan.node pod (cuts 0 cs rs) s.claims)) =
    grants_apart plan.node pod (cuts 0 cs rs) s.claims (cuts_open s.claims 0 cs rs (each_wanted s ks)) (cuts_differ 0 cs rs (apart_wanted s (claim_keys p) []))
    (apart_of s h) (cuts_apart 0 cs rs held_once.once) free in
    let granted_apart : Apart (held_in (with_grants plan.node pod plan.grants s.claims)) = subst (λ (gs : List Grant). Apart (held_in (with_grants plan.node pod gs s.claims))) (sym a.cut) after in
    once_from (with_reserved job pod plan s) (subst (λ (ds : List DeviceId). Apart ds) (sym (joins_same pod plan.joins (with_grants plan.node pod plan.grants s.claims))) granted_apart)
