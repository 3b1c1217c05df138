-- What claims hold once grants go, and that other changes leave all devices with their claims.
use Rattle.std.proofs.Common.{ℕ, ◌≡◌, ◌∙◌, List, [], ◌∷◌, ◌++◌, Bool, true, false, cond, eqb, length, ◌&&◌, Option, None, Some, is_some, refl, sym, ap, subst, arith, ne_eqb}
use Rattle.std.specs.BTreeMap.{is_at}
use Rattle.std.specs.Map.{remove_entry, set_value}
use Rattle.std.specs.Option.{option_map, option_map_or}
use Rattle.std.specs.Ordering.{is_eq}
use Rattle.object_fields.specs.declared.key.DeviceId.{DeviceId}
use Rattle.object_fields.specs.declared.key.Key.{Key}
use Rattle.api_claim.specs.declared.types.ResourceClaim.{ResourceClaim}
use Rattle.counter_sets.specs.Holding.{AreHeld, Holders, holder_in}
use Rattle.pool_view.specs.Names.{at_key, key_cmp}
use Rattle.request_rules.specs.Lists.{add_some}
use Rattle.cluster.specs.declared.object.Object.{Object}
use Rattle.cluster.specs.declared.object.Object.TheVariants as object
use Rattle.cluster.specs.declared.object.Target.{Target}
use Rattle.cluster.specs.declared.object.Target.TheVariants as target
use Rattle.cluster.specs.declared.state.ClaimState.{ClaimState}
use Rattle.cluster.specs.declared.state.Granted.{Granted}
use Rattle.cluster.specs.declared.state.PodState.{PodState}
use Rattle.cluster.specs.declared.state.State.{State}
use Rattle.cluster.specs.declared.state.Use.{Use}
use Rattle.cluster.specs.Applied.{new_claim, updated_claim, with_object}
use Rattle.cluster.specs.Bound.{with_bound}
use Rattle.cluster.specs.Claims.{claim_keys}
use Rattle.cluster.specs.Deleted.{without_object}
use Rattle.cluster.specs.Freed.{claims_by, freed, freed_by, grant_left, with_freed, without_user, without_uses}
use Rattle.cluster.specs.Held.{HeldOnce, held, held_by}
use Rattle.cluster.specs.State.{empty_state}
use Rattle.cluster.specs.Tables.{changed_at, put_at}
use Rattle.cluster.specs.Wrote.{as_published, with_written, written_by}
use Rattle.allocations.specs.Lost.{grant_at, lost_among, lost_at, lost_of, lost_with}
use Rattle.ledger_core.specs.Holding.{left_by}
use Rattle.ledger_core.proofs.Giving.{left_is}
use Rattle.ledger_core.proofs.Once.{Once, Pairs, among_others, is_among, looked, looked_out, once_held, once_without, with_key}
use Rattle.ledger_core.proofs.Opening.{Away, KeysDiffer, firsts_differ}
use Rattle.ledger_core.proofs.Splitting.{Claims, Split, changed_elsewhere, changed_same, held_is, inserted_same, pairs_in, set_same, split}

-- ---- one claim, whose grant may go

-- what is so where the grant of a claim goes, or stays as it was
record Leaves (claims left : Claims) (gone : Option Granted) : Type 0 where
  once : Once (pairs_in left)
  looks : (id : DeviceId) → looked id (pairs_in left) ≡ left_by (add_some gone []) id (looked id (pairs_in claims))

leaves_same : (claims left : Claims) → Once (pairs_in claims) → pairs_in left ≡ pairs_in claims → Leaves claims left None
leaves_same claims left once same = record { once = subst (λ (ps : Pairs). Once ps) (sym same) once; looks = λ id. ap (λ ps. looked id ps) same }

out_by : (claims left : Claims) (v : ClaimState) (g : Option Granted) → v.grant ≡ g → Once (pairs_in left)
    → ((id : DeviceId) → looked id (pairs_in left) ≡ cond (is_among id (held_by v.grant)) None (looked id (pairs_in claims))) → Leaves claims left g
out_by claims left v None is once looks = record { once = once; looks = λ id. looks id ∙ ap (λ x. cond (is_among id (held_by x)) None (looked id (pairs_in claims))) is }
out_by claims left v (Some g) is once looks = record {
  once = once;
  looks = λ id. looks id ∙ ap (λ x. cond (is_among id (held_by x)) None (looked id (pairs_in claims))) is ∙ sym (left_is g.results id (looked id (pairs_in claims)));
}

-- the pairs of a claim are left out
leaves_out : (claims left : Claims) (k : Key) (v : ClaimState) (s : Split claims k v) → pairs_in left ≡ s.prefix ++ s.back → Once (pairs_in claims) → Leaves claims left v.grant
leaves_out claims left k v s same once =
    let ds = held_by v.grant in
    let o : Once (among_others s.prefix k ds s.back) = subst (λ (ps : Pairs). Once ps) s.whole once in
    out_by claims left v v.grant refl (subst (λ (ps : Pairs). Once ps) (sym same) (once_without s.prefix (with_key k ds) s.back o))
    (λ id. ap (λ ps. looked id ps) same ∙ looked_out id s.prefix k ds s.back o ∙ ap (λ ps. cond (is_among id ds) None (looked id ps)) (sym s.whole))

-- ---- the uses of a pod

users_by : (e f : Key × Use) (es : List (Key × Use)) (pod : Key) (b : Bool) (g : Option Granted) → grant_left (cond b (f ∷ es) (e ∷ remove_entry (is_at (key_cmp pod)) (f ∷ es))) g ≡ g
users_by e f es pod true g = refl
users_by e f es pod false g = refl

one_by : (e : Key × Use) (pod : Key) (u : Use) (b : Bool) (g : Option Granted) → cond b (Some e.1) None ≡ Some u → grant_left (cond b [] (e ∷ [])) g ≡ None
one_by e pod u true g is = refl
one_by e pod u false g is = absurd (cc)

-- a claim loses its grant where the pod is its only user
users_left : (users : List (Key × Use)) (pod : Key) (u : Use) (g : Option Granted) → at_key users pod ≡ Some u → grant_left (without_user pod users) g ≡ cond (eqb (length users) 1) None g
users_left [] pod u g is = absurd (cc)
users_left (e ∷ []) pod u g is = one_by e pod u (is_eq (key_cmp pod e.0)) g is
users_left (e ∷ f ∷ es) pod u g is =
    users_by e f es pod (is_eq (key_cmp pod e.0)) g ∙ ap (λ b. cond b None g) (sym (ne_eqb (length (e ∷ f ∷ es)) 1 (λ (n : length (e ∷ f ∷ es) ≡ 1). omega (arith, n))))

freed_grant_by : (index : ℕ) (pod : Key) (c : ClaimState) (o : Option Use) → at_key c.users pod ≡ o → (freed_by index pod o c).grant ≡ cond (is_some o && eqb (length c.users) 1) None c.grant
freed_grant_by index pod c None is = refl
freed_grant_by index pod c (Some u) is = users_left c.users pod u c.grant is

freed_grant : (index : ℕ) (pod : Key) (c : ClaimState) → (freed index pod c).grant ≡ cond (is_some (at_key c.users pod) && eqb (length c.users) 1) None c.grant
freed_grant index pod c = freed_grant_by index pod c (at_key c.users pod) refl

free_by : (index : ℕ) (pod : Key) (claims : Claims) (k : Key) (c : ClaimState) (b : Bool) → at_key claims k ≡ Some c → (freed index pod c).grant ≡ cond b None c.grant → Once (pairs_in claims)
    → Leaves claims (set_value (is_at (key_cmp k)) claims (freed index pod c)) (cond b c.grant None)
free_by index pod claims k c true is grant once =
    let s = split claims k c is in
    leaves_out claims (set_value (is_at (key_cmp k)) claims (freed index pod c)) k c s (s.set (freed index pod c) ∙ ap (λ g. s.prefix ++ (with_key k (held_by g) ++ s.back)) grant) once
free_by index pod claims k c false is grant once =
    leaves_same claims (set_value (is_at (key_cmp k)) claims (freed index pod c)) once (set_same claims k c (freed index pod c) is (ap (λ g. held_by g) grant))

free_at : (index : ℕ) (pod : Key) (claims : Claims) (k : Key) (o : Option ClaimState) → at_key claims k ≡ o → Once (pairs_in claims)
    → Leaves claims (option_map_or (λ c. set_value (is_at (key_cmp k)) claims (freed index pod c)) o claims) (lost_at pod o)
free_at index pod claims k None is once = leaves_same claims claims once refl
free_at index pod claims k (Some c) is once = free_by index pod claims k c (is_some (at_key c.users pod) && eqb (length c.users) 1) is (freed_grant index pod c) once

free_one : (index : ℕ) (pod : Key) (claims : Claims) (k : Key) → Once (pairs_in claims) → Leaves claims (changed_at k (freed index pod) claims) (lost_at pod (at_key claims k))
free_one index pod claims k once = free_at index pod claims k (at_key claims k) refl once

-- what the other claims lose stays the same
lost_same : (pod k : Key) (f : ClaimState → ClaimState) (claims : Claims) (ks : List Key) → Away k ks → lost_among pod (changed_at k f claims) ks ≡ lost_among pod claims ks
lost_same pod k f claims [] away = refl
lost_same pod k f claims (l ∷ ks) away =
    ap (λ o. add_some (lost_at pod o) (lost_among pod (changed_at k f claims) ks)) (changed_elsewhere claims k l f away.0)
    ∙ ap (λ gs. add_some (lost_at pod (at_key claims l)) gs) (lost_same pod k f claims ks away.1)

left_first : (o : Option Granted) (gs : List Granted) (id : DeviceId) (x : Option Key) → left_by gs id (left_by (add_some o []) id x) ≡ left_by (add_some o gs) id x
left_first None gs id x = refl
left_first (Some g) gs id x = refl

frees : (index : ℕ) (pod : Key) (ks : List Key) (claims : Claims) → KeysDiffer ks → Once (pairs_in claims) → (id : DeviceId)
    → looked id (pairs_in (with_freed index pod ks claims)) ≡ left_by (lost_among pod claims ks) id (looked id (pairs_in claims))
frees index pod [] claims differ once id = refl
frees index pod (k ∷ ks) claims differ once id =
    let next = changed_at k (freed index pod) claims in
    let one = free_one index pod claims k once in
    frees index pod ks next differ.1 one.once id
    ∙ ap (λ gs. left_by gs id (looked id (pairs_in next))) (lost_same pod k (freed index pod) claims ks differ.0)
    ∙ ap (λ x. left_by (lost_among pod claims ks) id x) (one.looks id)
    ∙ left_first (lost_at pod (at_key claims k)) (lost_among pod claims ks) id (looked id (pairs_in claims))

keys_differ : (o : Option PodState) → KeysDiffer (claims_by o)
keys_differ None = tt
keys_differ (Some p) = firsts_differ (claim_keys p.pod.object) []

-- where the uses of a pod are taken away
pub freed_held : (s : State) (index : ℕ) (pod : Key) (hs hs' : Holders) → HeldOnce s → AreHeld hs (held s) → ((id : DeviceId) → holder_in hs' id ≡ left_by (lost_with s pod) id (holder_in hs id))
    → AreHeld hs' (held (without_uses index pod s))
freed_held s index pod hs hs' once are is = record {
  holder = λ id.
      is id
      ∙ ap (λ o. left_by (lost_with s pod) id o) (are.holder id ∙ ap (λ ps. looked id ps) (held_is s))
      ∙ sym (frees index pod (claims_by (at_key s.pods pod)) s.claims (keys_differ (at_key s.pods pod)) (subst (λ (ps : Pairs). Once ps) (held_is s) (once_held s once)) id)
      ∙ ap (λ ps. looked id ps) (sym (held_is (without_uses index pod s)));
}

-- ---- objects that are taken away

away_by : (e : Key × ClaimState) (es : Claims) (k : Key) (b : Bool) → is_eq (key_cmp k e.0) ≡ b → cond b (Some e.1) (at_key es k) ≡ None
    → (at_key es k ≡ None → remove_entry (is_at (key_cmp k)) es ≡ es) → remove_entry (is_at (key_cmp k)) (e ∷ es) ≡ e ∷ es
away_by e es k true same is later = absurd (cc)
away_by e es k false same is later = ap (λ b. cond b es (e ∷ remove_entry (is_at (key_cmp k)) es)) same ∙ ap (λ l. e ∷ l) (later is)

-- a key without a claim
removed_none : (es : Claims) (k : Key) → at_key es k ≡ None → remove_entry (is_at (key_cmp k)) es ≡ es
removed_none [] k is = refl
removed_none (e ∷ es) k is = away_by e es k (is_eq (key_cmp k e.0)) refl is (λ later. removed_none es k later)

remove_by : (claims : Claims) (k : Key) (o : Option ClaimState) → at_key claims k ≡ o → Once (pairs_in claims) → Leaves claims (remove_entry (is_at (key_cmp k)) claims) (grant_at o)
remove_by claims k None is once = leaves_same claims (remove_entry (is_at (key_cmp k)) claims) once (ap (λ es. pairs_in es) (removed_none claims k is))
remove_by claims k (Some c) is once = let s = split claims k c is in leaves_out claims (remove_entry (is_at (key_cmp k)) claims) k c s s.gone once

removes : (s : State) (t : Target) → Once (pairs_in s.claims) → Leaves s.claims (without_object t s).claims (lost_of s t)
removes s (target.Node name) once = leaves_same s.claims s.claims once refl
removes s (target.Slice name) once = leaves_same s.claims s.claims once refl
removes s (target.Class name) once = leaves_same s.claims s.claims once refl
removes s (target.Claim key) once = remove_by s.claims key (at_key s.claims key) refl once
removes s (target.Pod key) once = leaves_same s.claims s.claims once refl

pub removed_held : (s : State) (t : Target) (hs hs' : Holders) → HeldOnce s → AreHeld hs (held s) → ((id : DeviceId) → holder_in hs' id ≡ left_by (add_some (lost_of s t) []) id (holder_in hs id))
    → AreHeld hs' (held (without_object t s))
removed_held s t hs hs' once are is =
    let all = removes s t (subst (λ (ps : Pairs). Once ps) (held_is s) (once_held s once)) in
    record {
      holder = λ id.
          is id
          ∙ ap (λ o. left_by (add_some (lost_of s t) []) id o) (are.holder id ∙ ap (λ ps. looked id ps) (held_is s))
          ∙ sym (all.looks id)
          ∙ ap (λ ps. looked id ps) (sym (held_is (without_object t s)));
    }

-- ---- changes that leave all devices with their claims

claims_held : (s t : State) (hs : Holders) → pairs_in t.claims ≡ pairs_in s.claims → AreHeld hs (held s) → AreHeld hs (held t)
claims_held s t hs same are = subst (λ (ps : Pairs). AreHeld hs ps) (held_is s ∙ sym same ∙ sym (held_is t)) are

put_same : (index : ℕ) (x : ResourceClaim) (es : Claims) (o : Option ClaimState) → at_key es x.key ≡ o → pairs_in (put_at x.key (new_claim index x) (updated_claim index x) es o) ≡ pairs_in es
put_same index x es None is = inserted_same es x.key (new_claim index x) is refl
put_same index x es (Some c) is = set_same es x.key c (updated_claim index x c) is refl

pub applied_held : (s : State) (index : ℕ) (x : Object) (hs : Holders) → AreHeld hs (held s) → AreHeld hs (held (with_object index x s))
applied_held s index (object.Node x) hs are = claims_held s (with_object index (object.Node x) s) hs refl are
applied_held s index (object.Slice x) hs are = claims_held s (with_object index (object.Slice x) s) hs refl are
applied_held s index (object.Class x) hs are = claims_held s (with_object index (object.Class x) s) hs refl are
applied_held s index (object.Claim x) hs are = claims_held s (with_object index (object.Claim x) s) hs (put_same index x s.claims (at_key s.claims x.key) refl) are
applied_held s index (object.Pod x) hs are = claims_held s (with_object index (object.Pod x) s) hs refl are

published_same : (g : Option Granted) → held_by (option_map as_published g) ≡ held_by g
published_same None = refl
published_same (Some g) = refl

pub written_held : (s : State) (index : ℕ) (pod claim : Key) (hs : Holders) → AreHeld hs (held s) → AreHeld hs (held (with_written index pod claim s))
written_held s index pod claim hs are = claims_held s (with_written index pod claim s) hs (changed_same s.claims claim (written_by index pod) (λ c. published_same c.grant)) are

pub bound_held : (s : State) (pod : Key) (node : List ℕ) (hs : Holders) → AreHeld hs (held s) → AreHeld hs (held (with_bound pod node s))
bound_held s pod node hs are = claims_held s (with_bound pod node s) hs refl are

pub empty_held : (hs : Holders) → AreHeld hs [] → AreHeld hs (held empty_state)
empty_held hs none = subst (λ (ps : Pairs). AreHeld hs ps) (sym (held_is empty_state)) none
