-- The pods whose use of a claim is written print as they do among all pods.
use Rattle.std.proofs.Common.{ℕ, ◌≡◌, ◌∙◌, ◌++◌, ◌⊎◌, inl, inr, List, [], ◌∷◌, Bool, true, false, cond, Option, None, Some, refl, sym, ap, subst}
use Rattle.std.specs.Prelude.{codes, if◌then◌else◌}
use Rattle.std.specs.BTreeMap.{insert_entry}
use Rattle.std.specs.Cmp.Lexicographic.{nat_list_eq_equiv, texts_ties}
use Rattle.std.specs.Ordering.{is_eq, match_ordering, ordering_then}
use Rattle.std.specs.declared.cmp.Ordering.{Ordering}
use Rattle.std.specs.declared.cmp.Ordering.TheVariants.{Less, Equal, Greater}
use Rattle.std.proofs.lemmas.Map.Lookups.{exact_bytes}
use Rattle.serde_json.specs.Data.{Data, object, no_members, member}
use Rattle.object_fields.specs.declared.key.Key.{Key}
use Rattle.pool_view.specs.Names.{at_key, key_cmp, text_cmp}
use Rattle.cluster.specs.declared.state.ClaimState.{ClaimState}
use Rattle.cluster.specs.declared.state.Granted.{Granted}
use Rattle.cluster.specs.declared.state.PodState.{PodState}
use Rattle.cluster.specs.declared.state.Use.{Use}
use Rattle.cluster.specs.declared.state.Use.TheVariants.{Assumed, Written}
use Rattle.api_print.specs.Claims.{claim_spec_json}
use Rattle.api_print.specs.Metadata.{key_metadata_json, object_json, resource_version}
use Rattle.api_print.specs.Parts.{with_pod, with_user, with_users}
use Rattle.api_print.specs.Shapes.{member_if}
use Rattle.api_print.specs.Status.{allocation_json, claim_json, items_if, status_if, user_by, user_of, written_users}

abbrev Pods : Type 0
Pods = List (Key × PodState)

-- ---- equal keys

is_equal : (o : Ordering) → is_eq o ≡ true → o ≡ Equal
is_equal Less e = absurd (cc)
is_equal Equal e = refl
is_equal Greater e = absurd (cc)

text_equal : (a : List ℕ) → text_cmp a a ≡ Equal
text_equal a = is_equal (text_cmp a a) (sym (texts_ties a a) ∙ nat_list_eq_equiv.refl a)

then_equal : (a b : Ordering) → ordering_then a b ≡ Equal → (a ≡ Equal) × (b ≡ Equal)
then_equal Less b e = absurd (cc)
then_equal Equal b e = (refl, e)
then_equal Greater b e = absurd (cc)

same_parts : (m n a b : List ℕ) → m ≡ n → a ≡ b → ◌≡◌ {A = Key} (record { namespace = m; name = a }) (record { namespace = n; name = b })
same_parts m n a b e f = cc

key_same : (a b : Key) → key_cmp a b ≡ Equal → a ≡ b
key_same a b e =
    let both = then_equal (text_cmp a.namespace b.namespace) (text_cmp a.name b.name) e in
    same_parts a.namespace b.namespace a.name b.name (exact_bytes a.namespace b.namespace both.0) (exact_bytes a.name b.name both.1)

key_equal : (a : Key) → key_cmp a a ≡ Equal
key_equal a = ap (λ (o : Ordering). ordering_then o (text_cmp a.name a.name)) (text_equal a.namespace) ∙ text_equal a.name

-- ---- what is at a key after an insertion

apart : (q k x : Key) → key_cmp k x ≡ Greater → is_eq (key_cmp q x) ≡ true → is_eq (key_cmp q k) ≡ true → ⊥
apart q k x e f g =
    let kx : k ≡ x = sym (key_same q k (is_equal (key_cmp q k) g)) ∙ key_same q x (is_equal (key_cmp q x) f) in
    let eq : key_cmp k x ≡ Equal = ap (λ (j : Key). key_cmp j x) kx ∙ key_equal x in
    absurd (cc)

pick : (b c : Bool) (v w u : Option PodState) → (b ≡ true → c ≡ true → ⊥) → cond b w (cond c v u) ≡ cond c v (cond b w u)
pick true true v w u h = absurd (h refl refl)
pick true false v w u h = refl
pick false true v w u h = refl
pick false false v w u h = refl

shadow : (b : Bool) (v w u : Option PodState) → cond b v u ≡ cond b v (cond b w u)
shadow true v w u = refl
shadow false v w u = refl

insert_by : (o : Ordering) (e : Key × PodState) (es more : Pods) (k q : Key) (p : PodState) → key_cmp k e.0 ≡ o → at_key more q ≡ cond (is_eq (key_cmp q k)) (Some p) (at_key es q)
    → at_key (match_ordering o ((k, p) ∷ e ∷ es) ((e.0, p) ∷ es) (e ∷ more)) q ≡ cond (is_eq (key_cmp q k)) (Some p) (at_key (e ∷ es) q)
insert_by Less e es more k q p s h = refl
insert_by Equal e es more k q p s h =
    ap (λ (j : Key). cond (is_eq (key_cmp q j)) (Some p) (at_key es q)) (sym (key_same k e.0 s)) ∙ shadow (is_eq (key_cmp q k)) (Some p) (Some e.1) (at_key es q)
    ∙ ap (λ (j : Key). cond (is_eq (key_cmp q k)) (Some p) (cond (is_eq (key_cmp q j)) (Some e.1) (at_key es q))) (key_same k e.0 s)
insert_by Greater e es more k q p s h =
    ap (λ (r : Option PodState). cond (is_eq (key_cmp q e.0)) (Some e.1) r) h ∙ pick (is_eq (key_cmp q e.0)) (is_eq (key_cmp q k)) (Some p) (Some e.1) (at_key es q) (apart q k e.0 s)

at_insert : (es : Pods) (k q : Key) (p : PodState) → at_key (insert_entry key_cmp es k p) q ≡ cond (is_eq (key_cmp q k)) (Some p) (at_key es q)
at_insert [] k q p = refl
at_insert (e ∷ es) k q p = insert_by (key_cmp k e.0) e es (insert_entry key_cmp es k p) k q p refl (at_insert es k q p)

-- ---- a table with some of the pods

-- nothing else is in the table
abbrev IsPart : Pods → Pods → Type 0
IsPart table pods = (q : Key) → (at_key table q ≡ None) ⊎ (at_key table q ≡ at_key pods q)

module _ (pods : Pods) where
  -- the pod at `q`, by what the table has there and whether it is the one that was put
  abbrev Held : Key → Option PodState → Type 0
  Held q o = (o ≡ None) ⊎ (o ≡ at_key pods q)

  put_held : (b : Bool) (k q : Key) (p : PodState) (o : Option PodState) → is_eq (key_cmp q k) ≡ b → at_key pods k ≡ Some p → Held q o → Held q (cond b (Some p) o)
  put_held true k q p o e at h = inr (sym at ∙ ap (at_key pods) (sym (key_same q k (is_equal (key_cmp q k) e))))
  put_held false k q p o e at h = h

  pod_part : (k : Key) (o : Option PodState) (table : Pods) → at_key pods k ≡ o → IsPart table pods → IsPart (with_pod k o table) pods
  pod_part k None table at h = h
  pod_part k (Some p) table at h = λ q. subst (Held q) (sym (at_insert table k q p)) (put_held (is_eq (key_cmp q k)) k q p (at_key table q) refl at (h q))

  put_stays : (b : Bool) (k q : Key) (p : PodState) (o : Option PodState) → is_eq (key_cmp q k) ≡ b → at_key pods k ≡ Some p → o ≡ at_key pods q → cond b (Some p) o ≡ at_key pods q
  put_stays true k q p o e at h = sym at ∙ ap (at_key pods) (sym (key_same q k (is_equal (key_cmp q k) e)))
  put_stays false k q p o e at h = h

  pod_stays : (k q : Key) (o : Option PodState) (table : Pods) → at_key pods k ≡ o → at_key table q ≡ at_key pods q → at_key (with_pod k o table) q ≡ at_key pods q
  pod_stays k q None table at h = h
  pod_stays k q (Some p) table at h = at_insert table k q p ∙ put_stays (is_eq (key_cmp q k)) k q p (at_key table q) refl at h

  pod_there : (k : Key) (o : Option PodState) (table : Pods) → at_key pods k ≡ o → Held k (at_key table k) → at_key (with_pod k o table) k ≡ at_key pods k
  pod_there k None table at (inl e) = e ∙ sym at
  pod_there k None table at (inr e) = e
  pod_there k (Some p) table at h = at_insert table k k p ∙ ap (λ (o : Ordering). cond (is_eq o) (Some p) (at_key table k)) (key_equal k) ∙ sym at

  user_part : (k : Key) (how : Use) (table : Pods) → IsPart table pods → IsPart (with_user pods k how table) pods
  user_part k (Assumed seen) table h = h
  user_part k Written table h = pod_part k (at_key pods k) table refl h

  user_stays : (k q : Key) (how : Use) (table : Pods) → at_key table q ≡ at_key pods q → at_key (with_user pods k how table) q ≡ at_key pods q
  user_stays k q (Assumed seen) table h = h
  user_stays k q Written table h = pod_stays k q (at_key pods k) table refl h

  users_stay : (us : List (Key × Use)) (q : Key) (table : Pods) → at_key table q ≡ at_key pods q → at_key (with_users pods us table) q ≡ at_key pods q
  users_stay [] q table h = h
  users_stay (u ∷ us) q table h = users_stay us q (with_user pods u.0 u.1 table) (user_stays u.0 q u.1 table h)

  first_same : (k : Key) (how : Use) (us : List (Key × Use)) (table : Pods) → IsPart table pods → user_by (with_users pods us (with_user pods k how table)) k how ≡ user_by pods k how
  first_same k (Assumed seen) us table h = refl
  first_same k Written us table h = ap (user_of k) (users_stay us k (with_pod k (at_key pods k) table) (pod_there k (at_key pods k) table refl (h k)))

  users_same : (us : List (Key × Use)) (table : Pods) → IsPart table pods → written_users (with_users pods us table) us ≡ written_users pods us
  users_same [] table h = refl
  users_same (u ∷ us) table h =
      let all : Pods = with_users pods us (with_user pods u.0 u.1 table) in
      ap (λ (ds : List Data). ds ++ written_users all us) (first_same u.0 u.1 us table h)
      ∙ ap (λ (ds : List Data). user_by pods u.0 u.1 ++ ds) (users_same us (with_user pods u.0 u.1 table) (user_part u.0 u.1 table h))

-- ---- the claim

status_same : (table pods : Pods) (o : Option Granted) (us : List (Key × Use)) → written_users table us ≡ written_users pods us → status_if table o us ≡ status_if pods o us
status_same table pods None us e = refl
status_same table pods (Some g) us e =
    ap (λ (ds : List Data). if g.published then Some (object (member (codes "allocation") (allocation_json g) (member_if (codes "reservedFor") (items_if ds) no_members))) else None) e

pub claim_same : (pods : Pods) (c : ClaimState) → claim_json (with_users pods c.users []) c ≡ claim_json pods c
unfolding claim_json
claim_same pods c =
    ap (λ (o : Option Data). object_json resource_version (codes "ResourceClaim") (key_metadata_json c.claim.object.key c.claim.version c.claim.uid) (Some (claim_spec_json c.claim.object)) o)
    (status_same (with_users pods c.users []) pods c.grant c.users (users_same pods c.users [] (λ q. inl refl)))
