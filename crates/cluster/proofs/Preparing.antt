-- Putting what was prepared into the claims makes the plan's grants and its joins.
use Rattle.std.proofs.Common.{ℕ, ◌≡◌, ◌∙◌, ◌++◌, List, [], ◌∷◌, Bool, true, false, cond, Option, None, Some, map, refl, sym, ap}
use Rattle.std.specs.Option.{option_map_or}
use Rattle.std.specs.Ordering.{ordering_reverse}
use Rattle.std.specs.declared.cmp.Ordering.{Ordering}
use Rattle.std.specs.declared.cmp.Ordering.TheVariants.{Less, Equal, Greater}
use Rattle.std.specs.Cmp.Lexicographic.{nat_list_cmp_total}
use Rattle.std.specs.BTreeMap.{insert_entry, is_at}
use Rattle.std.specs.Map.{lookup, set_value}
use Rattle.object_fields.specs.declared.key.Key.{Key}
use Rattle.pool_view.specs.Names.{at_key, key_cmp, text_cmp}
use Rattle.cluster.specs.declared.plan.DeviceResult.{DeviceResult}
use Rattle.cluster.specs.declared.plan.Grant.{Grant}
use Rattle.cluster.specs.declared.plan.Plan.{Plan}
use Rattle.cluster.specs.declared.reserved.Prepared.{Prepared}
use Rattle.cluster.specs.declared.state.ClaimState.{ClaimState}
use Rattle.cluster.specs.declared.state.Granted.{Granted}
use Rattle.cluster.specs.declared.state.Use.{Use}
use Rattle.cluster.specs.declared.state.Use.TheVariants.{Assumed}
use Rattle.cluster.specs.Prepared.{given_by, granted_use, joined_use, placed, users_with, uses_of}
use Rattle.cluster.specs.Reserved.{joined_by, with_grant, with_grants, with_joins}
use Rattle.cluster.specs.Tables.{changed_at}

abbrev Claims : Type 0
Claims = List (Key × ClaimState)

-- ---- a user put twice

own_reverse : (o : Ordering) → o ≡ ordering_reverse o → o ≡ Equal
own_reverse Less e = absurd (cc)
own_reverse Equal e = refl
own_reverse Greater e = absurd (cc)

text_same : (t : List ℕ) → text_cmp t t ≡ Equal
text_same t = own_reverse (text_cmp t t) (nat_list_cmp_total.antisymm t t)

key_same : (k : Key) → key_cmp k k ≡ Equal
key_same k = rw (text_same k.namespace, text_same k.name) refl

twice_by : (o : Ordering) (k : Key) (v : Use) (e : Key × Use) (es : List (Key × Use)) → key_cmp k e.0 ≡ o → key_cmp k k ≡ Equal
    → insert_entry key_cmp (insert_entry key_cmp es k v) k v ≡ insert_entry key_cmp es k v
    → insert_entry key_cmp (insert_entry key_cmp (e ∷ es) k v) k v ≡ insert_entry key_cmp (e ∷ es) k v
twice_by Less k v e es is same later = rw is (rw same refl)
twice_by Equal k v e es is same later = rw is (rw is refl)
twice_by Greater k v e es is same later = rw is (rw is (ap (λ us. e ∷ us) later))

twice : (es : List (Key × Use)) (k : Key) (v : Use) → insert_entry key_cmp (insert_entry key_cmp es k v) k v ≡ insert_entry key_cmp es k v
twice [] k v = rw (key_same k) refl
twice (e ∷ es) k v = twice_by (key_cmp k e.0) k v e es refl (key_same k) (twice es k v)

-- ---- tables in which the pod would make the same users

abbrev Same : Key → Claims → Claims → Type 0
Same pod old new = (k : Key) → users_with pod (at_key new k) ≡ users_with pod (at_key old k)

some_same : (v w : ClaimState) → Some v ≡ Some w → v ≡ w
some_same v w e = cc

set_by : (pod : Key) (test other : Key → Bool) (b c : Bool) (e : Key × ClaimState) (es : Claims) (v w : ClaimState) → test e.0 ≡ b → other e.0 ≡ c → cond b (Some e.1) (lookup test es) ≡ Some v
    → users_with pod (Some w) ≡ users_with pod (Some v) → (lookup test es ≡ Some v → users_with pod (lookup other (set_value test es w)) ≡ users_with pod (lookup other es))
    → users_with pod (lookup other (set_value test (e ∷ es) w)) ≡ users_with pod (lookup other (e ∷ es))
set_by pod test other true true e es v w is at there same later = rw (is) (rw (at) (same ∙ ap (λ (x : ClaimState). users_with pod (Some x)) (sym (some_same e.1 v there))))
set_by pod test other true false e es v w is at there same later = rw (is) (rw (at) refl)
set_by pod test other false true e es v w is at there same later = rw (is) (rw (at) refl)
set_by pod test other false false e es v w is at there same later = rw (is) (rw (at) (later there))

set_same : (pod : Key) (test other : Key → Bool) (es : Claims) (v w : ClaimState) → lookup test es ≡ Some v → users_with pod (Some w) ≡ users_with pod (Some v)
    → users_with pod (lookup other (set_value test es w)) ≡ users_with pod (lookup other es)
set_same pod test other [] v w there same = refl
set_same pod test other (e ∷ es) v w there same = set_by pod test other (test e.0) (other e.0) e es v w refl refl there same (λ g. set_same pod test other es v w g same)

changed_by : (pod k : Key) (f : ClaimState → ClaimState) (t : Claims) (o : Option ClaimState) → at_key t k ≡ o → ((c : ClaimState) → users_with pod (Some (f c)) ≡ users_with pod (Some c))
    → Same pod t (option_map_or (λ c. set_value (is_at (key_cmp k)) t (f c)) o t)
changed_by pod k f t None is same = λ j. refl
changed_by pod k f t (Some c) is same = λ j. set_same pod (is_at (key_cmp k)) (is_at (key_cmp j)) t c (f c) is (same c)

changed_same : (pod k : Key) (f : ClaimState → ClaimState) (t : Claims) → ((c : ClaimState) → users_with pod (Some (f c)) ≡ users_with pod (Some c)) → Same pod t (changed_at k f t)
changed_same pod k f t same = changed_by pod k f t (at_key t k) refl same

then_same : (pod : Key) (a b c : Claims) → Same pod a b → Same pod b c → Same pod a c
then_same pod a b c f g = λ k. g k ∙ f k

grant_same : (node : List ℕ) (pod k : Key) (results : List DeviceResult) (t : Claims) → Same pod t (with_grant node pod k results t)
grant_same node pod k results t = changed_same pod k _ t (λ c. twice c.users pod (Assumed c.claim.version))

join_same : (pod k : Key) (t : Claims) → Same pod t (changed_at k (joined_by pod) t)
join_same pod k t = changed_same pod k (joined_by pod) t (λ c. twice c.users pod (Assumed c.claim.version))

grants_same : (node : List ℕ) (pod : Key) (gs : List Grant) (t : Claims) → Same pod t (with_grants node pod gs t)
grants_same node pod [] t = λ k. refl
grants_same node pod (g ∷ gs) t =
    let next = with_grant node pod g.claim g.results t in
    then_same pod t next (with_grants node pod gs next) (grant_same node pod g.claim g.results t) (grants_same node pod gs next)

-- ---- what was prepared, put there

abbrev the_grant : List ℕ → List DeviceResult → Granted
the_grant node results = record { node = node; results = results; published = false }

grant_by : (node : List ℕ) (pod k : Key) (results : List DeviceResult) (t : Claims) (users : List (Key × Use)) (o : Option ClaimState) → users ≡ users_with pod o
    → option_map_or (λ c. set_value (is_at (key_cmp k)) t (given_by (Some (the_grant node results)) users c)) o t
    ≡ option_map_or (λ c. set_value (is_at (key_cmp k)) t (record c { grant = Some (the_grant node results); users = insert_entry key_cmp c.users pod (Assumed c.claim.version) })) o t
grant_by node pod k results t users None is = refl
grant_by node pod k results t users (Some c) is = ap (λ us. set_value (is_at (key_cmp k)) t (given_by (Some (the_grant node results)) us c)) is

join_by : (pod k : Key) (t : Claims) (users : List (Key × Use)) (o : Option ClaimState) → users ≡ users_with pod o
    → option_map_or (λ c. set_value (is_at (key_cmp k)) t (given_by None users c)) o t ≡ option_map_or (λ c. set_value (is_at (key_cmp k)) t (joined_by pod c)) o t
join_by pod k t users None is = refl
join_by pod k t users (Some c) is = ap (λ us. set_value (is_at (key_cmp k)) t (given_by None us c)) is

placed_grants : (node : List ℕ) (pod : Key) (old : Claims) (gs : List Grant) (rest : List Prepared) (t : Claims) → Same pod old t
    → placed (map (granted_use node pod old) gs ++ rest) t ≡ placed rest (with_grants node pod gs t)
placed_grants node pod old [] rest t same = refl
placed_grants node pod old (g ∷ gs) rest t same =
    ap (λ x. placed (map (granted_use node pod old) gs ++ rest) x) (grant_by node pod g.claim g.results t (users_with pod (at_key old g.claim)) (at_key t g.claim) (sym (same g.claim)))
    ∙ placed_grants node pod old gs rest (with_grant node pod g.claim g.results t)
    (then_same pod old t (with_grant node pod g.claim g.results t) same (grant_same node pod g.claim g.results t))

placed_joins : (pod : Key) (old : Claims) (ks : List Key) (t : Claims) → Same pod old t → placed (map (joined_use pod old) ks) t ≡ with_joins pod ks t
placed_joins pod old [] t same = refl
placed_joins pod old (k ∷ ks) t same =
    ap (λ x. placed (map (joined_use pod old) ks) x) (join_by pod k t (users_with pod (at_key old k)) (at_key t k) (sym (same k)))
    ∙ placed_joins pod old ks (changed_at k (joined_by pod) t) (then_same pod old t (changed_at k (joined_by pod) t) same (join_same pod k t))

pub placed_is : (pod : Key) (plan : Plan) (claims : Claims) → placed (uses_of pod plan claims) claims ≡ with_joins pod plan.joins (with_grants plan.node pod plan.grants claims)
placed_is pod plan claims =
    placed_grants plan.node pod claims plan.grants (map (joined_use pod claims) plan.joins) claims (λ k. refl)
    ∙ placed_joins pod claims plan.joins (with_grants plan.node pod plan.grants claims) (grants_same plan.node pod plan.grants claims)
