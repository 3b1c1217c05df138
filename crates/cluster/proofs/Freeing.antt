-- Putting the claims back at their keys without the pod's uses takes the uses away.
use Rattle.std.proofs.Common.{ℕ, ◌≡◌, ◌∙◌, List, [], ◌∷◌, Bool, true, false, ◌||◌, cond, Option, None, Some, map, option_map, refl, sym, ap}
use Rattle.std.specs.List.{list_any}
use Rattle.std.specs.Option.{option_map_or}
use Rattle.std.specs.Ordering.{is_eq, ordering_then}
use Rattle.std.specs.declared.cmp.Ordering.{Ordering}
use Rattle.std.specs.declared.cmp.Ordering.TheVariants.{Less, Equal, Greater}
use Rattle.std.specs.Cmp.Lexicographic.{texts_ties}
use Rattle.std.specs.BTreeMap.{is_at}
use Rattle.std.specs.Map.{lookup, set_value}
use Rattle.std.proofs.lemmas.Bool.{and_parts}
use Rattle.std.proofs.lemmas.Map.Steps.{set_value_same}
use Rattle.object_fields.specs.declared.key.Key.{Key}
use Rattle.api_cluster.specs.declared.types.Pod.{Pod}
use Rattle.api_cluster.specs.declared.types.PodResourceClaim.{PodResourceClaim}
use Rattle.pool_view.specs.Names.{at_key, key_cmp, key_eq, text_cmp, text_eq}
use Rattle.cluster.specs.declared.state.ClaimState.{ClaimState}
use Rattle.cluster.specs.declared.state.PodState.{PodState}
use Rattle.cluster.specs.Claims.{claim_keys, first_places}
use Rattle.cluster.specs.Freed.{claims_by, freed, with_freed}
use Rattle.cluster.specs.Leaving.{leaving, leaving_at, leaving_by, leaving_each, left, left_at}
use Rattle.cluster.specs.Tables.{changed_at}
use Rattle.cluster.proofs.Equal.{text_exact}

abbrev Claims : Type 0
Claims = List (Key × ClaimState)

-- ---- equal keys

same_by_text : (a b : List ℕ) → is_eq (text_cmp a b) ≡ true → a ≡ b
same_by_text a b e = text_exact.sound a b (texts_ties a b ∙ e)

same_names : (m n a b : List ℕ) → m ≡ n → a ≡ b → ◌≡◌ {A = Key} (record { namespace = m; name = a }) (record { namespace = n; name = b })
same_names m n a b e f = cc

then_by : (o p : Ordering) → is_eq (ordering_then o p) ≡ true → (is_eq o ≡ true) × (is_eq p ≡ true)
then_by Less p e = absurd (cc)
then_by Equal p e = (refl, e)
then_by Greater p e = absurd (cc)

same_by_cmp : (a b : Key) → is_eq (key_cmp a b) ≡ true → a ≡ b
same_by_cmp a b e =
    let parts = then_by (text_cmp a.namespace b.namespace) (text_cmp a.name b.name) e in
    same_names a.namespace b.namespace a.name b.name (same_by_text a.namespace b.namespace parts.0) (same_by_text a.name b.name parts.1)

same_by_eq : (a b : Key) → key_eq a b ≡ true → a ≡ b
same_by_eq a b e =
    let parts = and_parts (text_eq a.namespace b.namespace) (text_eq a.name b.name) e in
    same_names a.namespace b.namespace a.name b.name (text_exact.sound a.namespace b.namespace parts.0) (text_exact.sound a.name b.name parts.1)

key_itself : (k : Key) → key_eq k k ≡ true
key_itself k = rw (text_exact.whole k.namespace, text_exact.whole k.name) refl

-- ---- what is at a key of a table with another value

some_same : (v w : ClaimState) → Some v ≡ Some w → v ≡ w
some_same v w e = cc

here_by : (test : Key → Bool) (b : Bool) (e : Key × ClaimState) (es : Claims) (v w : ClaimState) → test e.0 ≡ b → cond b (Some e.1) (lookup test es) ≡ Some v
    → (lookup test es ≡ Some v → lookup test (set_value test es w) ≡ Some w) → lookup test (set_value test (e ∷ es) w) ≡ Some w
here_by test true e es v w is there later = rw (is) (rw (is) refl)
here_by test false e es v w is there later = rw (is) (rw (is) (later there))

-- what is put instead of another
set_here : (test : Key → Bool) (es : Claims) (v w : ClaimState) → lookup test es ≡ Some v → lookup test (set_value test es w) ≡ Some w
set_here test [] v w there = absurd (cc)
set_here test (e ∷ es) v w there = here_by test (test e.0) e es v w refl there (λ g. set_here test es v w g)

there_by : (k j : Key) (b c : Bool) (e : Key × ClaimState) (es : Claims) (w : ClaimState) → key_eq k j ≡ false → is_eq (key_cmp k e.0) ≡ b → is_eq (key_cmp j e.0) ≡ c
    → at_key (set_value (is_at (key_cmp k)) es w) j ≡ at_key es j → at_key (set_value (is_at (key_cmp k)) (e ∷ es) w) j ≡ at_key (e ∷ es) j
there_by k j true true e es w apart is at later =
    let same : k ≡ j = same_by_cmp k e.0 is ∙ sym (same_by_cmp j e.0 at) in
    let itself : key_eq k j ≡ true = ap (λ x. key_eq k x) (sym same) ∙ key_itself k in
    absurd (cc)
there_by k j true false e es w apart is at later = rw (is) (rw (at) refl)
there_by k j false true e es w apart is at later = rw (is) (rw (at) refl)
there_by k j false false e es w apart is at later = rw (is) (rw (at) later)

-- the others
set_there : (k j : Key) (es : Claims) (w : ClaimState) → key_eq k j ≡ false → at_key (set_value (is_at (key_cmp k)) es w) j ≡ at_key es j
set_there k j [] w apart = refl
set_there k j (e ∷ es) w apart = there_by k j (is_eq (key_cmp k e.0)) (is_eq (key_cmp j e.0)) e es w apart refl refl (set_there k j es w apart)

changed_here_by : (k : Key) (f : ClaimState → ClaimState) (t : Claims) (o : Option ClaimState) → at_key t k ≡ o → at_key (option_map_or (λ c. set_value (is_at (key_cmp k)) t (f c)) o t) k ≡ option_map f o
changed_here_by k f t None is = is
changed_here_by k f t (Some c) is = set_here (is_at (key_cmp k)) t c (f c) is

changed_here : (k : Key) (f : ClaimState → ClaimState) (t : Claims) → at_key (changed_at k f t) k ≡ option_map f (at_key t k)
changed_here k f t = changed_here_by k f t (at_key t k) refl

changed_there_by : (k j : Key) (f : ClaimState → ClaimState) (t : Claims) (o : Option ClaimState) → key_eq k j ≡ false → at_key (option_map_or (λ c. set_value (is_at (key_cmp k)) t (f c)) o t) j ≡ at_key t j
changed_there_by k j f t None apart = refl
changed_there_by k j f t (Some c) apart = set_there k j t (f c) apart

changed_there : (k j : Key) (f : ClaimState → ClaimState) (t : Claims) → key_eq k j ≡ false → at_key (changed_at k f t) j ≡ at_key t j
changed_there k j f t apart = changed_there_by k j f t (at_key t k) apart

-- ---- tables in which the seen claims were changed

abbrev in_seen : List Key → Key → Bool
in_seen seen k = list_any (λ l. key_eq l k) seen

abbrev Changed : (ClaimState → ClaimState) → Claims → List Key → Claims → Type 0
Changed f old seen t = (k : Key) → at_key t k ≡ cond (in_seen seen k) (option_map f (at_key old k)) (at_key old k)

more_by : (f : ClaimState → ClaimState) (old : Claims) (seen : List Key) (k j : Key) (t : Claims) (b : Bool) → key_eq k j ≡ b → in_seen seen k ≡ false → Changed f old seen t
    → at_key (changed_at k f t) j ≡ cond (b || in_seen seen j) (option_map f (at_key old j)) (at_key old j)
more_by f old seen k j t true same new changed =
    let before : at_key t k ≡ at_key old k = changed k ∙ ap (λ b. cond b (option_map f (at_key old k)) (at_key old k)) new in
    let after : at_key (changed_at k f t) k ≡ option_map f (at_key old k) = changed_here k f t ∙ ap (option_map f) before in
    ap (λ x. at_key (changed_at k f t) x) (sym (same_by_eq k j same)) ∙ after ∙ ap (λ x. option_map f (at_key old x)) (same_by_eq k j same)
more_by f old seen k j t false apart new changed = changed_there k j f t apart ∙ changed j

more : (f : ClaimState → ClaimState) (old : Claims) (seen : List Key) (k : Key) (t : Claims) → in_seen seen k ≡ false → Changed f old seen t → Changed f old (k ∷ seen) (changed_at k f t)
more f old seen k t new changed = λ j. more_by f old seen k j t (key_eq k j) refl new changed

-- ---- what was prepared, put there

first_by : (k : Key) (f : ClaimState → ClaimState) (t : Claims) (o : Option ClaimState) → at_key t k ≡ o → left_at k (option_map f o) t ≡ option_map_or (λ c. set_value (is_at (key_cmp k)) t (f c)) o t
first_by k f t None is = refl
first_by k f t (Some c) is = ap (λ o. option_map_or (λ x. set_value (is_at (key_cmp k)) t (f c)) o t) is

-- a claim that wasn't seen is changed
first : (k : Key) (f : ClaimState → ClaimState) (t : Claims) → left_at k (option_map f (at_key t k)) t ≡ changed_at k f t
first k f t = first_by k f t (at_key t k) refl

again_by : (k : Key) (t : Claims) (o : Option ClaimState) → at_key t k ≡ o → left_at k o t ≡ t
again_by k t None is = refl
again_by k t (Some c) is = ap (λ o. option_map_or (λ x. set_value (is_at (key_cmp k)) t c) o t) is ∙ set_value_same (is_at (key_cmp k)) t c is

-- the claim that is there, put there
again : (k : Key) (t : Claims) → left_at k (at_key t k) t ≡ t
again k t = again_by k t (at_key t k) refl

module _ (index : ℕ) (pod : Key) (old : Claims) where
  put_by : (seen : List Key) (k : Key) (ks : List Key) (t : Claims) (b : Bool) → in_seen seen k ≡ b → Changed (freed index pod) old seen t
      → ((u : Claims) → Changed (freed index pod) old seen u → left (map (leaving_at index pod old) ks) u ≡ with_freed index pod (first_places seen ks) u)
      → ((u : Claims) → Changed (freed index pod) old (k ∷ seen) u → left (map (leaving_at index pod old) ks) u ≡ with_freed index pod (first_places (k ∷ seen) ks) u)
      → left (map (leaving_at index pod old) ks) (left_at k (option_map (freed index pod) (at_key old k)) t) ≡ with_freed index pod (cond b (first_places seen ks) (k ∷ first_places (k ∷ seen) ks)) t
  put_by seen k ks t true is changed here later =
      let there : at_key t k ≡ option_map (freed index pod) (at_key old k) = changed k ∙ ap (λ b. cond b (option_map (freed index pod) (at_key old k)) (at_key old k)) is in
      ap (λ o. left (map (leaving_at index pod old) ks) (left_at k o t)) (sym there) ∙ ap (λ u. left (map (leaving_at index pod old) ks) u) (again k t) ∙ here t changed
  put_by seen k ks t false is changed here later =
      let there : at_key t k ≡ at_key old k = changed k ∙ ap (λ b. cond b (option_map (freed index pod) (at_key old k)) (at_key old k)) is in
      ap (λ o. left (map (leaving_at index pod old) ks) (left_at k (option_map (freed index pod) o) t)) (sym there)
      ∙ ap (λ u. left (map (leaving_at index pod old) ks) u) (first k (freed index pod) t)
      ∙ later (changed_at k (freed index pod) t) (more (freed index pod) old seen k t is changed)

  put_each : (ks seen : List Key) (t : Claims) → Changed (freed index pod) old seen t → left (map (leaving_at index pod old) ks) t ≡ with_freed index pod (first_places seen ks) t
  put_each [] seen t changed = refl
  put_each (k ∷ ks) seen t changed =
      put_by seen k ks t (in_seen seen k) refl changed (λ u h. put_each ks seen u h) (λ u h. put_each ks (k ∷ seen) u h)

  named : (namespace : List ℕ) (cs : List PodResourceClaim) → map (leaving index pod old namespace) cs ≡ map (leaving_at index pod old) (map (λ c. record { namespace = namespace; name = c.claim }) cs)
  named namespace [] = refl
  named namespace (c ∷ cs) = ap (λ ls. leaving index pod old namespace c ∷ ls) (named namespace cs)

  left_each : (p : Pod) → left (leaving_each index pod old p) old ≡ with_freed index pod (first_places [] (claim_keys p)) old
  left_each p = ap (λ ls. left ls old) (named p.key.namespace p.claims) ∙ put_each (claim_keys p) [] old (λ k. refl)

  pub left_is : (o : Option PodState) → left (leaving_by index pod old o) old ≡ with_freed index pod (claims_by o) old
  left_is None = refl
  left_is (Some p) = left_each p.pod.object
