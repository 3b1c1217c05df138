-- Pods keep their claims whatever entries follow, and what a written use leaves.
use Rattle.std.proofs.Common.{ℕ, ◌≡◌, ◌∙◌, ◌≤◌, List, [], ◌∷◌, Bool, true, false, not, cond, Option, None, Some, length, map, refl, sym, ap, subst, arith}
use Rattle.std.specs.Prelude.{find}
use Rattle.std.specs.Map.{lookup, remove_entry, set_value}
use Rattle.std.specs.Option.{option_map_or}
use Rattle.std.specs.Ordering.{match_ordering}
use Rattle.std.specs.BTreeMap.{insert_entry, is_at}
use Rattle.std.specs.declared.cmp.Ordering.{Ordering}
use Rattle.std.specs.declared.cmp.Ordering.TheVariants.{Less, Equal, Greater}
use Rattle.object_fields.specs.declared.key.Key.{Key}
use Rattle.api_claim.specs.Limits.{EachOf}
use Rattle.api_cluster.specs.declared.types.PodResourceClaim.{PodResourceClaim}
use Rattle.cluster.specs.declared.object.Object.{Object}
use Rattle.cluster.specs.declared.object.Object.TheVariants as object
use Rattle.cluster.specs.declared.object.Target.{Target}
use Rattle.cluster.specs.declared.object.Target.TheVariants as target
use Rattle.cluster.specs.declared.entry.Event.{Event}
use Rattle.cluster.specs.declared.entry.Event.TheVariants.{Applied, Deleted, Reserved, Refused, Wrote, Conflict, Unreserved, Bound, VerdictGiven, Contended, Released, Adopted, Denied}
use Rattle.cluster.specs.declared.state.ClaimState.{ClaimState}
use Rattle.cluster.specs.declared.state.PodState.{PodState}
use Rattle.cluster.specs.declared.state.State.{State}
use Rattle.cluster.specs.declared.state.Use.{Use}
use Rattle.cluster.specs.declared.state.Use.TheVariants.{Written}
use Rattle.cluster.specs.Claims.{first_places}
use Rattle.cluster.specs.Events.{after}
use Rattle.cluster.specs.State.{claims_of, has_written, is_written, use_in}
use Rattle.cluster.specs.Tables.{changed_at, put_at}
use Rattle.cluster.specs.Wrote.{with_written, written_by}
use Rattle.pool_view.specs.Names.{at_key, key_cmp}
use Rattle.histories.specs.Wrote.{MayWrite}
use Rattle.short_jobs.specs.Short.{IsSmall, PodsHaveFewClaims}

-- ---- tables of which each value keeps something

abbrev Each : {K V : Type 0} → (V → Type 0) → List (K × V) → Type 0
Each P es = EachOf (λ e. P e.1) es

by_order : {A : Type 0} (Q : A → Type 0) (o : Ordering) (x y z : A) → Q x → Q y → Q z → Q (match_ordering o x y z)
by_order Q Less x y z a b c = a
by_order Q Equal x y z a b c = b
by_order Q Greater x y z a b c = c

by_test : {A : Type 0} (Q : A → Type 0) (b : Bool) (x y : A) → Q x → Q y → Q (cond b x y)
by_test Q true x y a b = a
by_test Q false x y a b = b

inserted : {K V : Type 0} (P : V → Type 0) (cmp : K → K → Ordering) (es : List (K × V)) (k : K) (v : V) → Each P es → P v → Each P (insert_entry cmp es k v)
inserted P cmp [] k v h p = (p, tt)
inserted P cmp (e ∷ es) k v h p =
    by_order (Each P) (cmp k e.0) ((k, v) ∷ e ∷ es) ((e.0, v) ∷ es) (e ∷ insert_entry cmp es k v) (p, h) (p, h.1) (h.0, inserted P cmp es k v h.1 p)

set_kept : {K V : Type 0} (P : V → Type 0) (test : K → Bool) (es : List (K × V)) (v : V) → Each P es → P v → Each P (set_value test es v)
set_kept P test [] v h p = h
set_kept P test (e ∷ es) v h p =
    by_test (Each P) (test e.0) ((e.0, v) ∷ es) (e ∷ set_value test es v) (p, h.1) (h.0, set_kept P test es v h.1 p)

removed : {K V : Type 0} (P : V → Type 0) (test : K → Bool) (es : List (K × V)) → Each P es → Each P (remove_entry test es)
removed P test [] h = h
removed P test (e ∷ es) h = by_test (Each P) (test e.0) es (e ∷ remove_entry test es) h.1 (h.0, removed P test es h.1)

some_same : {V : Type 0} (v w : V) → Some v ≡ Some w → v ≡ w
some_same v w h = cc

found_by : {K V : Type 0} (P : V → Type 0) (test : K → Bool) (b : Bool) (e : K × V) (es : List (K × V)) (v : V) → cond b (Some e.1) (lookup test es) ≡ Some v → P e.1 → (lookup test es ≡ Some v → P v) → P v
found_by P test true e es v h p later = subst P (some_same e.1 v h) p
found_by P test false e es v h p later = later h

found : {K V : Type 0} (P : V → Type 0) (test : K → Bool) (es : List (K × V)) (v : V) → Each P es → lookup test es ≡ Some v → P v
found P test [] v h f = absurd (cc)
found P test (e ∷ es) v h f = found_by P test (test e.0) e es v f h.0 (λ g. found P test es v h.1 g)

changed_by : {V : Type 0} (P : V → Type 0) (key : Key) (f : V → V) (table : List (Key × V)) (o : Option V) → at_key table key ≡ o → Each P table → ((v : V) → P v → P (f v)) → Each P (option_map_or (λ v. set_value (is_at (key_cmp key)) table (f v)) o table)
changed_by P key f table None is h step = h
changed_by P key f table (Some v) is h step =
    set_kept P (is_at (key_cmp key)) table (f v) h (step v (found P (is_at (key_cmp key)) table v h is))

changed : {V : Type 0} (P : V → Type 0) (key : Key) (f : V → V) (table : List (Key × V)) → Each P table → ((v : V) → P v → P (f v)) → Each P (changed_at key f table)
changed P key f table h step = changed_by P key f table (at_key table key) refl h step

put_kept : {V : Type 0} (P : V → Type 0) (key : Key) (new : V) (f : V → V) (table : List (Key × V)) (o : Option V) → at_key table key ≡ o → Each P table → P new → ((v : V) → P v → P (f v)) → Each P (put_at key new f table o)
put_kept P key new f table None is h p step = inserted P key_cmp table key new h p
put_kept P key new f table (Some v) is h p step = set_kept P (is_at (key_cmp key)) table (f v) h (step v (found P (is_at (key_cmp key)) table v h is))

-- ---- each change of a state

abbrev Fits : PodState → Type 0
Fits p = length p.pod.object.claims ≤ 1

applied : (index : ℕ) (job : ℕ) (x : Object) (mode : _) (s : State) → IsSmall x → PodsHaveFewClaims s → PodsHaveFewClaims (after index job (Applied x mode) s)
applied index job (object.Node x) mode s small h = h
applied index job (object.Slice x) mode s small h = h
applied index job (object.Class x) mode s small h = h
applied index job (object.Claim x) mode s small h = h
applied index job (object.Pod x) mode s small h = put_kept Fits x.key _ _ s.pods (at_key s.pods x.key) refl h small (λ p l. small)

deleted : (index job : ℕ) (t : Target) (s : State) → PodsHaveFewClaims s → PodsHaveFewClaims (after index job (Deleted t) s)
deleted index job (target.Node name) s h = h
deleted index job (target.Slice name) s h = h
deleted index job (target.Class name) s h = h
deleted index job (target.Claim key) s h = h
deleted index job (target.Pod key) s h = removed Fits (is_at (key_cmp key)) s.pods h

-- an object that the event applies is small
abbrev pub IsSmallEvent : Event → Type 0
IsSmallEvent (Applied x mode) = IsSmall x
IsSmallEvent (Deleted target) = Unit {0}
IsSmallEvent (Reserved pod plan) = Unit {0}
IsSmallEvent (Refused pod plan why) = Unit {0}
IsSmallEvent (Wrote pod claim seen) = Unit {0}
IsSmallEvent (Conflict pod claim had now) = Unit {0}
IsSmallEvent (Unreserved pod) = Unit {0}
IsSmallEvent (Bound pod node) = Unit {0}
IsSmallEvent (VerdictGiven pod verdict) = Unit {0}
IsSmallEvent (Contended pod failed) = Unit {0}
IsSmallEvent (Released pod) = Unit {0}
IsSmallEvent (Adopted claim status) = Unit {0}
IsSmallEvent (Denied command refusal) = Unit {0}

pub few_after : (index job : ℕ) (event : Event) (s : State) → IsSmallEvent event → PodsHaveFewClaims s → PodsHaveFewClaims (after index job event s)
few_after index job (Applied x mode) s small h = applied index job x mode s small h
few_after index job (Deleted target) s small h = deleted index job target s h
few_after index job (Reserved pod plan) s small h = changed Fits pod _ s.pods h (λ p k. k)
few_after index job (Refused pod plan why) s small h = h
few_after index job (Wrote pod claim seen) s small h = h
few_after index job (Conflict pod claim had now) s small h = h
few_after index job (Unreserved pod) s small h = changed Fits pod _ s.pods h (λ p k. k)
few_after index job (Bound pod node) s small h = changed Fits pod _ s.pods h (λ p k. k)
few_after index job (VerdictGiven pod verdict) s small h = h
few_after index job (Contended pod failed) s small h = h
few_after index job (Released pod) s small h = changed Fits pod _ s.pods h (λ p k. k)
few_after index job (Adopted claim status) s small h = h
few_after index job (Denied command refusal) s small h = h

-- ---- the claims of a pod that has one at most

firsts_few : (ks : List Key) → length ks ≤ 1 → length (first_places [] ks) ≤ 1
firsts_few [] h = omega arith
firsts_few (k ∷ []) h = omega arith
firsts_few (k ∷ l ∷ ks) h = absurd (omega (arith, h))

keys_few : (f : PodResourceClaim → Key) (cs : List PodResourceClaim) → length cs ≤ 1 → length (map f cs) ≤ 1
keys_few f [] h = omega arith
keys_few f (c ∷ []) h = omega arith
keys_few f (c ∷ d ∷ cs) h = absurd (omega (arith, h))

claims_few : (p : PodState) → length p.pod.object.claims ≤ 1 → length (claims_of p) ≤ 1
claims_few p h = firsts_few _ (keys_few _ p.pod.object.claims h)

none_after : {A : Type 0} (f : A → Bool) (x y : A) → cond (f x) (Some x) None ≡ Some y → y ≡ x
none_after f x y h = by (f x) h
  where
    by : (b : Bool) → cond b (Some x) None ≡ Some y → y ≡ x
    by true e = sym (some_same x y e)
    by false e = absurd (cc)

-- the one that is found in a list of at most one
one_found : {A : Type 0} (f : A → Bool) (xs : List A) (x : A) → length xs ≤ 1 → find f xs ≡ Some x → xs ≡ x ∷ []
one_found f [] x h e = absurd (cc)
one_found f (y ∷ []) x h e = ap (λ z. z ∷ []) (sym (none_after f y x e))
one_found f (y ∷ z ∷ xs) x h e = absurd (omega (arith, h))

-- ---- what a written use leaves

set_by : {K V : Type 0} (test : K → Bool) (e : K × V) (es : List (K × V)) (v w : V) (b : Bool) → test e.0 ≡ b → cond b (Some e.1) (lookup test es) ≡ Some v → (lookup test es ≡ Some v → lookup test (set_value test es w) ≡ Some w)
    → lookup test (cond b ((e.0, w) ∷ es) (e ∷ set_value test es w)) ≡ Some w
set_by test e es v w true is h later = rw is refl
set_by test e es v w false is h later = rw is (later h)

set_found : {K V : Type 0} (test : K → Bool) (es : List (K × V)) (v w : V) → lookup test es ≡ Some v → lookup test (set_value test es w) ≡ Some w
set_found test [] v w h = absurd (cc)
set_found test (e ∷ es) v w h = set_by test e es v w (test e.0) refl h (λ g. set_found test es v w g)

changed_found : {V : Type 0} (key : Key) (f : V → V) (table : List (Key × V)) (v : V) → at_key table key ≡ Some v → at_key (changed_at key f table) key ≡ Some (f v)
changed_found key f table v h =
    ap (λ o. at_key (option_map_or (λ w. set_value (is_at (key_cmp key)) table (f w)) o table) key) h ∙ set_found (is_at (key_cmp key)) table v (f v) h

use_found : (pod : Key) (u : Use) (o : Option ClaimState) → use_in pod o ≡ Some u → (c : ClaimState) × (o ≡ Some c) × (at_key c.users pod ≡ Some u)
use_found pod u None h = absurd (cc)
use_found pod u (Some c) h = (c, refl, h)

written_now : (index : ℕ) (pod claim : Key) (s : State) (u : Use) → use_in pod (at_key s.claims claim) ≡ Some u → has_written (with_written index pod claim s) pod claim ≡ true
written_now index pod claim s u h =
    let c = use_found pod u (at_key s.claims claim) h in
    ap (λ o. is_written (use_in pod o)) (changed_found claim (written_by index pod) s.claims c.0 c.1)
    ∙ ap is_written (changed_found pod (λ _. Written) c.0.users u c.2)

-- no use of the pod is left to be written
pub record NoneLeft (s : State) (pod : Key) : Type 0 where
  pub none : (p : PodState) (claim : Key) → at_key s.pods pod ≡ Some p → find (λ k. not (has_written s pod k)) (claims_of p) ≡ Some claim → ⊥

none_left : (written : Key → Bool) (ks : List Key) (claim k : Key) → ks ≡ claim ∷ [] → written claim ≡ true → find (λ l. not (written l)) ks ≡ Some k → ⊥
none_left written ks claim k is done h = no (sym (ap (λ l. find (λ x. not (written x)) l) is ∙ ap (λ b. cond (not b) (Some claim) None) done) ∙ h)
  where
    no : None ≡ Some k → ⊥
    no e = cc

-- the one use is written, and then none is left
pub write_is_last : (index job : ℕ) (pod claim : Key) (seen : ℕ) (s : State) → PodsHaveFewClaims s → MayWrite s pod job claim seen → NoneLeft (with_written index pod claim s) pod
write_is_last index job pod claim seen s few may = record { none = last }
  where
    last : (p : PodState) (k : Key) → at_key s.pods pod ≡ Some p → find (λ l. not (has_written (with_written index pod claim s) pod l)) (claims_of p) ≡ Some k → ⊥
    last p k there h =
        let same : may.state ≡ p = some_same may.state p (sym may.taken.there ∙ there) in
        let one : claims_of may.state ≡ claim ∷ [] =
        one_found _ (claims_of may.state) claim (claims_few may.state (found Fits (is_at (key_cmp pod)) s.pods may.state few may.taken.there)) may.next in
        none_left (λ l. has_written (with_written index pod claim s) pod l) (claims_of p) claim k (sym (ap claims_of same) ∙ one) (written_now index pod claim s _ may.assumed) h
