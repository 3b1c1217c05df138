-- How a job goes on once it has reserved.
use Rattle.std.proofs.Common.{ℕ, ◌+◌, ◌≡◌, ◌∙◌, ◌⊎◌, inl, inr, List, [], ◌∷◌, ◌++◌, Bool, true, false, cond, not, ◌||◌, Option, None, Some, refl, sym, ap, subst, map, find, filter, append_assoc, append-nil}
use Rattle.std.specs.Prelude.{is_none}
use Rattle.std.specs.List.{list_all, list_any}
use Rattle.std.specs.Option.{option_map_or}
use Rattle.std.specs.Ordering.{is_eq, ordering_reverse, ordering_then}
use Rattle.std.specs.declared.cmp.Ordering.{Ordering}
use Rattle.std.specs.declared.cmp.Ordering.TheVariants.{Less, Equal, Greater}
use Rattle.std.specs.Cmp.Lexicographic.{nat_list_cmp_total, same_text, texts_ties}
use Rattle.std.specs.BTreeMap.{insert_entry, is_at}
use Rattle.std.specs.Map.{lookup, set_value}
use Rattle.std.proofs.lemmas.Bool.{and_from, and_parts}
use Rattle.std.proofs.lemmas.Cmp.{nat_list_eq_equiv}
use Rattle.object_fields.specs.declared.key.Key.{Key}
use Rattle.api_claim.specs.declared.types.ResourceClaim.{ResourceClaim}
use Rattle.cluster.specs.declared.state.State.{State}
use Rattle.cluster.specs.declared.state.PodState.{PodState}
use Rattle.cluster.specs.declared.state.ClaimState.{ClaimState}
use Rattle.cluster.specs.declared.state.Granted.{Granted}
use Rattle.cluster.specs.declared.state.Phase.TheVariants.{Taken}
use Rattle.cluster.specs.declared.state.Use.TheVariants.{Assumed, Written}
use Rattle.cluster.specs.declared.plan.Grant.{Grant}
use Rattle.cluster.specs.declared.plan.Plan.{Plan}
use Rattle.pool_view.specs.Names.{text_cmp, text_eq, key_cmp, key_eq, at_key}
use Rattle.cluster.specs.Tables.{changed_at}
use Rattle.cluster.specs.Reserved.{joined_by, with_grant, with_grants, with_joins, with_reserved}
use Rattle.cluster.specs.Wrote.{with_written, written_by}
use Rattle.cluster.specs.Claims.{claim_keys, first_places}
use Rattle.cluster.specs.State.{claims_of, has_written, is_written, use_in, version_by, version_of}
use Rattle.request_rules.specs.Allocation.{Result}
use Rattle.request_rules.specs.Grants.{grants_from, grants_of}
use Rattle.allocations.specs.Claims.{add_ungranted, add_wanted, has_grant, joined, missing_claim, wanted, wanted_of}
use Rattle.allocations.specs.Input.{grant_of, grants_by, input_of}
use Rattle.plan_rules.specs.Plans.{PlanTrue}
use Rattle.histories.specs.GoesOn.{GoesOn}
use Rattle.histories.specs.Wrote.{IsTaken}

-- ---- keys

own_reverse : (o : Ordering) → o ≡ ordering_reverse o → o ≡ Equal
own_reverse Less e = absurd (cc)
own_reverse Equal e = refl
own_reverse Greater e = absurd (cc)

text_same : (t : List ℕ) → text_cmp t t ≡ Equal
text_same t = own_reverse (text_cmp t t) (nat_list_cmp_total.antisymm t t)

pub key_same : (k : Key) → key_cmp k k ≡ Equal
key_same k = rw (text_same k.namespace, text_same k.name) refl

text_tie : (a b : List ℕ) → text_cmp a b ≡ Equal → a ≡ b
text_tie a b e = same_text a b (sym (texts_ties a b ∙ ap is_eq e))

parts_tie : (o p : Ordering) → ordering_then o p ≡ Equal → (o ≡ Equal) × (p ≡ Equal)
parts_tie Less p e = absurd (cc)
parts_tie Equal p e = (refl, e)
parts_tie Greater p e = absurd (cc)

same_parts : (a b c d : List ℕ) → a ≡ c → b ≡ d → ◌≡◌ {A = Key} (record { namespace = a; name = b }) (record { namespace = c; name = d })
same_parts a b c d e f = cc

pub key_tie : (a b : Key) → key_cmp a b ≡ Equal → a ≡ b
key_tie a b e =
    let both = parts_tie (text_cmp a.namespace b.namespace) (text_cmp a.name b.name) e in
    same_parts a.namespace a.name b.namespace b.name (text_tie a.namespace b.namespace both.0) (text_tie a.name b.name both.1)

key_eq_same : (k : Key) → key_eq k k ≡ true
key_eq_same k = and_from (text_eq k.namespace k.namespace) (text_eq k.name k.name) (nat_list_eq_equiv.refl k.namespace) (nat_list_eq_equiv.refl k.name)

found_key : (o : Ordering) (k x : Key) → key_cmp k x ≡ o → is_eq o ≡ true → k ≡ x
found_key Less k x is e = absurd (cc)
found_key Equal k x is e = key_tie k x is
found_key Greater k x is e = absurd (cc)

-- a key that passes the test of another is that one
pub at_tie : (k x : Key) → is_at (key_cmp k) x ≡ true → k ≡ x
at_tie k x e = found_key (key_cmp k x) k x refl e

-- two keys are one, or they differ
pub same_or_not : (o : Ordering) (k j : Key) → key_cmp k j ≡ o → (k ≡ j) ⊎ (k ≡ j → ⊥)
same_or_not Less k j is = inr (λ e. let same : key_cmp k j ≡ Equal = subst (λ (x : Key). key_cmp k x ≡ Equal) e (key_same k) in absurd (cc))
same_or_not Equal k j is = inl (key_tie k j is)
same_or_not Greater k j is = inr (λ e. let same : key_cmp k j ≡ Equal = subst (λ (x : Key). key_cmp k x ≡ Equal) e (key_same k) in absurd (cc))

-- ---- what is at a key

set_by : {K X : Type 0} (test : K → Bool) (b : Bool) (e : K × X) (es : List (K × X)) (v w : X) → test e.0 ≡ b → lookup test (e ∷ es) ≡ Some v
    → (lookup test es ≡ Some v → lookup test (set_value test es w) ≡ Some w) → lookup test (set_value test (e ∷ es) w) ≡ Some w
set_by test true e es v w is h later = rw is (rw is refl)
set_by test false e es v w is h later = rw is (rw is (later (rw is at h)))

-- what was written at a key is there
set_there : {K X : Type 0} (test : K → Bool) (es : List (K × X)) (v w : X) → lookup test es ≡ Some v → lookup test (set_value test es w) ≡ Some w
set_there test [] v w h = absurd (cc)
set_there test (e ∷ es) v w h = set_by test (test e.0) e es v w refl h (λ g. set_there test es v w g)

other_by : {K X : Type 0} (test other : K → Bool) (b : Bool) (e : K × X) (es : List (K × X)) (w : X) → test e.0 ≡ b → (b ≡ true → other e.0 ≡ false)
    → lookup other (set_value test es w) ≡ lookup other es → lookup other (set_value test (e ∷ es) w) ≡ lookup other (e ∷ es)
other_by test other true e es w is apart later = rw is (rw (apart refl) refl)
other_by test other false e es w is apart later = rw is (ap (λ o. cond (other e.0) (Some e.1) o) later)

-- and what is at others is as it was
set_other : {K X : Type 0} (test other : K → Bool) (es : List (K × X)) (w : X) → ((x : K) → test x ≡ true → other x ≡ false) → lookup other (set_value test es w) ≡ lookup other es
set_other test other [] w apart = refl
set_other test other (e ∷ es) w apart = other_by test other (test e.0) e es w refl (apart e.0) (set_other test other es w apart)

insert_by : {K X : Type 0} (R : K → K → Ordering) (o : Ordering) (e : K × X) (es : List (K × X)) (k : K) (w : X) → R k k ≡ Equal → R k e.0 ≡ o
    → lookup (is_at (R k)) (insert_entry R es k w) ≡ Some w → lookup (is_at (R k)) (insert_entry R (e ∷ es) k w) ≡ Some w
insert_by R Less e es k w same is later = rw is (rw same refl)
insert_by R Equal e es k w same is later = rw is (rw is refl)
insert_by R Greater e es k w same is later = rw is (rw is later)

-- what was inserted at a key is there
pub insert_there : {K X : Type 0} (R : K → K → Ordering) (es : List (K × X)) (k : K) (w : X) → R k k ≡ Equal → lookup (is_at (R k)) (insert_entry R es k w) ≡ Some w
insert_there R [] k w same = rw same refl
insert_there R (e ∷ es) k w same = insert_by R (R k e.0) e es k w same refl (insert_there R es k w same)

-- a changed value is at its key
pub changed_there : {V : Type 0} (key : Key) (f : V → V) (table : List (Key × V)) (v : V) → at_key table key ≡ Some v → at_key (changed_at key f table) key ≡ Some (f v)
changed_there key f table v there = rw there (set_there (is_at (key_cmp key)) table v (f v) there)

pub false_by : (b : Bool) → (b ≡ true → ⊥) → b ≡ false
false_by true never = absurd (never refl)
false_by false never = refl

pub other_key : (j k x : Key) → (k ≡ j → ⊥) → is_at (key_cmp j) x ≡ true → is_at (key_cmp k) x ≡ false
other_key j k x differ e = false_by (is_at (key_cmp k) x) (λ g. differ (at_tie k x g ∙ sym (at_tie j x e)))

changed_by : {V : Type 0} (j k : Key) (f : V → V) (table : List (Key × V)) (o : Option V) → (k ≡ j → ⊥) → at_key (option_map_or (λ v. set_value (is_at (key_cmp j)) table (f v)) o table) k ≡ at_key table k
changed_by j k f table None differ = refl
changed_by j k f table (Some v) differ = set_other (is_at (key_cmp j)) (is_at (key_cmp k)) table (f v) (λ x e. other_key j k x differ e)

-- and what is at another key is as it was
pub changed_other : {V : Type 0} (j k : Key) (f : V → V) (table : List (Key × V)) → (k ≡ j → ⊥) → at_key (changed_at j f table) k ≡ at_key table k
changed_other j k f table differ = changed_by j k f table (at_key table j) differ

-- ---- keys in lists

abbrev pub In : Key → List Key → Type 0
In k [] = ⊥
In k (l ∷ ls) = (l ≡ k) ⊎ In k ls

abbrev EachKey : (Key → Type 0) → List Key → Type 0
EachKey P [] = Unit {0}
EachKey P (k ∷ ks) = P k × EachKey P ks

each_from : (P : Key → Type 0) (ks : List Key) → ((k : Key) → In k ks → P k) → EachKey P ks
each_from P [] h = tt
each_from P (k ∷ ks) h = (h k (inl refl), each_from P ks (λ l among. h l (inr among)))

each_more : (P Q : Key → Type 0) (ks : List Key) → ((k : Key) → In k ks → P k → Q k) → EachKey P ks → EachKey Q ks
each_more P Q [] step h = tt
each_more P Q (k ∷ ks) step h = (step k (inl refl) h.0, each_more P Q ks (λ l among. step l (inr among)) h.1)

kept_by : (t : Key → Bool) (b : Bool) (k l : Key) (ls : List Key) → t l ≡ b → t k ≡ true → (l ≡ k) ⊎ In k ls → (In k ls → In k (filter t ls)) → In k (cond b (l ∷ filter t ls) (filter t ls))
kept_by t true k l ls is pass (inl e) later = inl e
kept_by t true k l ls is pass (inr h) later = inr (later h)
kept_by t false k l ls is pass (inl e) later = absurd (let at_l : t l ≡ true = subst (λ (x : Key). t x ≡ true) (sym e) pass in cc)
kept_by t false k l ls is pass (inr h) later = later h

in_filter : (t : Key → Bool) (ks : List Key) (k : Key) → In k ks → t k ≡ true → In k (filter t ks)
in_filter t [] k h pass = h
in_filter t (l ∷ ls) k h pass = kept_by t (t l) k l ls refl pass h (λ g. in_filter t ls k g pass)

none_by : (t : Key → Bool) (b : Bool) (k l : Key) (ls : List Key) → t l ≡ b → cond b (Some l) (find t ls) ≡ None → (l ≡ k) ⊎ In k ls → (find t ls ≡ None → In k ls → t k ≡ false) → t k ≡ false
none_by t true k l ls is none h later = absurd (cc)
none_by t false k l ls is none (inl e) later = subst (λ (x : Key). t x ≡ false) e is
none_by t false k l ls is none (inr h) later = later none h

-- where no key passes, none of them does
pub none_passes : (t : Key → Bool) (ks : List Key) (k : Key) → find t ks ≡ None → In k ks → t k ≡ false
none_passes t [] k none h = absurd h
none_passes t (l ∷ ls) k none h = none_by t (t l) k l ls refl none h (λ n g. none_passes t ls k n g)

pub there_by : {X : Type 0} (o : Option X) → is_none o ≡ false → (x : X) × (o ≡ Some x)
there_by None e = absurd (cc)
there_by (Some x) e = (x, refl)

both : (P Q : Key → Type 0) (ks : List Key) → EachKey P ks → EachKey Q ks → EachKey (λ k. P k × Q k) ks
both P Q [] p q = tt
both P Q (k ∷ ks) p q = ((p.0, q.0), both P Q ks p.1 q.1)

-- ---- each key at its first index

abbrev Differ : List Key → Type 0
Differ [] = Unit {0}
Differ (k ∷ ks) = EachKey (λ l. l ≡ k → ⊥) ks × Differ ks

any_by : (f : Key → Bool) (b c : Bool) (k l : Key) (ls : List Key) → f l ≡ b → list_any f ls ≡ c → (b || c) ≡ false → (l ≡ k) ⊎ In k ls → (list_any f ls ≡ false → In k ls → f k ≡ false) → f k ≡ false
any_by f true c k l ls is rest none h later = absurd (cc)
any_by f false true k l ls is rest none h later = absurd (cc)
any_by f false false k l ls is rest none (inl e) later = subst (λ (x : Key). f x ≡ false) e is
any_by f false false k l ls is rest none (inr h) later = later rest h

any_none : (f : Key → Bool) (ks : List Key) (k : Key) → list_any f ks ≡ false → In k ks → f k ≡ false
any_none f [] k none h = absurd h
any_none f (l ∷ ls) k none h = any_by f (f l) (list_any f ls) k l ls refl refl none h (λ n g. any_none f ls k n g)

differs : (l k : Key) → key_eq l k ≡ false → k ≡ l → ⊥
differs l k none e = let same : key_eq l k ≡ true = subst (λ (x : Key). key_eq l x ≡ true) (sym e) (key_eq_same l) in absurd (cc)

out_by : (b : Bool) (seen : List Key) (k l : Key) (ks : List Key) → list_any (λ x. key_eq x k) seen ≡ b → In l seen → EachKey (λ x. x ≡ l → ⊥) (first_places seen ks)
    → EachKey (λ x. x ≡ l → ⊥) (first_places (k ∷ seen) ks) → EachKey (λ x. x ≡ l → ⊥) (cond b (first_places seen ks) (k ∷ first_places (k ∷ seen) ks))
out_by true seen k l ks is among same more = same
out_by false seen k l ks is among same more = (differs l k (any_none (λ x. key_eq x k) seen l is among), more)

-- what was seen isn't among them
outs : (seen ks : List Key) (l : Key) → In l seen → EachKey (λ x. x ≡ l → ⊥) (first_places seen ks)
outs seen [] l among = tt
outs seen (k ∷ ks) l among = out_by (list_any (λ x. key_eq x k) seen) seen k l ks refl among (outs seen ks l among) (outs (k ∷ seen) ks l (inr among))

differ_by : (b : Bool) (seen : List Key) (k : Key) (ks : List Key) → Differ (first_places seen ks) → Differ (first_places (k ∷ seen) ks) → Differ (cond b (first_places seen ks) (k ∷ first_places (k ∷ seen) ks))
differ_by true seen k ks same more = same
differ_by false seen k ks same more = (outs (k ∷ seen) ks k (inl refl), more)

-- the keys differ
differ : (seen ks : List Key) → Differ (first_places seen ks)
differ seen [] = tt
differ seen (k ∷ ks) = differ_by (list_any (λ x. key_eq x k) seen) seen k ks (differ seen ks) (differ (k ∷ seen) ks)

-- ---- the pod is a user of each of its claims

abbrev pub Claims : Type 0
Claims = List (Key × ClaimState)

-- the claim is there
abbrev IsThere : Claims → Key → Type 0
IsThere claims k = (c : ClaimState) × (at_key claims k ≡ Some c)

-- the claim is there, and the pod its user, who assumes its version
abbrev pub Assumes : Key → Claims → Key → Type 0
Assumes pod claims k = (c : ClaimState) × (at_key claims k ≡ Some c) × (at_key c.users pod ≡ Some (Assumed c.claim.version))

-- a change that makes the pod such a user
abbrev MakesUser : Key → (ClaimState → ClaimState) → Type 0
MakesUser pod f = (c : ClaimState) → at_key (f c).users pod ≡ Some (Assumed (f c).claim.version)

user_made : (pod k : Key) (f : ClaimState → ClaimState) (t : Claims) → MakesUser pod f → IsThere t k → Assumes pod (changed_at k f t) k
user_made pod k f t makes h = (f h.0, changed_there k f t h.0 h.1, makes h.0)

there_kept_by : (j k : Key) (f : ClaimState → ClaimState) (t : Claims) → (k ≡ j) ⊎ (k ≡ j → ⊥) → IsThere t k → IsThere (changed_at j f t) k
there_kept_by j k f t (inl e) h =
    subst (λ (x : Key). IsThere (changed_at x f t) k) e (f h.0, changed_there k f t h.0 h.1)
there_kept_by j k f t (inr differ) h = (h.0, changed_other j k f t differ ∙ h.1)

there_kept : (j k : Key) (f : ClaimState → ClaimState) (t : Claims) → IsThere t k → IsThere (changed_at j f t) k
there_kept j k f t h = there_kept_by j k f t (same_or_not (key_cmp k j) k j refl) h

user_kept_by : (pod j k : Key) (f : ClaimState → ClaimState) (t : Claims) → (k ≡ j) ⊎ (k ≡ j → ⊥) → MakesUser pod f → Assumes pod t k → Assumes pod (changed_at j f t) k
user_kept_by pod j k f t (inl e) makes h =
    subst (λ (x : Key). Assumes pod (changed_at x f t) k) e (user_made pod k f t makes (h.0, h.1))
user_kept_by pod j k f t (inr differ) makes h = (h.0, changed_other j k f t differ ∙ h.1, h.2)

user_kept : (pod j k : Key) (f : ClaimState → ClaimState) (t : Claims) → MakesUser pod f → Assumes pod t k → Assumes pod (changed_at j f t) k
user_kept pod j k f t makes h = user_kept_by pod j k f t (same_or_not (key_cmp k j) k j refl) makes h

-- the claim as a pod's grant leaves it
abbrev pub granted : List ℕ → Key → Grant → ClaimState → ClaimState
granted node pod g c = record c { grant = Some (record { node = node; results = g.results; published = false }); users = insert_entry key_cmp c.users pod (Assumed c.claim.version) }

grant_makes : (node : List ℕ) (pod : Key) (g : Grant) → MakesUser pod (granted node pod g)
grant_makes node pod g = λ c. insert_there key_cmp c.users pod (Assumed c.claim.version) (key_same pod)

join_makes : (pod : Key) → MakesUser pod (joined_by pod)
join_makes pod = λ c. insert_there key_cmp c.users pod (Assumed c.claim.version) (key_same pod)

there_granted : (node : List ℕ) (pod k : Key) (gs : List Grant) (t : Claims) → IsThere t k → IsThere (with_grants node pod gs t) k
there_granted node pod k [] t h = h
there_granted node pod k (g ∷ gs) t h =
    there_granted node pod k gs (with_grant node pod g.claim g.results t) (there_kept g.claim k (granted node pod g) t h)

grants_keep : (node : List ℕ) (pod k : Key) (gs : List Grant) (t : Claims) → Assumes pod t k → Assumes pod (with_grants node pod gs t) k
grants_keep node pod k [] t h = h
grants_keep node pod k (g ∷ gs) t h =
    grants_keep node pod k gs (with_grant node pod g.claim g.results t) (user_kept pod g.claim k (granted node pod g) t (grant_makes node pod g) h)

grants_make : (node : List ℕ) (pod k : Key) (gs : List Grant) (t : Claims) → IsThere t k → In k (map (λ g. g.claim) gs) → Assumes pod (with_grants node pod gs t) k
grants_make node pod k [] t there among = absurd among
grants_make node pod k (g ∷ gs) t there (inl e) =
    grants_keep node pod k gs (with_grant node pod g.claim g.results t)
    (subst (λ (x : Key). Assumes pod (changed_at x (granted node pod g) t) k) (sym e) (user_made pod k (granted node pod g) t (grant_makes node pod g) there))
grants_make node pod k (g ∷ gs) t there (inr among) =
    grants_make node pod k gs (with_grant node pod g.claim g.results t) (there_kept g.claim k (granted node pod g) t there) among

joins_keep : (pod k : Key) (ks : List Key) (t : Claims) → Assumes pod t k → Assumes pod (with_joins pod ks t) k
joins_keep pod k [] t h = h
joins_keep pod k (j ∷ js) t h = joins_keep pod k js (changed_at j (joined_by pod) t) (user_kept pod j k (joined_by pod) t (join_makes pod) h)

joins_make : (pod k : Key) (ks : List Key) (t : Claims) → IsThere t k → In k ks → Assumes pod (with_joins pod ks t) k
joins_make pod k [] t there among = absurd among
joins_make pod k (j ∷ js) t there (inl e) =
    joins_keep pod k js (changed_at j (joined_by pod) t)
    (subst (λ (x : Key). Assumes pod (changed_at x (joined_by pod) t) k) (sym e) (user_made pod k (joined_by pod) t (join_makes pod) there))
joins_make pod k (j ∷ js) t there (inr among) = joins_make pod k js (changed_at j (joined_by pod) t) (there_kept j k (joined_by pod) t there) among

-- ---- a plan grants or joins each of them

abbrev pub keys_in : List ResourceClaim → List Key
keys_in cs = map (λ c. c.key) cs

more_ungranted : (k l : Key) (c : ClaimState) (g : Option Granted) (cs : List ResourceClaim) → In k (keys_in cs) → In k (keys_in (add_ungranted l c g cs))
more_ungranted k l c None cs h = inr h
more_ungranted k l c (Some g) cs h = h

more_wanted : (k l : Key) (o : Option ClaimState) (cs : List ResourceClaim) → In k (keys_in cs) → In k (keys_in (add_wanted l o cs))
more_wanted k l None cs h = h
more_wanted k l (Some c) cs h = more_ungranted k l c c.grant cs h

here_wanted : (k : Key) (c : ClaimState) (o : Option ClaimState) (g : Option Granted) (cs : List ResourceClaim) → o ≡ Some c → c.grant ≡ g → g ≡ None → In k (keys_in (add_wanted k o cs))
here_wanted k c o g cs there is none = rw there (rw (is ∙ none) (inl refl))

wanted_by : (s : State) (k l : Key) (ls : List Key) (c : ClaimState) → (l ≡ k) ⊎ In k ls → at_key s.claims k ≡ Some c → c.grant ≡ None → (In k ls → In k (keys_in (wanted_of s ls)))
    → In k (keys_in (add_wanted l (at_key s.claims l) (wanted_of s ls)))
wanted_by s k l ls c (inl e) there none later =
    subst (λ (x : Key). In k (keys_in (add_wanted x (at_key s.claims x) (wanted_of s ls)))) (sym e) (here_wanted k c (at_key s.claims k) c.grant (wanted_of s ls) there refl none)
wanted_by s k l ls c (inr among) there none later = more_wanted k l (at_key s.claims l) (wanted_of s ls) (later among)

-- a claim without a grant is wanted
in_wanted : (s : State) (ks : List Key) (k : Key) (c : ClaimState) → In k ks → at_key s.claims k ≡ Some c → c.grant ≡ None → In k (keys_in (wanted_of s ks))
in_wanted s [] k c among there none = absurd among
in_wanted s (l ∷ ls) k c among there none = wanted_by s k l ls c among there none (λ g. in_wanted s ls k c g there none)

keys_from : (i : ℕ) (cs : List ResourceClaim) (rs : List Result) → map (λ g. g.claim) (map grant_of (grants_from i cs rs)) ≡ keys_in cs
keys_from i [] rs = refl
keys_from i (c ∷ cs) rs = ap (λ ks. c.key ∷ ks) (keys_from (i + 1) cs rs)

-- a plan grants the claims that are wanted
pub keys_granted : (s : State) (cs : List ResourceClaim) (node : List ℕ) (rs : List Result) → map (λ g. g.claim) (grants_by (input_of s cs node) rs) ≡ keys_in cs
unfolding grants_by grants_of input_of
keys_granted s cs node rs = keys_from 0 cs rs

pub assumed_by : (s : State) (pod : Key) (plan : Plan) (ks : List Key) (k : Key) (c : ClaimState) (g : Option Granted) → map (λ g. g.claim) plan.grants ≡ keys_in (wanted_of s ks)
    → plan.joins ≡ filter (λ l. has_grant (at_key s.claims l)) ks → In k ks → at_key s.claims k ≡ Some c → c.grant ≡ g
    → Assumes pod (with_joins pod plan.joins (with_grants plan.node pod plan.grants s.claims)) k
assumed_by s pod plan ks k c None grants joins among there is =
    joins_keep pod k plan.joins (with_grants plan.node pod plan.grants s.claims)
    (grants_make plan.node pod k plan.grants s.claims (c, there) (subst (λ (ls : List Key). In k ls) (sym grants) (in_wanted s ks k c among there is)))
assumed_by s pod plan ks k c (Some g) grants joins among there is =
    let pass : has_grant (at_key s.claims k) ≡ true = rw there (rw is refl) in
    joins_make pod k plan.joins (with_grants plan.node pod plan.grants s.claims) (there_granted plan.node pod k plan.grants s.claims (c, there))
    (subst (λ (ls : List Key). In k ls) (sym joins) (in_filter (λ l. has_grant (at_key s.claims l)) ks k among pass))

-- after the reservation the pod is a user of each of its claims
each_assumed : (s : State) (pod : Key) (plan : Plan) (t : PlanTrue s pod plan) (k : Key) → In k (claims_of t.state) → Assumes pod (with_reserved 0 pod plan s).claims k
unfolding missing_claim wanted joined
each_assumed s pod plan t k among =
    let p = t.state.pod.object in
    let h = there_by (at_key s.claims k) (none_passes (λ l. is_none (at_key s.claims l)) (claims_of t.state) k t.may_search.there among) in
    let grants : map (λ g. g.claim) plan.grants ≡ keys_in (wanted s p) = ap (λ gs. map (λ (g : Grant). g.claim) gs) t.grants ∙ keys_granted s (wanted s p) plan.node _ in
    assumed_by s pod plan (claims_of t.state) k h.0 h.0.grant grants t.joins among h.1 refl

-- ---- writing each use in order

all_more : (f : Key → Bool) (ks : List Key) (k : Key) → list_all f ks ≡ true → f k ≡ true → list_all f (ks ++ k ∷ []) ≡ true
all_more f [] k all here = and_from (f k) true here refl
all_more f (l ∷ ls) k all here =
    let parts = and_parts (f l) (list_all f ls) all in
    and_from (f l) (list_all f (ls ++ k ∷ [])) parts.0 (all_more f ls k parts.1 here)

pub all_kept : (f g : Key → Bool) (ks : List Key) → ((k : Key) → f k ≡ true → g k ≡ true) → list_all f ks ≡ true → list_all g ks ≡ true
all_kept f g [] step all = refl
all_kept f g (k ∷ ks) step all =
    let parts = and_parts (f k) (list_all f ks) all in
    and_from (g k) (list_all g ks) (step k parts.0) (all_kept f g ks step parts.1)

-- the first of those that aren't done comes after those that are
find_past : (f : Key → Bool) (done rest : List Key) → list_all f done ≡ true → find (λ k. not (f k)) (done ++ rest) ≡ find (λ k. not (f k)) rest
find_past f [] rest all = refl
find_past f (k ∷ ks) rest all =
    let parts = and_parts (f k) (list_all f ks) all in
    ap (λ b. cond (not b) (Some k) (find (λ l. not (f l)) (ks ++ rest))) parts.0 ∙ find_past f ks rest parts.1

written_now : (s : State) (pod k : Key) (index : ℕ) → Assumes pod s.claims k → has_written (with_written index pod k s) pod k ≡ true
written_now s pod k index h =
    let there : at_key (with_written index pod k s).claims k ≡ Some (written_by index pod h.0) = changed_there k (written_by index pod) s.claims h.0 h.1 in
    let user : at_key (written_by index pod h.0).users pod ≡ Some Written = changed_there pod (λ _. Written) h.0.users (Assumed h.0.claim.version) h.2 in
    ap (λ o. is_written (use_in pod o)) there ∙ ap is_written user

written_kept_by : (s : State) (pod k l : Key) (index : ℕ) → (l ≡ k) ⊎ (l ≡ k → ⊥) → Assumes pod s.claims k → has_written s pod l ≡ true → has_written (with_written index pod k s) pod l ≡ true
written_kept_by s pod k l index (inl e) h was = subst (λ (x : Key). has_written (with_written index pod k s) pod x ≡ true) (sym e) (written_now s pod k index h)
written_kept_by s pod k l index (inr differ) h was = ap (λ o. is_written (use_in pod o)) (changed_other k l (written_by index pod) s.claims differ) ∙ was

-- the job may write these uses, where those before are written, and then bind the pod
goes : (s : State) (pod : Key) (job : ℕ) (node : List ℕ) (p : PodState) (done ks : List Key) → IsTaken s pod job node p → claims_of p ≡ done ++ ks
    → list_all (λ k. has_written s pod k) done ≡ true → EachKey (Assumes pod s.claims) ks → Differ ks → GoesOn s pod job node ks
goes s pod job node p done [] taken are written assume differ =
    record { state = p; taken = taken; written = ap (λ ks. list_all (λ k. has_written s pod k) ks) (are ∙ append-nil done) ∙ written }
goes s pod job node p done (k ∷ ks) taken are written assume differ =
    let c : ClaimState = assume.0.0 in
    let used : use_in pod (at_key s.claims k) ≡ Some (Assumed c.claim.version) = ap (use_in pod) assume.0.1 ∙ assume.0.2 in
    let unwritten : has_written s pod k ≡ false = ap is_written used in
    let version : version_of s k ≡ c.claim.version = ap version_by assume.0.1 in
    let next : find (λ l. not (has_written s pod l)) (claims_of p) ≡ Some k =
    ap (λ ls. find (λ l. not (has_written s pod l)) ls) are
    ∙ find_past (λ l. has_written s pod l) done (k ∷ ks) written
    ∙ ap (λ b. cond (not b) (Some k) (find (λ l. not (has_written s pod l)) ks)) unwritten in (
      record { state = p; node = node; taken = taken; next = next; assumed = used ∙ ap (λ n. Some (Assumed n)) (sym version); version = refl },
      λ index. goes (with_written index pod k s) pod job node p (done ++ k ∷ []) ks (record { there = taken.there; taken = taken.taken }) (are ∙ sym (append_assoc done (k ∷ []) ks))
          (all_more (λ l. has_written (with_written index pod k s) pod l) done k
          (all_kept (λ l. has_written s pod l) (λ l. has_written (with_written index pod k s) pod l) done
          (λ l was. written_kept_by s pod k l index (same_or_not (key_cmp l k) l k refl) assume.0 was) written)
          (written_now s pod k index assume.0))
          (each_more (λ l. (l ≡ k → ⊥) × Assumes pod s.claims l) (Assumes pod (with_written index pod k s).claims) ks
          (λ l among h. (h.1.0, changed_other k l (written_by index pod) s.claims h.0 ∙ h.1.1, h.1.2)) (both (λ l. l ≡ k → ⊥) (Assumes pod s.claims) ks differ.0 assume.1))
          differ.1,
    )

-- the pod is taken by the job that has reserved
taken_after : (s : State) (pod : Key) (plan : Plan) (job : ℕ) (p : PodState) → at_key s.pods pod ≡ Some p
    → IsTaken (with_reserved job pod plan s) pod job plan.node (record p { phase = Taken job plan.node })
taken_after s pod plan job p there = record { there = changed_there pod (λ q. record q { phase = Taken job plan.node }) s.pods p there; taken = refl }

pub goes_on : (s : State) (pod : Key) (plan : Plan) (job : ℕ) (t : PlanTrue s pod plan) → GoesOn (with_reserved job pod plan s) pod job plan.node (claims_of t.state)
goes_on s pod plan job t =
    let p : PodState = t.state in
    goes (with_reserved job pod plan s) pod job plan.node (record p { phase = Taken job plan.node }) [] (claims_of p) (taken_after s pod plan job p t.may_search.idle.there) refl refl
    (each_from (Assumes pod (with_reserved job pod plan s).claims) (claims_of p) (λ k among. each_assumed s pod plan t k among)) (differ [] (claim_keys p.pod.object))
