-- Each object keeps its limits in each state of a legal history.
use Rattle.std.proofs.Common.{ℕ, ◌+◌, ◌≡◌, List, [], ◌∷◌, Bool, true, false, cond, Option, None, Some, length, refl, subst}
use Rattle.std.specs.Map.{lookup, remove_entry, set_value}
use Rattle.std.specs.Option.{option_map_or}
use Rattle.std.specs.Ordering.{match_ordering}
use Rattle.std.specs.BTreeMap.{insert_entry, is_at}
use Rattle.std.specs.declared.cmp.Ordering.{Ordering}
use Rattle.std.specs.declared.cmp.Ordering.TheVariants.{Less, Equal, Greater}
use Rattle.object_fields.specs.declared.key.Key.{Key}
use Rattle.api_claim.specs.Limits.{ClaimKept, EachOf}
use Rattle.api_cluster.specs.Limits.{NodeKept, ClassKept, PodKept}
use Rattle.api_slice.specs.Limits.{IsWithinLimits}
use Rattle.cluster.specs.declared.object.Object.{Object}
use Rattle.cluster.specs.declared.object.Object.TheVariants as object
use Rattle.cluster.specs.declared.object.Target.{Target}
use Rattle.cluster.specs.declared.object.Target.TheVariants as target
use Rattle.cluster.specs.declared.plan.Grant.{Grant}
use Rattle.cluster.specs.declared.state.ClaimState.{ClaimState}
use Rattle.cluster.specs.declared.state.PodState.{PodState}
use Rattle.cluster.specs.declared.state.State.{State}
use Rattle.cluster.specs.declared.state.Use.{Use}
use Rattle.cluster.specs.Limits.{ObjectKept}
use Rattle.pool_view.specs.Inventory.{Named, put_by}
use Rattle.pool_view.specs.Names.{at_key, at_name, key_cmp, text_cmp}
use Rattle.pool_view.specs.declared.stored.Stored.{Stored}
use Rattle.cluster.specs.Tables.{changed_at, put_at}
use Rattle.cluster.specs.State.{empty_state}
use Rattle.cluster.specs.Freed.{claims_by, freed, freed_by, with_freed, without_uses}
use Rattle.cluster.specs.Reserved.{joined_by, with_grant, with_grants, with_joins}
use Rattle.cluster.specs.Applied.{with_object}
use Rattle.cluster.specs.Deleted.{without_object}
use Rattle.cluster.specs.declared.entry.Entry.{Entry}
use Rattle.cluster.specs.declared.entry.Event.{Event}
use Rattle.cluster.specs.declared.entry.Event.TheVariants.{Applied, Deleted, Reserved, Refused, Wrote, Conflict, Unreserved, Bound, VerdictGiven, Contended, Released, Adopted, Denied}
use Rattle.cluster.specs.Events.{after}
use Rattle.cluster.specs.History.{state_of, state_at}
use Rattle.histories.specs.Legal.{Legal, MayFollow}
use Rattle.histories.specs.Limits.{ObjectsKept}
use Rattle.histories.proofs.Always.{always_state}
use Rattle.histories.proofs.Headlines.{at_places}

-- ---- tables of which each value keeps something

abbrev Each : {K V : Type 0} → (V → Type 0) → List (K × V) → Type 0
Each P es = EachOf (λ e. P e.1) es

by_order : {A : Type 0} (Q : A → Type 0) (o : Ordering) (x y z : A) → Q x → Q y → Q z → Q (match_ordering o x y z)
by_order Q Less x y z a b c = a
by_order Q Equal x y z a b c = b
by_order Q Greater x y z a b c = c

by_test : {A : Type 0} (Q : A → Type 0) (b : Bool) (x y : A) → Q x → Q y → Q (cond b x y)
by_test Q true x y a b = a
by_test Q false x y a b = b

pub inserted : {K V : Type 0} (P : V → Type 0) (cmp : K → K → Ordering) (es : List (K × V)) (k : K) (v : V) → Each P es → P v → Each P (insert_entry cmp es k v)
inserted P cmp [] k v h p = (p, tt)
inserted P cmp (e ∷ es) k v h p =
    by_order (Each P) (cmp k e.0) ((k, v) ∷ e ∷ es) ((e.0, v) ∷ es) (e ∷ insert_entry cmp es k v) (p, h) (p, h.1) (h.0, inserted P cmp es k v h.1 p)

pub set_kept : {K V : Type 0} (P : V → Type 0) (test : K → Bool) (es : List (K × V)) (v : V) → Each P es → P v → Each P (set_value test es v)
set_kept P test [] v h p = h
set_kept P test (e ∷ es) v h p =
    by_test (Each P) (test e.0) ((e.0, v) ∷ es) (e ∷ set_value test es v) (p, h.1) (h.0, set_kept P test es v h.1 p)

pub removed : {K V : Type 0} (P : V → Type 0) (test : K → Bool) (es : List (K × V)) → Each P es → Each P (remove_entry test es)
removed P test [] h = h
removed P test (e ∷ es) h = by_test (Each P) (test e.0) es (e ∷ remove_entry test es) h.1 (h.0, removed P test es h.1)

some_same : {V : Type 0} (v w : V) → Some v ≡ Some w → v ≡ w
some_same v w h = cc

found_by : {K V : Type 0} (P : V → Type 0) (test : K → Bool) (b : Bool) (e : K × V) (es : List (K × V)) (v : V) → cond b (Some e.1) (lookup test es) ≡ Some v → P e.1 → (lookup test es ≡ Some v → P v) → P v
found_by P test true e es v h p later = subst P (some_same e.1 v h) p
found_by P test false e es v h p later = later h

pub found : {K V : Type 0} (P : V → Type 0) (test : K → Bool) (es : List (K × V)) (v : V) → Each P es → lookup test es ≡ Some v → P v
found P test [] v h f = absurd (cc)
found P test (e ∷ es) v h f = found_by P test (test e.0) e es v f h.0 (λ g. found P test es v h.1 g)

changed_by : {V : Type 0} (P : V → Type 0) (key : Key) (f : V → V) (table : List (Key × V)) (o : Option V) → at_key table key ≡ o → Each P table → ((v : V) → P v → P (f v)) → Each P (option_map_or (λ v. set_value (is_at (key_cmp key)) table (f v)) o table)
changed_by P key f table None is h step = h
changed_by P key f table (Some v) is h step =
    set_kept P (is_at (key_cmp key)) table (f v) h (step v (found P (is_at (key_cmp key)) table v h is))

pub changed : {V : Type 0} (P : V → Type 0) (key : Key) (f : V → V) (table : List (Key × V)) → Each P table → ((v : V) → P v → P (f v)) → Each P (changed_at key f table)
changed P key f table h step = changed_by P key f table (at_key table key) refl h step

named_by : {T : Type 0} (P : T → Type 0) (index : ℕ) (name : List ℕ) (x : T) (table : Named T) (o : Option (Stored T)) → EachOf (λ e. P e.1.object) table → P x → EachOf (λ e. P e.1.object) (put_by index name x table o)
named_by P index name x table None h k = inserted (λ n. P n.object) text_cmp table name _ h k
named_by P index name x table (Some old) h k = set_kept (λ n. P n.object) (is_at (text_cmp name)) table _ h k

put_kept : {V : Type 0} (P : V → Type 0) (key : Key) (new : V) (f : V → V) (table : List (Key × V)) (o : Option V) → at_key table key ≡ o → Each P table → P new → ((v : V) → P v → P (f v)) → Each P (put_at key new f table o)
put_kept P key new f table None is h p step = inserted P key_cmp table key new h p
put_kept P key new f table (Some v) is h p step = set_kept P (is_at (key_cmp key)) table (f v) h (step v (found P (is_at (key_cmp key)) table v h is))

-- ---- each change of a state

abbrev ClaimFits : ClaimState → Type 0
ClaimFits c = ClaimKept c.claim.object

abbrev PodFits : PodState → Type 0
PodFits p = PodKept p.pod.object

granted : (node : List ℕ) (pod : Key) (gs : List Grant) (claims : List (Key × ClaimState)) → Each ClaimFits claims → Each ClaimFits (with_grants node pod gs claims)
granted node pod [] claims h = h
granted node pod (g ∷ gs) claims h =
    granted node pod gs (with_grant node pod g.claim g.results claims) (changed ClaimFits g.claim _ claims h (λ c k. k))

joined : (pod : Key) (ks : List Key) (claims : List (Key × ClaimState)) → Each ClaimFits claims → Each ClaimFits (with_joins pod ks claims)
joined pod [] claims h = h
joined pod (k ∷ ks) claims h = joined pod ks (changed_at k (joined_by pod) claims) (changed ClaimFits k _ claims h (λ c l. l))

created : (index : ℕ) (x : Object) (s : State) → ObjectKept x → ObjectsKept s → ObjectsKept (with_object index x s)
created index (object.Node x) s k h =
    record { nodes = named_by NodeKept index x.name x s.inventory.nodes (at_name s.inventory.nodes x.name) h.nodes k; slices = h.slices; classes = h.classes; claims = h.claims; pods = h.pods }
created index (object.Slice x) s k h =
    record { nodes = h.nodes; slices = named_by IsWithinLimits index x.name x s.inventory.slices (at_name s.inventory.slices x.name) h.slices k; classes = h.classes; claims = h.claims; pods = h.pods }
created index (object.Class x) s k h =
    record { nodes = h.nodes; slices = h.slices; classes = named_by ClassKept index x.name x s.classes (at_name s.classes x.name) h.classes k; claims = h.claims; pods = h.pods }
created index (object.Claim x) s k h =
    record { nodes = h.nodes; slices = h.slices; classes = h.classes; claims = put_kept ClaimFits x.key _ _ s.claims (at_key s.claims x.key) refl h.claims k (λ c l. k); pods = h.pods }
created index (object.Pod x) s k h =
    record { nodes = h.nodes; slices = h.slices; classes = h.classes; claims = h.claims; pods = put_kept PodFits x.key _ _ s.pods (at_key s.pods x.key) refl h.pods k (λ p l. k) }

deleted : (t : Target) (s : State) → ObjectsKept s → ObjectsKept (without_object t s)
deleted (target.Node name) s h =
    record { nodes = removed (λ n. NodeKept n.object) (is_at (text_cmp name)) s.inventory.nodes h.nodes; slices = h.slices; classes = h.classes; claims = h.claims; pods = h.pods }
deleted (target.Slice name) s h =
    record { nodes = h.nodes; slices = removed (λ n. IsWithinLimits n.object) (is_at (text_cmp name)) s.inventory.slices h.slices; classes = h.classes; claims = h.claims; pods = h.pods }
deleted (target.Class name) s h =
    record { nodes = h.nodes; slices = h.slices; classes = removed (λ n. ClassKept n.object) (is_at (text_cmp name)) s.classes h.classes; claims = h.claims; pods = h.pods }
deleted (target.Claim key) s h =
    record { nodes = h.nodes; slices = h.slices; classes = h.classes; claims = removed ClaimFits (is_at (key_cmp key)) s.claims h.claims; pods = h.pods }
deleted (target.Pod key) s h =
    record { nodes = h.nodes; slices = h.slices; classes = h.classes; claims = h.claims; pods = removed PodFits (is_at (key_cmp key)) s.pods h.pods }

freed_fits : (index : ℕ) (pod : Key) (o : Option Use) (c : ClaimState) → ClaimFits c → ClaimFits (freed_by index pod o c)
freed_fits index pod None c k = k
freed_fits index pod (Some u) c k = k

freed_kept : (index : ℕ) (pod : Key) (ks : List Key) (claims : List (Key × ClaimState)) → Each ClaimFits claims → Each ClaimFits (with_freed index pod ks claims)
freed_kept index pod [] claims h = h
freed_kept index pod (k ∷ ks) claims h =
    freed_kept index pod ks (changed_at k (freed index pod) claims) (changed ClaimFits k (freed index pod) claims h (λ c l. freed_fits index pod (at_key c.users pod) c l))

unused_again : (index : ℕ) (pod : Key) (s : State) → ObjectsKept s → ObjectsKept (without_uses index pod s)
unused_again index pod s h =
    record { nodes = h.nodes; slices = h.slices; classes = h.classes; claims = freed_kept index pod (claims_by (at_key s.pods pod)) s.claims h.claims; pods = changed PodFits pod _ s.pods h.pods (λ p k. k) }

-- an entry that may be appended keeps them
kept_after : (before : List Entry) (index job : ℕ) (event : Event) → MayFollow before job event → ObjectsKept (state_of before) → ObjectsKept (after index job event (state_of before))
kept_after before index job (Applied x mode) may h = created index x (state_of before) may.valid.limits h
kept_after before index job (Deleted t) may h = deleted t (state_of before) h
kept_after before index job (Reserved pod plan) may h =
    record { nodes = h.nodes; slices = h.slices; classes = h.classes; claims = joined pod plan.joins (with_grants plan.node pod plan.grants (state_of before).claims) (granted plan.node pod plan.grants (state_of before).claims h.claims); pods = changed PodFits pod _ (state_of before).pods h.pods (λ p k. k) }
kept_after before index job (Wrote pod claim seen) may h =
    record { nodes = h.nodes; slices = h.slices; classes = h.classes; claims = changed ClaimFits claim _ (state_of before).claims h.claims (λ c k. k); pods = h.pods }
kept_after before index job (Refused pod plan why) may h = h
kept_after before index job (Conflict pod claim had now) may h = h
kept_after before index job (Unreserved pod) may h = unused_again index pod (state_of before) h
kept_after before index job (Contended pod attempts) may h = h
kept_after before index job (Released pod) may h = unused_again index pod (state_of before) h
kept_after before index job (Adopted claim status) may h =
    record { nodes = h.nodes; slices = h.slices; classes = h.classes; claims = changed ClaimFits claim _ (state_of before).claims h.claims (λ c k. k); pods = h.pods }
kept_after before index job (Bound pod node) may h =
    record { nodes = h.nodes; slices = h.slices; classes = h.classes; claims = h.claims; pods = changed PodFits pod _ (state_of before).pods h.pods (λ p k. k) }
kept_after before index job (VerdictGiven pod verdict) may h = h
kept_after before index job (Denied command refusal) may h = h

-- ---- histories

kept_at_first : ObjectsKept empty_state
kept_at_first = record { nodes = tt; slices = tt; classes = tt; claims = tt; pods = tt }

pub kept_now : (h : List Entry) → Legal h → ObjectsKept (state_of h)
kept_now h legal = always_state ObjectsKept kept_at_first (λ g e l s p. kept_after g (length g + 1) e.job e.event s.follows p) h legal

pub kept_at : (h : List Entry) (index : ℕ) → Legal h → ObjectsKept (state_at h index)
kept_at h index legal = at_places ObjectsKept kept_now h index legal
