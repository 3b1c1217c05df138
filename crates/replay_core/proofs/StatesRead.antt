-- The keys and the granted devices of each state of a legal history are those that their printed forms read as.
use Rattle.std.proofs.Common.{ℕ, ◌+◌, ◌≡◌, ◌∙◌, List, [], ◌∷◌, ◌++◌, Bool, true, false, cond, Option, None, Some, length, refl, sym, ap, subst, append_assoc, append-nil}
use Rattle.std.specs.Cmp.Lexicographic.{same_text, texts_ties}
use Rattle.std.specs.List.{AllByRecursion}
use Rattle.std.specs.Map.{remove_entry, set_value}
use Rattle.std.specs.Option.{option_map, option_map_or}
use Rattle.std.specs.Ordering.{is_eq, match_ordering, ordering_then}
use Rattle.std.specs.BTreeMap.{insert_entry, is_at}
use Rattle.std.specs.declared.cmp.Ordering.{Ordering}
use Rattle.std.specs.declared.cmp.Ordering.TheVariants.{Less, Equal, Greater}
use Rattle.object_fields.specs.declared.key.Key.{Key}
use Rattle.api_claim.specs.declared.types.ClaimStatus.{ClaimStatus}
use Rattle.pool_view.specs.Names.{at_key, key_cmp, text_cmp}
use Rattle.cluster.specs.declared.object.Object.{Object}
use Rattle.cluster.specs.declared.object.Object.TheVariants as object
use Rattle.cluster.specs.declared.object.Target.{Target}
use Rattle.cluster.specs.declared.object.Target.TheVariants as target
use Rattle.cluster.specs.declared.plan.Grant.{Grant}
use Rattle.cluster.specs.declared.state.ClaimState.{ClaimState}
use Rattle.cluster.specs.declared.state.Granted.{Granted}
use Rattle.cluster.specs.declared.state.PodState.{PodState}
use Rattle.cluster.specs.declared.state.State.{State}
use Rattle.cluster.specs.declared.state.Use.{Use}
use Rattle.cluster.specs.Adopted.{adopted_by}
use Rattle.cluster.specs.Applied.{new_claim, new_pod, updated_claim, updated_pod, with_object}
use Rattle.cluster.specs.Deleted.{without_object}
use Rattle.cluster.specs.Freed.{claims_by, freed, freed_by, grant_left, with_freed, without_user, without_uses}
use Rattle.cluster.specs.Limits.{ObjectKept}
use Rattle.cluster.specs.Reserved.{joined_by, with_grant, with_grants, with_joins}
use Rattle.cluster.specs.Tables.{changed_at, put_at}
use Rattle.cluster.specs.Wrote.{as_published, written_by}
use Rattle.cluster.specs.declared.entry.Entry.{Entry}
use Rattle.cluster.specs.declared.entry.Event.{Event}
use Rattle.cluster.specs.declared.entry.Event.TheVariants.{Applied, Deleted, Reserved, Refused, Wrote, Conflict, Unreserved, Bound, VerdictGiven, Contended, Released, Adopted, Denied}
use Rattle.cluster.specs.Events.{after}
use Rattle.cluster.specs.History.{state_of, told}
use Rattle.histories.specs.Headline.{IsAdoptionOf}
use Rattle.histories.specs.Legal.{Legal, MayFollow, Step}
use Rattle.histories.specs.Limits.{ObjectsKept}
use Rattle.ckpt_journal.specs.Names.{DeviceReadsBack, KeyReadsBack}
use Rattle.pod_prepare.specs.ForNode.{ReadsBack, granted_devices}
use Rattle.replay_core.proofs.NodeDevices.{GrantsRead, SlicesKept, allocation_read}
use Rattle.replay_core.proofs.Slashless.{key_reads_back}

-- ---- keys

text_tie : (a b : List ℕ) → text_cmp a b ≡ Equal → a ≡ b
text_tie a b e = same_text a b (sym (texts_ties a b ∙ ap is_eq e))

parts_tie : (o p : Ordering) → ordering_then o p ≡ Equal → (o ≡ Equal) × (p ≡ Equal)
parts_tie Less p e = absurd (cc)
parts_tie Equal p e = (refl, e)
parts_tie Greater p e = absurd (cc)

key_tie : (a b : Key) → key_cmp a b ≡ Equal → a ≡ b
key_tie a b e =
    let both = parts_tie (text_cmp a.namespace b.namespace) (text_cmp a.name b.name) e in
    λ i. record { namespace = text_tie a.namespace b.namespace both.0 i; name = text_tie a.name b.name both.1 i }

found_key : (o : Ordering) (k x : Key) → key_cmp k x ≡ o → is_eq o ≡ true → k ≡ x
found_key Less k x is e = absurd (cc)
found_key Equal k x is e = key_tie k x is
found_key Greater k x is e = absurd (cc)

-- ---- tables whose keys read back, and whose values keep something

abbrev Rows : {V : Type 0} → (V → Type 0) → List (Key × V) → Type 0
Rows P t = AllByRecursion (λ e. KeyReadsBack e.0 × P e.1) t

by_order : {A : Type 0} (Q : A → Type 0) (o : Ordering) (x y z : A) → Q x → Q y → Q z → Q (match_ordering o x y z)
by_order Q Less x y z a b c = a
by_order Q Equal x y z a b c = b
by_order Q Greater x y z a b c = c

by_test : {A : Type 0} (Q : A → Type 0) (b : Bool) (x y : A) → Q x → Q y → Q (cond b x y)
by_test Q true x y a b = a
by_test Q false x y a b = b

inserted : {V : Type 0} (P : V → Type 0) (es : List (Key × V)) (k : Key) (v : V) → Rows P es → KeyReadsBack k → P v → Rows P (insert_entry key_cmp es k v)
inserted P [] k v h key p = ((key, p), tt)
inserted P (e ∷ es) k v h key p =
    by_order (Rows P) (key_cmp k e.0) ((k, v) ∷ e ∷ es) ((e.0, v) ∷ es) (e ∷ insert_entry key_cmp es k v)
    ((key, p), h) ((h.0.0, p), h.1) (h.0, inserted P es k v h.1 key p)

set_kept : {V : Type 0} (P : V → Type 0) (test : Key → Bool) (es : List (Key × V)) (v : V) → Rows P es → P v → Rows P (set_value test es v)
set_kept P test [] v h p = h
set_kept P test (e ∷ es) v h p =
    by_test (Rows P) (test e.0) ((e.0, v) ∷ es) (e ∷ set_value test es v) ((h.0.0, p), h.1) (h.0, set_kept P test es v h.1 p)

removed : {V : Type 0} (P : V → Type 0) (test : Key → Bool) (es : List (Key × V)) → Rows P es → Rows P (remove_entry test es)
removed P test [] h = h
removed P test (e ∷ es) h = by_test (Rows P) (test e.0) es (e ∷ remove_entry test es) h.1 (h.0, removed P test es h.1)

some_same : {V : Type 0} (v w : V) → Some v ≡ Some w → v ≡ w
some_same v w h = cc

found_by : {V : Type 0} (P : V → Type 0) (k : Key) (b : Bool) (e : Key × V) (es : List (Key × V)) (v : V) → is_at (key_cmp k) e.0 ≡ b → cond b (Some e.1) (at_key es k) ≡ Some v
    → KeyReadsBack e.0 × P e.1 → (at_key es k ≡ Some v → KeyReadsBack k × P v) → KeyReadsBack k × P v
found_by P k true e es v is h p later =
    (subst KeyReadsBack (sym (found_key (key_cmp k e.0) k e.0 refl is)) p.0, subst P (some_same e.1 v h) p.1)
found_by P k false e es v is h p later = later h

found : {V : Type 0} (P : V → Type 0) (k : Key) (es : List (Key × V)) (v : V) → Rows P es → at_key es k ≡ Some v → KeyReadsBack k × P v
found P k [] v h f = absurd (cc)
found P k (e ∷ es) v h f = found_by P k (is_at (key_cmp k) e.0) e es v refl f h.0 (λ g. found P k es v h.1 g)

changed_by : {V : Type 0} (P : V → Type 0) (key : Key) (f : V → V) (table : List (Key × V)) (o : Option V) → at_key table key ≡ o → Rows P table → ((v : V) → P v → P (f v)) → Rows P (option_map_or (λ v. set_value (is_at (key_cmp key)) table (f v)) o table)
changed_by P key f table None is h step = h
changed_by P key f table (Some v) is h step = set_kept P (is_at (key_cmp key)) table (f v) h (step v (found P key table v h is).1)

changed : {V : Type 0} (P : V → Type 0) (key : Key) (f : V → V) (table : List (Key × V)) → Rows P table → ((v : V) → P v → P (f v)) → Rows P (changed_at key f table)
changed P key f table h step = changed_by P key f table (at_key table key) refl h step

put_kept : {V : Type 0} (P : V → Type 0) (key : Key) (new : V) (f : V → V) (table : List (Key × V)) (o : Option V) → at_key table key ≡ o → Rows P table → KeyReadsBack key → P new → ((v : V) → P v → P (f v)) → Rows P (put_at key new f table o)
put_kept P key new f table None is h k p step = inserted P table key new h k p
put_kept P key new f table (Some v) is h k p step = set_kept P (is_at (key_cmp key)) table (f v) h (step v (found P key table v h is).1)

-- ---- each change of a state

abbrev GrantRead : Option Granted → Type 0
GrantRead g = AllByRecursion DeviceReadsBack (granted_devices g)

abbrev ClaimRead : ClaimState → Type 0
ClaimRead c = GrantRead c.grant

abbrev AnyPod : PodState → Type 0
AnyPod p = Unit {0}

record IsRead (s : State) : Type 0 where
  pods : Rows AnyPod s.pods
  claims : Rows ClaimRead s.claims

granted : (node : List ℕ) (pod : Key) (gs : List Grant) (claims : List (Key × ClaimState)) → GrantsRead gs → Rows ClaimRead claims → Rows ClaimRead (with_grants node pod gs claims)
granted node pod [] claims are h = h
granted node pod (g ∷ gs) claims are h =
    granted node pod gs (with_grant node pod g.claim g.results claims) are.1 (changed ClaimRead g.claim _ claims h (λ c k. are.0))

joined : (pod : Key) (ks : List Key) (claims : List (Key × ClaimState)) → Rows ClaimRead claims → Rows ClaimRead (with_joins pod ks claims)
joined pod [] claims h = h
joined pod (k ∷ ks) claims h = joined pod ks (changed_at k (joined_by pod) claims) (changed ClaimRead k _ claims h (λ c l. l))

created : (index : ℕ) (x : Object) (s : State) → ObjectKept x → IsRead s → IsRead (with_object index x s)
created index (object.Node x) s k h = record { pods = h.pods; claims = h.claims }
created index (object.Slice x) s k h = record { pods = h.pods; claims = h.claims }
created index (object.Class x) s k h = record { pods = h.pods; claims = h.claims }
created index (object.Claim x) s k h =
    record { pods = h.pods; claims = put_kept ClaimRead x.key (new_claim index x) (updated_claim index x) s.claims (at_key s.claims x.key) refl h.claims (key_reads_back x.key k.key) tt (λ c l. l) }
created index (object.Pod x) s k h =
    record { pods = put_kept AnyPod x.key (new_pod index x) (updated_pod index x) s.pods (at_key s.pods x.key) refl h.pods (key_reads_back x.key k.key) tt (λ p l. tt); claims = h.claims }

deleted : (t : Target) (s : State) → IsRead s → IsRead (without_object t s)
deleted (target.Node name) s h = record { pods = h.pods; claims = h.claims }
deleted (target.Slice name) s h = record { pods = h.pods; claims = h.claims }
deleted (target.Class name) s h = record { pods = h.pods; claims = h.claims }
deleted (target.Claim key) s h = record { pods = h.pods; claims = removed ClaimRead (is_at (key_cmp key)) s.claims h.claims }
deleted (target.Pod key) s h = record { pods = removed AnyPod (is_at (key_cmp key)) s.pods h.pods; claims = h.claims }

left_read : (users : List (Key × Use)) (g : Option Granted) → GrantRead g → GrantRead (grant_left users g)
left_read [] g k = tt
left_read (u ∷ us) g k = k

freed_read : (index : ℕ) (pod : Key) (o : Option Use) (c : ClaimState) → ClaimRead c → ClaimRead (freed_by index pod o c)
freed_read index pod None c k = k
freed_read index pod (Some u) c k = left_read (without_user pod c.users) c.grant k

freed_kept : (index : ℕ) (pod : Key) (ks : List Key) (claims : List (Key × ClaimState)) → Rows ClaimRead claims → Rows ClaimRead (with_freed index pod ks claims)
freed_kept index pod [] claims h = h
freed_kept index pod (k ∷ ks) claims h =
    freed_kept index pod ks (changed_at k (freed index pod) claims) (changed ClaimRead k (freed index pod) claims h (λ c l. freed_read index pod (at_key c.users pod) c l))

unused_again : (index : ℕ) (pod : Key) (s : State) → IsRead s → IsRead (without_uses index pod s)
unused_again index pod s h =
    record { pods = changed AnyPod pod _ s.pods h.pods (λ p k. k); claims = freed_kept index pod (claims_by (at_key s.pods pod)) s.claims h.claims }

published_read : (g : Option Granted) → GrantRead g → GrantRead (option_map as_published g)
published_read None k = tt
published_read (Some g) k = k

-- what the histories below say
pub record Laws : Type 0 where
  pub step : (prefix : List Entry) (e : Entry) (back : List Entry) → Legal (prefix ++ e ∷ back) → Step prefix e
  pub prefix : (prefix back : List Entry) → Legal (prefix ++ back) → Legal prefix
  pub grow : (h : List Entry) (e : Entry) → state_of (h ++ e ∷ []) ≡ after (length h + 1) e.job e.event (state_of h)
  pub limits : (h : List Entry) → Legal h → ObjectsKept (state_of h)
  pub adopted : (prefix back : List Entry) (job : ℕ) (claim : Key) (status : ClaimStatus) →
      Legal (prefix ++ record { job = job; event = Adopted claim status } ∷ back) → IsAdoptionOf prefix claim status

module _ (laws : Laws) where
  -- an entry that may be appended keeps it so
  kept_after : (before back : List Entry) (index job : ℕ) (event : Event) → Legal (before ++ record { job = job; event = event } ∷ back) → SlicesKept (state_of before).inventory.slices
      → MayFollow before job event → IsRead (state_of before) → IsRead (after index job event (state_of before))
  kept_after before back index job (Applied x mode) legal slices may h = created index x (state_of before) may.valid.limits h
  kept_after before back index job (Deleted t) legal slices may h = deleted t (state_of before) h
  kept_after before back index job (Reserved pod plan) legal slices may h = record {
    pods = changed AnyPod pod _ (state_of before).pods h.pods (λ p k. k);
    claims = joined pod plan.joins (with_grants plan.node pod plan.grants (state_of before).claims)
        (granted plan.node pod plan.grants (state_of before).claims (allocation_read (state_of before) _ plan.node may.holds_now.choice plan.grants slices may.holds_now.allocation) h.claims);
  }
  kept_after before back index job (Wrote pod claim seen) legal slices may h = record {
    pods = h.pods;
    claims = changed ClaimRead claim (written_by index pod) (state_of before).claims h.claims (λ c k. published_read c.grant k);
  }
  kept_after before back index job (Refused pod plan why) legal slices may h = h
  kept_after before back index job (Conflict pod claim had now) legal slices may h = h
  kept_after before back index job (Unreserved pod) legal slices may h = unused_again index pod (state_of before) h
  kept_after before back index job (Contended pod attempts) legal slices may h = h
  kept_after before back index job (Released pod) legal slices may h = unused_again index pod (state_of before) h
  kept_after before back index job (Adopted claim status) legal slices may h =
      let is = laws.adopted before back job claim status legal in record {
        pods = h.pods;
        claims = changed ClaimRead claim (adopted_by index status) (state_of before).claims h.claims
            (λ c k. (allocation_read (state_of before) _ status.node is.choice _ slices is.allocation).0);
      }
  kept_after before back index job (Bound pod node) legal slices may h =
      record { pods = changed AnyPod pod _ (state_of before).pods h.pods (λ p k. k); claims = h.claims }
  kept_after before back index job (VerdictGiven pod verdict) legal slices may h = h
  kept_after before back index job (Denied command refusal) legal slices may h = h

  along : (before es : List Entry) → Legal (before ++ es) → IsRead (state_of before) → IsRead (state_of (before ++ es))
  along before [] legal h = subst (λ (b : List Entry). IsRead (state_of b)) (sym (append-nil before)) h
  along before (e ∷ es) legal h =
      let step = laws.step before e es legal in
      let kept = laws.limits before (laws.prefix before (e ∷ es) legal) in
      subst (λ (b : List Entry). IsRead (state_of b)) (append_assoc before (e ∷ []) es)
      (along (before ++ e ∷ []) es (subst Legal (sym (append_assoc before (e ∷ []) es)) legal)
      (subst IsRead (sym (laws.grow before e)) (kept_after before es (length before + 1) e.job e.event legal kept.slices step.follows h)))

  at_first : IsRead (state_of [])
  unfolding state_of told
  at_first = record { pods = tt; claims = tt }

  pub states_read : (h : List Entry) → Legal h → ReadsBack (state_of h)
  states_read h legal =
      let read = along [] h legal at_first in record {
        pods = λ k p there. (found AnyPod k (state_of h).pods p read.pods there).0;
        claims = λ k c there. (found ClaimRead k (state_of h).claims c read.claims there).0;
        devices = λ k c there. (found ClaimRead k (state_of h).claims c read.claims there).1;
      }
