-- A use that isn't written has the version that its claim had as the job reserved that has taken its pod, in each state of
-- a legal history.
use Rattle.std.proofs.Common.{ℕ, zero, suc, ◌+◌, ◌≡◌, ◌∙◌, ◌⊎◌, inl, inr, ⊎_elim, List, [], ◌∷◌, ◌++◌, true, false, cond, Option, None, Some, length, is_some, refl, sym, ap, subst, arith, append_assoc, eq-eqb}
use Rattle.std.specs.List.{Contains}
use Rattle.std.specs.Map.{set_value}
use Rattle.std.specs.Option.{option_map_or}
use Rattle.std.specs.BTreeMap.{insert_entry, is_at}
use Rattle.std.proofs.lemmas.List.Elements.{Contains-append_cases}
use Rattle.object_fields.specs.declared.key.Key.{Key}
use Rattle.api_claim.specs.declared.types.ClaimStatus.{ClaimStatus}
use Rattle.pool_view.specs.Names.{at_key, key_cmp}
use Rattle.cluster.specs.declared.entry.Entry.{Entry}
use Rattle.cluster.specs.declared.entry.Event.{Event}
use Rattle.cluster.specs.declared.entry.Event.TheVariants.{Applied, Deleted, Reserved, Refused, Wrote, Conflict, Unreserved, Bound, VerdictGiven, Contended, Released, Adopted, Denied}
use Rattle.cluster.specs.declared.object.Object.{Object}
use Rattle.cluster.specs.declared.object.Object.TheVariants as object
use Rattle.cluster.specs.declared.object.Target.{Target}
use Rattle.cluster.specs.declared.object.Target.TheVariants as target
use Rattle.cluster.specs.declared.plan.Grant.{Grant}
use Rattle.cluster.specs.declared.plan.Plan.{Plan}
use Rattle.cluster.specs.declared.state.ClaimState.{ClaimState}
use Rattle.cluster.specs.declared.state.Phase.{Phase}
use Rattle.cluster.specs.declared.state.Phase.TheVariants as phase
use Rattle.cluster.specs.declared.state.PodState.{PodState}
use Rattle.cluster.specs.declared.state.State.{State}
use Rattle.cluster.specs.declared.state.Use.{Use}
use Rattle.cluster.specs.declared.state.Use.TheVariants.{Assumed, Written}
use Rattle.cluster.specs.Adopted.{adopted_by, with_adopted}
use Rattle.cluster.specs.Applied.{new_claim, updated_claim, with_object}
use Rattle.cluster.specs.Deleted.{without_object}
use Rattle.cluster.specs.Events.{after}
use Rattle.cluster.specs.Freed.{claims_by, freed, freed_by, with_freed, without_uses}
use Rattle.cluster.specs.History.{job_state_of, state_of}
use Rattle.cluster.specs.Reserved.{joined_by, with_grant, with_grants, with_joins, with_reserved}
use Rattle.cluster.specs.JobState.{may_try}
use Rattle.cluster.specs.State.{claims_of, has_written, is_written, use_in}
use Rattle.cluster.specs.Tables.{changed_at, with_phase}
use Rattle.cluster.specs.Wrote.{with_written, written_by}
use Rattle.histories.specs.Legal.{Legal, Step}
use Rattle.histories.specs.Bound.{MayBind}
use Rattle.histories.specs.Reserved.{MayReserve}
use Rattle.histories.specs.Wrote.{IsTaken}
use Rattle.histories.specs.Reservations.{IsLastReservation, IsVersionReserved}
use Rattle.histories.proofs.Always.{always}
use Rattle.histories.proofs.Busy.{counted, holder_of, taken_by}
use Rattle.histories.proofs.Claiming.{Pods, SameClaims}
use Rattle.histories.proofs.GoingOn.{Claims, In, changed_other, changed_there, granted, insert_there, key_same, same_or_not}
use Rattle.histories.proofs.Granting.{all_there, idle_again}
use Rattle.histories.proofs.Headlines.{prefix_legal, step_at}
use Rattle.histories.proofs.Histories.{Legal-more, state_of-empty, state_of-more}
use Rattle.histories.proofs.Keyed.{AllAt, all_changed, all_put, insert_other, remove_other, removed_case, some_same}
use Rattle.histories.proofs.Taken.{TakenBy, applied_stays, deleted_stays}
use Rattle.histories.proofs.Using.{Users, UsersFit, fits_now}

-- ---- the last reservation, as entries follow

later_cases : (later : List Entry) (e d : Entry) → Contains (later ++ e ∷ []) d → Contains later d ⊎ (e ≡ d)
later_cases later e d among = ⊎_elim (λ (h : Contains later d). inl h) (λ (h : Contains (e ∷ []) d). inr (only e d h)) (Contains-append_cases later (e ∷ []) d among)
  where
    only : (e d : Entry) → Contains (e ∷ []) d → e ≡ d
    only e d (zero, lt, is) = is
    only e d (suc i, lt, is) = absurd (omega (arith, lt))

-- no reservation of this job follows
abbrev NoneMore : Entry → ℕ → Type 0
NoneMore e job = (other : Key) (plan : Plan) → e.job ≡ job → e.event ≡ Reserved other plan → ⊥

last_kept : (h : List Entry) (e : Entry) (job : ℕ) (pod : Key) (front : List Entry) → NoneMore e job → IsLastReservation h job pod front → IsLastReservation (h ++ e ∷ []) job pod front
last_kept h e job pod front none r = record {
  plan = r.plan;
  later = r.later ++ e ∷ [];
  is = ap (λ xs. xs ++ e ∷ []) r.is ∙ append_assoc front (record { job = job; event = Reserved pod r.plan } ∷ r.later) (e ∷ []);
  last = λ d other plan among mine of. ⊎_elim (λ (i : Contains r.later d). r.last d other plan i mine of)
      (λ (s : e ≡ d). none other plan (ap (λ (x : Entry). x.job) s ∙ mine) (ap (λ (x : Entry). x.event) s ∙ of)) (later_cases r.later e d among);
}

version_kept : (h : List Entry) (e : Entry) (job : ℕ) (pod claim : Key) (seen : ℕ) → NoneMore e job → IsVersionReserved h job pod claim seen → IsVersionReserved (h ++ e ∷ []) job pod claim seen
version_kept h e job pod claim seen none v =
    record { front = v.front; last = last_kept h e job pod v.front none v.last; state = v.state; there = v.there; version = v.version }

-- ---- uses that aren't written

-- the pod is taken by a job, and this is the version that the claim had as that job reserved
abbrev ReservedAs : List Entry → Pods → Key → Key → ℕ → Type 0
ReservedAs h pods k pod seen = (job : ℕ) × TakenBy pods pod job × IsVersionReserved h job pod k seen

abbrev Uses : (Key → Key → ℕ → Type 0) → Key → ClaimState → Type 0
Uses T k c = (l : Key) (seen : ℕ) → at_key c.users l ≡ Some (Assumed seen) → T k l seen

-- its version is the one that the claim has in this table
abbrev AsIn : Claims → Key → ClaimState → Type 0
AsIn claims k c = (d : ClaimState) × (at_key claims k ≡ Some d) × (c.claim.version ≡ d.claim.version)

same_seen : (m n : ℕ) → Some (Assumed m) ≡ Some (Assumed n) → m ≡ n
same_seen m n e = cc

not_written : (n : ℕ) → Some Written ≡ Some (Assumed n) → ⊥
not_written n e = absurd (cc)

-- one use more, at the version that the claim has
more_by : (T : Key → Key → ℕ → Type 0) (k pod l : Key) (us : Users) (version seen : ℕ) → (l ≡ pod) ⊎ (l ≡ pod → ⊥) → T k pod version → (at_key us l ≡ Some (Assumed seen) → T k l seen)
    → at_key (insert_entry key_cmp us pod (Assumed version)) l ≡ Some (Assumed seen) → T k l seen
more_by T k pod l us version seen (inl e) new old is =
    let same : version ≡ seen = same_seen version seen (sym (insert_there key_cmp us pod (Assumed version) (key_same pod)) ∙ ap (at_key (insert_entry key_cmp us pod (Assumed version))) (sym e) ∙ is) in
    subst (λ (x : Key). T k x seen) (sym e) (subst (λ (n : ℕ). T k pod n) same new)
more_by T k pod l us version seen (inr differ) new old is = old (sym (insert_other pod l us (Assumed version) differ) ∙ is)

abbrev Fold : (Key → Key → ℕ → Type 0) → Claims → Key → ClaimState → Type 0
Fold T first k c = Uses T k c × AsIn first k c

abbrev New : (Key → Key → ℕ → Type 0) → Claims → Key → Type 0
New T first pod = (k : Key) (d : ClaimState) → at_key first k ≡ Some d → T k pod d.claim.version

new_at : (T : Key → Key → ℕ → Type 0) (first : Claims) (pod k : Key) (c : ClaimState) → New T first pod → AsIn first k c → T k pod c.claim.version
new_at T first pod k c new from = subst (λ (n : ℕ). T k pod n) (sym from.2) (new k from.0 from.1)

grants_uses : (T : Key → Key → ℕ → Type 0) (first : Claims) (node : List ℕ) (pod : Key) (gs : List Grant) (claims : Claims) → New T first pod → AllAt (Fold T first) claims → AllAt (Fold T first) (with_grants node pod gs claims)
grants_uses T first node pod [] claims new h = h
grants_uses T first node pod (g ∷ gs) claims new h =
    grants_uses T first node pod gs (with_grant node pod g.claim g.results claims) new
    (all_changed (Fold T first) (Fold T first) g.claim (granted node pod g) claims h
    (λ c there f. (λ l seen is. more_by T g.claim pod l c.users c.claim.version seen (same_or_not (key_cmp l pod) l pod refl) (new_at T first pod g.claim c new f.1) (f.0 l seen) is, f.1))
    (λ k c differ f. f))

joins_uses : (T : Key → Key → ℕ → Type 0) (first : Claims) (pod : Key) (ks : List Key) (claims : Claims) → New T first pod → AllAt (Fold T first) claims → AllAt (Fold T first) (with_joins pod ks claims)
joins_uses T first pod [] claims new h = h
joins_uses T first pod (j ∷ js) claims new h =
    joins_uses T first pod js (changed_at j (joined_by pod) claims) new
    (all_changed (Fold T first) (Fold T first) j (joined_by pod) claims h
    (λ c there f. (λ l seen is. more_by T j pod l c.users c.claim.version seen (same_or_not (key_cmp l pod) l pod refl) (new_at T first pod j c new f.1) (f.0 l seen) is, f.1))
    (λ k c differ f. f))

-- a use that is written, and those of others
marked_by : (us : Users) (pod l : Key) (seen : ℕ) (o : Option Use) → at_key us pod ≡ o → (l ≡ pod) ⊎ (l ≡ pod → ⊥) → at_key (changed_at pod (λ _. Written) us) l ≡ Some (Assumed seen) → at_key us l ≡ Some (Assumed seen)
marked_by us pod l seen None is (inl e) at =
    let same : changed_at pod (λ _. Written) us ≡ us = ap (λ o. option_map_or (λ (x : Use). set_value (is_at (key_cmp pod)) us Written) o us) is in
    sym (ap (λ xs. at_key xs l) same) ∙ at
marked_by us pod l seen (Some u) is (inl e) at =
    absurd (not_written seen (sym (changed_there pod (λ _. Written) us u is) ∙ ap (at_key (changed_at pod (λ _. Written) us)) (sym e) ∙ at))
marked_by us pod l seen o is (inr differ) at = sym (changed_other pod l (λ _. Written) us differ) ∙ at

written : (T : Key → Key → ℕ → Type 0) (index : ℕ) (pod claim : Key) (s : State) → AllAt (Uses T) s.claims → AllAt (Uses T) (with_written index pod claim s).claims
written T index pod claim s h =
    all_changed (Uses T) (Uses T) claim (written_by index pod) s.claims h
    (λ c there f l seen is. f l seen (marked_by c.users pod l seen (at_key c.users pod) refl (same_or_not (key_cmp l pod) l pod refl) is)) (λ k c differ f. f)

applied : (T : Key → Key → ℕ → Type 0) (index : ℕ) (x : Object) (s : State) → AllAt (Uses T) s.claims → AllAt (Uses T) (with_object index x s).claims
applied T index (object.Node x) s h = h
applied T index (object.Slice x) s h = h
applied T index (object.Class x) s h = h
applied T index (object.Claim x) s h = all_put (Uses T) x.key (new_claim index x) (updated_claim index x) s.claims h (λ none l seen is. absurd (cc)) (λ c there f. f)
applied T index (object.Pod x) s h = h

deleted : (T : Key → Key → ℕ → Type 0) (t : Target) (s : State) (pods : Pods) → UsersFit pods s.claims → AllAt (Uses T) s.claims → AllAt (Uses T) (without_object t s).claims
deleted T (target.Node name) s pods u h = h
deleted T (target.Slice name) s pods u h = h
deleted T (target.Class name) s pods u h = h
deleted T (target.Claim key) s pods u h = λ k c at. h k c (removed_case key k s.claims c u.0 at).1
deleted T (target.Pod key) s pods u h = h

adopted : (T : Key → Key → ℕ → Type 0) (index : ℕ) (claim : Key) (status : ClaimStatus) (s : State) → AllAt (Uses T) s.claims → AllAt (Uses T) (with_adopted index claim status s).claims
adopted T index claim status s h = all_changed (Uses T) (Uses T) claim (adopted_by index status) s.claims h (λ c there f. f) (λ k c differ f. f)

-- the uses of others than the pod
abbrev Others : (Key → Key → ℕ → Type 0) → Key → Key → ClaimState → Type 0
Others T pod k c = (l : Key) (seen : ℕ) → (l ≡ pod → ⊥) → at_key c.users l ≡ Some (Assumed seen) → T k l seen

freed_one : (T : Key → Key → ℕ → Type 0) (index : ℕ) (pod k : Key) (c : ClaimState) (o : Option Use) → Others T pod k c → Others T pod k (freed_by index pod o c)
freed_one T index pod k c None f = f
freed_one T index pod k c (Some u) f = λ l seen differ is. f l seen differ (sym (remove_other pod l c.users differ) ∙ is)

freed_each : (T : Key → Key → ℕ → Type 0) (index : ℕ) (pod : Key) (ks : List Key) (claims : Claims) → AllAt (Others T pod) claims → AllAt (Others T pod) (with_freed index pod ks claims)
freed_each T index pod [] claims h = h
freed_each T index pod (j ∷ js) claims h =
    freed_each T index pod js (changed_at j (freed index pod) claims)
    (all_changed (Others T pod) (Others T pod) j (freed index pod) claims h (λ c there f. freed_one T index pod j c (at_key c.users pod) f) (λ k c differ f. f))

-- ---- pods that stay taken

other_phase : (pod l : Key) (ph : Phase) (pods : Pods) (job : ℕ) → (l ≡ pod → ⊥) → TakenBy pods l job → TakenBy (with_phase pod ph pods) l job
other_phase pod l ph pods job differ t = (t.0, t.1, changed_other pod l (λ q. record q { phase = ph }) pods differ ∙ t.2, t.3)

-- a pod that is taken isn't one that is Idle
not_idle : (pods : Pods) (pod l : Key) (p : PodState) (job : ℕ) → at_key pods pod ≡ Some p → p.phase ≡ phase.Idle → TakenBy pods l job → l ≡ pod → ⊥
not_idle pods pod l p job there idle t e =
    let same : t.0 ≡ p = some_same t.0 p (sym t.2 ∙ ap (at_key pods) e ∙ there) in
    let no : phase.Taken job t.1 ≡ phase.Idle = sym t.3 ∙ ap (λ (q : PodState). q.phase) same ∙ idle in
    absurd (cc)

-- a job that may begin an attempt has taken no pod
other_job : (h : List Entry) (job mine : ℕ) (l : Key) → Legal h → may_try (job_state_of h mine) ≡ true → TakenBy (state_of h).pods l job → mine ≡ job → ⊥
other_job h job mine l legal may t e =
    let one : taken_by job t.0.phase ≡ 1 = ap (taken_by job) t.3 ∙ ap (λ b. cond b 1 0) (eq-eqb job job refl) in
    let count = counted job (is_at (key_cmp l)) (state_of h).pods t.0 t.2 in
    (holder_of h mine job legal may (omega (arith, one, count))).1 (sym e)

-- ---- histories

abbrev UsesNow : List Entry → Type 0
UsesNow h = AllAt (Uses (ReservedAs h (state_of h).pods)) (state_of h).claims

-- all uses go on with an entry that reserves nothing, and after which these pods are taken still
abbrev NowAs : List Entry → Entry → Pods → Key → Key → ℕ → Type 0
NowAs h e pods = ReservedAs (h ++ e ∷ []) pods

go_on : (h : List Entry) (e : Entry) (pods pods' : Pods) (k l : Key) (seen : ℕ) → ((job : ℕ) → NoneMore e job) → ((job : ℕ) → TakenBy pods l job → TakenBy pods' l job) → ReservedAs h pods k l seen → NowAs h e pods' k l seen
go_on h e pods pods' k l seen none stays r = (r.0, stays r.0 r.1, version_kept h e r.0 l k seen (none r.0) r.2)

all_go_on : (h : List Entry) (e : Entry) (pods pods' : Pods) (claims : Claims) → ((job : ℕ) → NoneMore e job) → ((job : ℕ) (l : Key) → TakenBy pods l job → TakenBy pods' l job) → AllAt (Uses (ReservedAs h pods)) claims
    → AllAt (Uses (NowAs h e pods')) claims
all_go_on h e pods pods' claims none stays u = λ k c at l seen is. go_on h e pods pods' k l seen none (λ job. stays job l) (u k c at l seen is)

reserved : (h : List Entry) (mine : ℕ) (pod : Key) (plan : Plan) → Legal h → may_try (job_state_of h mine) ≡ true → MayReserve h pod plan → UsesNow h
    → AllAt (Uses (NowAs h (record { job = mine; event = Reserved pod plan }) (with_reserved mine pod plan (state_of h)).pods)) (with_reserved mine pod plan (state_of h)).claims
reserved h mine pod plan legal may t u =
    let s : State = state_of h in
    let e : Entry = record { job = mine; event = Reserved pod plan } in
    let ph : Phase = phase.Taken mine plan.node in
    let pods' : Pods = with_phase pod ph s.pods in
    let p : PodState = t.holds_now.state in
    let T : Key → Key → ℕ → Type 0 = NowAs h e pods' in
    let now : TakenBy pods' pod mine = (record p { phase = ph }, plan.node, changed_there pod (λ q. record q { phase = ph }) s.pods p t.holds_now.idle.there, refl) in
    let new : New T s.claims pod =
    λ k d at. (mine, now, record { front = h; last = record { plan = plan; later = []; is = refl; last = λ x other q among. absurd (omega (arith, among.1)) }; state = d; there = at; version = refl }) in
    let old : AllAt (Fold T s.claims) s.claims =
    λ k c at. (
      λ l seen is.
          let r = u k c at l seen is in
          let differ = not_idle s.pods pod l p r.0 t.holds_now.idle.there t.holds_now.idle.idle r.1 in
          (r.0, other_phase pod l ph s.pods r.0 differ r.1, version_kept h e r.0 l k seen (λ other q j of. other_job h r.0 mine l legal may r.1 j) r.2),
      (c, at, refl),
    ) in
    let all = joins_uses T s.claims pod plan.joins (with_grants plan.node pod plan.grants s.claims) new (grants_uses T s.claims plan.node pod plan.grants s.claims new old) in
    λ k c at. (all k c at).0

bound : (h : List Entry) (job : ℕ) (pod : Key) (node : List ℕ) → MayBind (state_of h) pod job node → UsersFit (state_of h).pods (state_of h).claims → UsesNow h
    → AllAt (Uses (NowAs h (record { job = job; event = Bound pod node }) (with_phase pod (phase.Bound node) (state_of h).pods))) (state_of h).claims
bound h job pod node may f u =
    λ k c at l seen is.
    let s : State = state_of h in
    let user = (f.1 k c at).1 l (ap is_some is) in
    let differ : l ≡ pod → ⊥ =
    λ e.
    let same : user.0 ≡ may.state = some_same user.0 may.state (sym user.1 ∙ ap (at_key s.pods) e ∙ may.taken.there) in
    let marked = all_there (λ x. has_written s pod x) (claims_of may.state) k may.written (subst (λ (q : PodState). In k (claims_of q)) same user.3) in
    let unmarked : has_written s pod k ≡ false = ap (λ o. is_written (use_in pod o)) at ∙ ap (λ x. is_written (at_key c.users x)) (sym e) ∙ ap is_written is in
    let no : false ≡ true = sym unmarked ∙ marked in
    absurd (cc) in
    let r = u k c at l seen is in
    go_on h (record { job = job; event = Bound pod node }) s.pods _ k l seen (λ i other q j of. absurd (cc)) (λ i t. other_phase pod l (phase.Bound node) s.pods i differ t) r

freed_again : (h : List Entry) (e : Entry) (index : ℕ) (pod : Key) → ((job : ℕ) → NoneMore e job) → UsersFit (without_uses index pod (state_of h)).pods (without_uses index pod (state_of h)).claims → UsesNow h
    → AllAt (Uses (NowAs h e (without_uses index pod (state_of h)).pods)) (without_uses index pod (state_of h)).claims
freed_again h e index pod none f u =
    let s : State = state_of h in
    let all = freed_each (ReservedAs h s.pods) index pod (claims_by (at_key s.pods pod)) s.claims (λ k c at l seen differ is. u k c at l seen is) in
    λ k c at l seen is.
    let user = (f.1 k c at).1 l (ap is_some is) in
    let differ = idle_again pod l s.pods user.0 user.1 user.2 in
    go_on h e s.pods _ k l seen none (λ i t. other_phase pod l phase.Idle s.pods i differ t) (all k c at l seen differ is)

uses_after : (h : List Entry) (index job : ℕ) (event : Event) → Legal h → Step h (record { job = job; event = event }) → UsersFit (state_of h).pods (state_of h).claims
    → UsersFit (after index job event (state_of h)).pods (after index job event (state_of h)).claims → UsesNow h
    → AllAt (Uses (NowAs h (record { job = job; event = event }) (after index job event (state_of h)).pods)) (after index job event (state_of h)).claims
uses_after h index job (Applied x m) legal step f g u =
    applied _ index x (state_of h) (all_go_on h _ (state_of h).pods _ (state_of h).claims (λ i other q j of. absurd (cc)) (λ i l t. applied_stays index x (state_of h) l i t) u)
uses_after h index job (Deleted t) legal step f g u =
    deleted _ t (state_of h) (state_of h).pods f (all_go_on h _ (state_of h).pods _ (state_of h).claims (λ i other q j of. absurd (cc)) (λ i l x. deleted_stays t (state_of h) l i step.follows.unrefused x) u)
uses_after h index job (Reserved pod plan) legal step f g u = reserved h job pod plan legal step.allowed step.follows u
uses_after h index job (Refused pod plan why) legal step f g u = all_go_on h _ (state_of h).pods _ (state_of h).claims (λ i other q j of. absurd (cc)) (λ i l t. t) u
uses_after h index job (Wrote pod claim seen) legal step f g u =
    written _ index pod claim (state_of h) (all_go_on h _ (state_of h).pods _ (state_of h).claims (λ i other q j of. absurd (cc)) (λ i l t. t) u)
uses_after h index job (Conflict pod claim had now) legal step f g u = all_go_on h _ (state_of h).pods _ (state_of h).claims (λ i other q j of. absurd (cc)) (λ i l t. t) u
uses_after h index job (Unreserved pod) legal step f g u = freed_again h _ index pod (λ i other q j of. absurd (cc)) g u
uses_after h index job (Bound pod node) legal step f g u = bound h job pod node step.follows f u
uses_after h index job (VerdictGiven pod verdict) legal step f g u = all_go_on h _ (state_of h).pods _ (state_of h).claims (λ i other q j of. absurd (cc)) (λ i l t. t) u
uses_after h index job (Contended pod attempts) legal step f g u = all_go_on h _ (state_of h).pods _ (state_of h).claims (λ i other q j of. absurd (cc)) (λ i l t. t) u
uses_after h index job (Released pod) legal step f g u = freed_again h _ index pod (λ i other q j of. absurd (cc)) g u
uses_after h index job (Adopted claim status) legal step f g u =
    adopted _ index claim status (state_of h) (all_go_on h _ (state_of h).pods _ (state_of h).claims (λ i other q j of. absurd (cc)) (λ i l t. t) u)
uses_after h index job (Denied command refusal) legal step f g u = all_go_on h _ (state_of h).pods _ (state_of h).claims (λ i other q j of. absurd (cc)) (λ i l t. t) u

uses_more : SameClaims → (h : List Entry) (e : Entry) → Legal h → UsesNow h → Step h e → UsesNow (h ++ e ∷ [])
uses_more law h e legal u step =
    let next = state_of-more h e in
    let f = fits_now law h legal in
    let g = subst (λ (s : State). UsersFit s.pods s.claims) next (fits_now law (h ++ e ∷ []) (Legal-more h e legal step)) in
    subst (λ (s : State). AllAt (Uses (ReservedAs (h ++ e ∷ []) s.pods)) s.claims) (sym next) (uses_after h (length h + 1) e.job e.event legal step f g u)

uses_first : UsesNow []
uses_first = subst (λ (s : State). AllAt (Uses (ReservedAs [] s.pods)) s.claims) (sym state_of-empty) (λ k c at. absurd (cc))

uses_now : SameClaims → (h : List Entry) → Legal h → UsesNow h
uses_now law h legal = always UsesNow uses_first (uses_more law) h legal

same_taker : (i j : ℕ) (m n : List ℕ) → phase.Taken i m ≡ phase.Taken j n → i ≡ j
same_taker i j m n e = cc

assumed_there : (pod : Key) (o : Option ClaimState) (seen : ℕ) → use_in pod o ≡ Some (Assumed seen) → (c : ClaimState) × (o ≡ Some c) × (at_key c.users pod ≡ Some (Assumed seen))
assumed_there pod None seen e = absurd (cc)
assumed_there pod (Some c) seen e = (c, refl, e)

-- the job that has taken a pod assumes the versions that the claims had as it reserved
reserved_version : SameClaims → (h : List Entry) (job : ℕ) (pod claim : Key) (seen : ℕ) (state : PodState) (node : List ℕ) → Legal h → IsTaken (state_of h) pod job node state
    → use_in pod (at_key (state_of h).claims claim) ≡ Some (Assumed seen) → IsVersionReserved h job pod claim seen
reserved_version law h job pod claim seen state node legal taken assumed =
    let c = assumed_there pod (at_key (state_of h).claims claim) seen assumed in
    let r = uses_now law h legal claim c.0 c.1 pod seen c.2 in
    let same : r.1.0 ≡ state = some_same r.1.0 state (sym r.1.2 ∙ taken.there) in
    let mine : r.0 ≡ job = same_taker r.0 job r.1.1 node (sym r.1.3 ∙ ap (λ (p : PodState). p.phase) same ∙ taken.taken) in
    subst (λ (i : ℕ). IsVersionReserved h i pod claim seen) mine r.2

pub wrote_reserved : SameClaims → (prefix back : List Entry) (job : ℕ) (pod claim : Key) (seen : ℕ) → Legal (prefix ++ record { job = job; event = Wrote pod claim seen } ∷ back) → IsVersionReserved prefix job pod claim seen
wrote_reserved law prefix back job pod claim seen legal =
    let may = (step_at prefix (record { job = job; event = Wrote pod claim seen }) back legal).follows in
    reserved_version law prefix job pod claim seen may.state may.node (prefix_legal prefix _ legal) may.taken may.assumed

pub conflict_reserved : SameClaims → (prefix back : List Entry) (job : ℕ) (pod claim : Key) (had now : ℕ) → Legal (prefix ++ record { job = job; event = Conflict pod claim had now } ∷ back)
    → IsVersionReserved prefix job pod claim had
conflict_reserved law prefix back job pod claim had now legal =
    let may = (step_at prefix (record { job = job; event = Conflict pod claim had now }) back legal).follows in
    reserved_version law prefix job pod claim had may.use_next.state may.use_next.node (prefix_legal prefix _ legal) may.use_next.taken may.use_next.assumed
