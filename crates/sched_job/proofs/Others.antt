-- An entry of another job leaves a work no more turns than it had.
use Rattle.std.proofs.Common.{ℕ, ◌≡◌, ◌∙◌, ◌+◌, ◌≤◌, ◌++◌, ⊎_elim, List, [], ◌∷◌, Bool, true, false, not, ◌||◌, cond, eqb, Option, None, Some, length, refl, sym, ap, subst, arith, eq-eqb}
use Rattle.std.proofs.lemmas.List.{take_all}
use Rattle.std.specs.BTreeMap.{insert_entry, is_at}
use Rattle.std.specs.Map.{remove_entry}
use Rattle.std.specs.declared.cmp.Ordering.{Ordering}
use Rattle.std.specs.declared.cmp.Ordering.TheVariants.{Less, Equal, Greater}
use Rattle.object_fields.specs.declared.key.Key.{Key}
use Rattle.pool_view.specs.Names.{at_key, key_cmp}
use Rattle.cluster.specs.declared.entry.Command.TheVariants as asked
use Rattle.cluster.specs.declared.entry.Entry.{Entry}
use Rattle.cluster.specs.declared.entry.Event.{Event}
use Rattle.cluster.specs.declared.entry.Event.TheVariants.{Applied, Deleted, Reserved, Refused, Wrote, Conflict, Unreserved, Bound, VerdictGiven, Contended, Released, Adopted, Denied}
use Rattle.cluster.specs.declared.entry.Refusal.{Refusal}
use Rattle.cluster.specs.declared.entry.Refusal.TheVariants as refusal
use Rattle.cluster.specs.declared.entry.JobState.{JobState}
use Rattle.cluster.specs.declared.entry.JobState.TheVariants as job_state
use Rattle.cluster.specs.declared.object.Object.TheVariants as object
use Rattle.cluster.specs.declared.object.Target.{Target}
use Rattle.cluster.specs.declared.object.Target.TheVariants as target
use Rattle.cluster.specs.declared.plan.Grant.{Grant}
use Rattle.cluster.specs.declared.state.ClaimState.{ClaimState}
use Rattle.cluster.specs.declared.state.Phase.{Phase}
use Rattle.cluster.specs.declared.state.Phase.TheVariants as phase
use Rattle.cluster.specs.declared.state.PodState.{PodState}
use Rattle.cluster.specs.declared.state.State.{State}
use Rattle.cluster.specs.declared.state.Use.{Use}
use Rattle.cluster.specs.declared.state.Use.TheVariants.{Assumed, Written}
use Rattle.cluster.specs.Adopted.{adopted_by}
use Rattle.cluster.specs.Applied.{new_claim, new_pod, updated_claim, updated_pod}
use Rattle.cluster.specs.Denied.{first_refusal, has_user, is_busy, is_found, is_in_use, is_user, or_else, release_refusal, unbound_refusal, when}
use Rattle.cluster.specs.Events.{after}
use Rattle.cluster.specs.Freed.{claims_by, freed, freed_by, with_freed}
use Rattle.cluster.specs.History.{state_at, state_of, job_state_of}
use Rattle.cluster.specs.Reserved.{joined_by, with_grant, with_grants, with_joins}
use Rattle.cluster.specs.State.{claims_of, is_idle, is_written, use_in}
use Rattle.cluster.specs.Tables.{changed_at, put_at}
use Rattle.cluster.specs.Wrote.{written_by}
use Rattle.histories.specs.Legal.{Legal, MayFollow, Step}
use Rattle.cluster.specs.JobState.{has_reserved}
use Rattle.histories.specs.Owners.{has_pod}
use Rattle.histories.specs.Wrote.{IsTaken}
use Rattle.commands.specs.declared.command.Command.{Command}
use Rattle.commands.specs.declared.command.Command.TheVariants.{Apply, Invalid, Delete, Schedule, Release, Adopt}
use Rattle.sched_job.specs.declared.work.Stage.{Stage}
use Rattle.sched_job.specs.declared.work.Work.{Work}
use Rattle.sched_job.specs.Runs.{Running}
use Rattle.histories.specs.JobRuns.{Run, JobKept}
use Rattle.sched_job.specs.Turns.{attempts_left, left_by, most_turns, unwritten, unwritten_among, unwritten_by}
use Rattle.sched_job.proofs.Fewer.{unwritten_fewer}
use Rattle.sched_job.proofs.Growing.{Grows, job_state_other, state_stays}
use Rattle.sched_job.proofs.Runnings.{running_other}
use Rattle.sched_job.proofs.Turning.{StaysTaken, of_pod}
use Rattle.sched_job.proofs.Keys.{changed_other, changed_there, false_by, key_tie, at_tie, other_key, same_or_not}

-- ---- tables

not_at : (k x : Key) → (k ≡ x → ⊥) → is_at (key_cmp k) x ≡ false
not_at k x differ = false_by (is_at (key_cmp k) x) (λ t. differ (at_tie k x t))

insert_by_order : {V : Type 0} (o : Ordering) (j k : Key) (e : Key × V) (es : List (Key × V)) (w : V) → key_cmp j e.0 ≡ o → (k ≡ j → ⊥) → at_key (insert_entry key_cmp es j w) k ≡ at_key es k → at_key (insert_entry key_cmp (e ∷ es) j w) k ≡ at_key (e ∷ es) k
insert_by_order Less j k e es w is differ later = rw is (rw (not_at k j differ) refl)
insert_by_order Equal j k e es w is differ later =
    let apart : is_at (key_cmp k) e.0 ≡ false = not_at k e.0 (λ same. differ (same ∙ sym (key_tie j e.0 is))) in rw is (rw apart refl)
insert_by_order Greater j k e es w is differ later = rw is (ap (λ o. cond (is_at (key_cmp k) e.0) (Some e.1) o) later)

insert_other : {V : Type 0} (j k : Key) (es : List (Key × V)) (w : V) → (k ≡ j → ⊥) → at_key (insert_entry key_cmp es j w) k ≡ at_key es k
insert_other j k [] w differ = rw (not_at k j differ) refl
insert_other j k (e ∷ es) w differ = insert_by_order (key_cmp j e.0) j k e es w refl differ (insert_other j k es w differ)

remove_by : {V : Type 0} (b : Bool) (j k : Key) (e : Key × V) (es : List (Key × V)) → is_at (key_cmp j) e.0 ≡ b → (k ≡ j → ⊥) → at_key (remove_entry (is_at (key_cmp j)) es) k ≡ at_key es k → at_key (remove_entry (is_at (key_cmp j)) (e ∷ es)) k ≡ at_key (e ∷ es) k
remove_by true j k e es is differ later = let apart : is_at (key_cmp k) e.0 ≡ false = other_key j k e.0 differ is in rw is (rw apart refl)
remove_by false j k e es is differ later = rw is (ap (λ o. cond (is_at (key_cmp k) e.0) (Some e.1) o) later)

remove_other : {V : Type 0} (j k : Key) (es : List (Key × V)) → (k ≡ j → ⊥) → at_key (remove_entry (is_at (key_cmp j)) es) k ≡ at_key es k
remove_other j k [] differ = refl
remove_other j k (e ∷ es) differ = remove_by (is_at (key_cmp j) e.0) j k e es refl differ (remove_other j k es differ)

abbrev Claims : Type 0
Claims = List (Key × ClaimState)

abbrev Pods : Type 0
Pods = List (Key × PodState)

-- ---- uses that stay written

abbrev wrote : Key → Option ClaimState → Bool
wrote pod o = is_written (use_in pod o)

-- each use of the pod that is written in the first claims is written in the others
record Stay (pod : Key) (claims claims' : Claims) : Type 0 where
  pub each : (k : Key) → wrote pod (at_key claims k) ≡ true → wrote pod (at_key claims' k) ≡ true

stay_same : (pod : Key) (claims : Claims) → Stay pod claims claims
stay_same pod claims = record { each = λ k e. e }

stay_join : (pod : Key) (a b d : Claims) → Stay pod a b → Stay pod b d → Stay pod a d
stay_join pod a b d p q = record { each = λ k e. q.each k (p.each k e) }

stay_at : (pod j : Key) (f : ClaimState → ClaimState) (claims : Claims) (o : Option ClaimState) → at_key claims j ≡ o → ((c : ClaimState) → wrote pod (Some c) ≡ true → wrote pod (Some (f c)) ≡ true) → wrote pod o ≡ true → wrote pod (at_key (changed_at j f claims) j) ≡ true
stay_at pod j f claims None is fine e = absurd cc
stay_at pod j f claims (Some c) is fine e = ap (wrote pod) (changed_there j f claims c is) ∙ fine c e

stay_changed : (pod j : Key) (f : ClaimState → ClaimState) (claims : Claims) → ((c : ClaimState) → wrote pod (Some c) ≡ true → wrote pod (Some (f c)) ≡ true) → Stay pod claims (changed_at j f claims)
stay_changed pod j f claims fine = record {
  each = λ k e. ⊎_elim (λ same. subst (λ (x : Key). wrote pod (at_key (changed_at j f claims) x) ≡ true) (sym same) (stay_at pod j f claims (at_key claims j) refl fine (subst (λ (x : Key). wrote pod (at_key claims x) ≡ true) same e)))
      (λ differ. ap (wrote pod) (changed_other j k f claims differ) ∙ e) (same_or_not k j);
}

some_put : {V : Type 0} (j : Key) (n : V) (f : V → V) (table : List (Key × V)) (c : V) → at_key table j ≡ Some c → changed_at j f table ≡ put_at j n f table (Some c)
some_put j n f table c is = rw is refl

stay_put : (pod j : Key) (n : ClaimState) (f : ClaimState → ClaimState) (claims : Claims) (o : Option ClaimState) → at_key claims j ≡ o → ((c : ClaimState) → wrote pod (Some c) ≡ true → wrote pod (Some (f c)) ≡ true) → Stay pod claims (put_at j n f claims o)
stay_put pod j n f claims None is fine = record {
  each = λ k e. ⊎_elim (λ same. absurd (let old : wrote pod (at_key claims j) ≡ true = subst (λ (x : Key). wrote pod (at_key claims x) ≡ true) same e in let none : wrote pod (at_key claims j) ≡ false = ap (wrote pod) is in cc))
      (λ differ. ap (wrote pod) (insert_other j k claims n differ) ∙ e) (same_or_not k j);
}
stay_put pod j n f claims (Some c) is fine = subst (Stay pod claims) (some_put j n f claims c is) (stay_changed pod j f claims fine)

stay_grants : (node : List ℕ) (pod q : Key) (gs : List Grant) (claims : Claims) → (pod ≡ q → ⊥) → Stay pod claims (with_grants node q gs claims)
stay_grants node pod q [] claims differ = stay_same pod claims
stay_grants node pod q (g ∷ gs) claims differ =
    stay_join pod claims (with_grant node q g.claim g.results claims) (with_grants node q gs (with_grant node q g.claim g.results claims))
    (stay_changed pod g.claim (λ c. record c { grant = Some (record { node = node; results = g.results; published = false }); users = insert_entry key_cmp c.users q (Assumed c.claim.version) }) claims
    (λ c e. ap is_written (insert_other q pod c.users (Assumed c.claim.version) differ) ∙ e)) (stay_grants node pod q gs (with_grant node q g.claim g.results claims) differ)

stay_joins : (pod q : Key) (ks : List Key) (claims : Claims) → (pod ≡ q → ⊥) → Stay pod claims (with_joins q ks claims)
stay_joins pod q [] claims differ = stay_same pod claims
stay_joins pod q (k ∷ ks) claims differ =
    stay_join pod claims (changed_at k (joined_by q) claims) (with_joins q ks (changed_at k (joined_by q) claims))
    (stay_changed pod k (joined_by q) claims (λ c e. ap is_written (insert_other q pod c.users (Assumed c.claim.version) differ) ∙ e)) (stay_joins pod q ks (changed_at k (joined_by q) claims) differ)

written_users : (users : List (Key × Use)) (pod q : Key) (o : Option Use) → at_key users pod ≡ o → is_written o ≡ true → is_written (at_key (changed_at q (λ (u : Use). Written) users) pod) ≡ true
written_users users pod q None is e = absurd cc
written_users users pod q (Some u) is e =
    ⊎_elim (λ same. ap is_written (subst (λ (x : Key). at_key (changed_at x (λ (v : Use). Written) users) pod ≡ Some Written) same (changed_there pod (λ (v : Use). Written) users u is)))
    (λ differ. ap is_written (changed_other q pod (λ (v : Use). Written) users differ ∙ is) ∙ e) (same_or_not pod q)

freed_users : (index : ℕ) (pod q : Key) (c : ClaimState) (o : Option Use) → (pod ≡ q → ⊥) → wrote pod (Some c) ≡ true → wrote pod (Some (freed_by index q o c)) ≡ true
freed_users index pod q c None differ e = e
freed_users index pod q c (Some u) differ e = ap is_written (remove_other q pod c.users differ) ∙ e

stay_freed : (index : ℕ) (pod q : Key) (ks : List Key) (claims : Claims) → (pod ≡ q → ⊥) → Stay pod claims (with_freed index q ks claims)
stay_freed index pod q [] claims differ = stay_same pod claims
stay_freed index pod q (k ∷ ks) claims differ =
    stay_join pod claims (changed_at k (freed index q) claims) (with_freed index q ks (changed_at k (freed index q) claims))
    (stay_changed pod k (freed index q) claims (λ c e. freed_users index pod q c (at_key c.users q) differ e)) (stay_freed index pod q ks (changed_at k (freed index q) claims) differ)

-- ---- refusals that don't hold

or_none : (a b : Option Refusal) → or_else a b ≡ None → b ≡ None
or_none None b e = e
or_none (Some r) b e = absurd cc

when_none : (b : Bool) (r : Refusal) → when b r ≡ None → b ≡ false
when_none true r e = absurd cc
when_none false r e = refl

unused_by : (c : ClaimState) (pod : Key) → has_user (Some c) ≡ false → wrote pod (Some c) ≡ true → ⊥
unused_by c pod no_user e = by_users c.users no_user e
  where
    by_users : (users : List (Key × Use)) → not (eqb (length users) 0) ≡ false → is_written (at_key users pod) ≡ true → ⊥
    by_users [] f g = cc
    by_users (u ∷ us) f g = absurd (let n : eqb (length (u ∷ us)) 0 ≡ false = grind arith in let m = ap not n in cc)

unused_at : (pod : Key) (o : Option ClaimState) → has_user o ≡ false → wrote pod o ≡ true → ⊥
unused_at pod None f e = cc
unused_at pod (Some c) f e = unused_by c pod f e

-- a claim that is taken away has no user
stay_removed : (pod j : Key) (claims : Claims) → has_user (at_key claims j) ≡ false → Stay pod claims (remove_entry (is_at (key_cmp j)) claims)
stay_removed pod j claims no_user = record {
  each = λ k e. ⊎_elim (λ same. absurd (unused_at pod (at_key claims j) no_user (subst (λ (x : Key). wrote pod (at_key claims x) ≡ true) same e)))
      (λ differ. ap (wrote pod) (remove_other j k claims differ) ∙ e) (same_or_not k j);
}

-- ---- the pod of a job that has reserved

record Held (s : State) (pod : Key) (job : ℕ) (p : PodState) : Type 0 where
  pub node : List ℕ
  pub there : at_key s.pods pod ≡ Some p
  pub taken : p.phase ≡ phase.Taken job node

some_pod : (p q : PodState) → Some p ≡ Some q → p ≡ q
some_pod p q e = cc

-- the phase of a pod at the same key
same_phase : (s : State) (pod q : Key) (p st : PodState) → at_key s.pods pod ≡ Some p → at_key s.pods q ≡ Some st → pod ≡ q → p.phase ≡ st.phase
same_phase s pod q p st there here same = ap (λ (x : PodState). x.phase) (some_pod p st (sym (subst (λ (x : Key). at_key s.pods x ≡ Some p) same there) ∙ here))

taken_idle : (job : ℕ) (node : List ℕ) → phase.Taken job node ≡ phase.Idle → ⊥
taken_idle job node e = cc

taken_same : (job other : ℕ) (node node' : List ℕ) → phase.Taken job node ≡ phase.Taken other node' → other ≡ job
taken_same job other node node' e = cc

apart_idle : (s : State) (pod q : Key) (job : ℕ) (p st : PodState) → Held s pod job p → at_key s.pods q ≡ Some st → st.phase ≡ phase.Idle → pod ≡ q → ⊥
apart_idle s pod q job p st held here idle same = taken_idle job held.node (sym held.taken ∙ same_phase s pod q p st held.there here same ∙ idle)

apart_taken : (s : State) (pod q : Key) (job other : ℕ) (node : List ℕ) (p st : PodState) → Held s pod job p → (other ≡ job → ⊥) → IsTaken s q other node st → pod ≡ q → ⊥
apart_taken s pod q job other node p st held differ t same = differ (taken_same job other held.node node (sym held.taken ∙ same_phase s pod q p st held.there t.there same ∙ t.taken))

busy_some : (r : Refusal) → Some r ≡ None → ⊥
busy_some r e = cc

apart_bound : (s : State) (pod q : Key) (job : ℕ) (p : PodState) → Held s pod job p → release_refusal (at_key s.pods q) ≡ None → pod ≡ q → ⊥
apart_bound s pod q job p held none same =
    busy_some (refusal.Busy job)
    (sym (ap release_refusal (subst (λ (x : Key). at_key s.pods x ≡ Some p) same held.there) ∙ ap unbound_refusal held.taken) ∙ none)

or_false : (a b : Bool) → (a || b) ≡ false → a ≡ false
or_false true b e = absurd cc
or_false false b e = refl

apart_unused : (s : State) (pod q : Key) (job : ℕ) (p : PodState) → Held s pod job p → (is_busy (at_key s.pods q) || is_user s q) ≡ false → pod ≡ q → ⊥
apart_unused s pod q job p held unused same =
    let busy : is_busy (at_key s.pods q) ≡ true = ap is_busy (subst (λ (x : Key). at_key s.pods x ≡ Some p) same held.there) ∙ ap (λ (ph : Phase). not (is_idle ph)) held.taken in
    let idle : is_busy (at_key s.pods q) ≡ false = or_false (is_busy (at_key s.pods q)) (is_user s q) unused in both (is_busy (at_key s.pods q)) busy idle
  where
    both : (b : Bool) → b ≡ true → b ≡ false → ⊥
    both true a c = cc
    both false a c = cc

not_in_use : (s : State) (t : Target) → first_refusal s (asked.Delete t) ≡ None → is_in_use s t ≡ false
not_in_use s t e = when_none (is_in_use s t) refusal.InUse (or_none (when (not (is_found s t)) refusal.NotFound) (when (is_in_use s t) refusal.InUse) e)

-- ---- an entry of another job

stays_written : (h : List Entry) (index job other : ℕ) (pod : Key) (p : PodState) (ev : Event) → Held (state_of h) pod job p → (other ≡ job → ⊥) → MayFollow h other ev → Stay pod (state_of h).claims (after index other ev (state_of h)).claims
stays_written h index job other pod p (Applied (object.Node x) mode) held differ stands = stay_same pod (state_of h).claims
stays_written h index job other pod p (Applied (object.Slice x) mode) held differ stands = stay_same pod (state_of h).claims
stays_written h index job other pod p (Applied (object.Class x) mode) held differ stands = stay_same pod (state_of h).claims
stays_written h index job other pod p (Applied (object.Claim x) mode) held differ stands = stay_put pod x.key (new_claim index x) (updated_claim index x) (state_of h).claims (at_key (state_of h).claims x.key) refl (λ c e. e)
stays_written h index job other pod p (Applied (object.Pod x) mode) held differ stands = stay_same pod (state_of h).claims
stays_written h index job other pod p (Deleted (target.Node name)) held differ stands = stay_same pod (state_of h).claims
stays_written h index job other pod p (Deleted (target.Slice name)) held differ stands = stay_same pod (state_of h).claims
stays_written h index job other pod p (Deleted (target.Class name)) held differ stands = stay_same pod (state_of h).claims
stays_written h index job other pod p (Deleted (target.Claim key)) held differ stands = stay_removed pod key (state_of h).claims (not_in_use (state_of h) (target.Claim key) stands.unrefused)
stays_written h index job other pod p (Deleted (target.Pod key)) held differ stands = stay_same pod (state_of h).claims
stays_written h index job other pod p (Reserved q plan) held differ stands =
    let apart : pod ≡ q → ⊥ = apart_idle (state_of h) pod q job p stands.holds_now.state held stands.holds_now.idle.there stands.holds_now.idle.idle in
    stay_join pod (state_of h).claims (with_grants plan.node q plan.grants (state_of h).claims) (with_joins q plan.joins (with_grants plan.node q plan.grants (state_of h).claims))
    (stay_grants plan.node pod q plan.grants (state_of h).claims apart) (stay_joins pod q plan.joins (with_grants plan.node q plan.grants (state_of h).claims) apart)
stays_written h index job other pod p (Refused q plan why) held differ stands = stay_same pod (state_of h).claims
stays_written h index job other pod p (Wrote q claim seen) held differ stands = stay_changed pod claim (written_by index q) (state_of h).claims (λ c e. written_users c.users pod q (at_key c.users pod) refl e)
stays_written h index job other pod p (Conflict q claim had now) held differ stands = stay_same pod (state_of h).claims
stays_written h index job other pod p (Unreserved q) held differ stands =
    stay_freed index pod q (claims_by (at_key (state_of h).pods q)) (state_of h).claims (apart_taken (state_of h) pod q job other stands.node p stands.state held differ stands.taken)
stays_written h index job other pod p (Bound q node) held differ stands = stay_same pod (state_of h).claims
stays_written h index job other pod p (VerdictGiven q verdict) held differ stands = stay_same pod (state_of h).claims
stays_written h index job other pod p (Contended q failed) held differ stands = stay_same pod (state_of h).claims
stays_written h index job other pod p (Released q) held differ stands = stay_freed index pod q (claims_by (at_key (state_of h).pods q)) (state_of h).claims (apart_bound (state_of h) pod q job p held stands.unrefused)
stays_written h index job other pod p (Adopted claim status) held differ stands = stay_changed pod claim (adopted_by index status) (state_of h).claims (λ c e. e)
stays_written h index job other pod p (Denied command refused) held differ stands = stay_same pod (state_of h).claims

uid_same : (p q : PodState) → Some p ≡ Some q → p.pod.uid ≡ q.pod.uid
uid_same p q e = ap (λ (x : PodState). x.pod.uid) (some_pod p q e)

uid_changed : (pod j : Key) (f : PodState → PodState) (pods : Pods) (p q : PodState) → ((r : PodState) → (f r).pod.uid ≡ r.pod.uid) → at_key pods pod ≡ Some p → at_key (changed_at j f pods) pod ≡ Some q → p.pod.uid ≡ q.pod.uid
uid_changed pod j f pods p q fine there now =
    ⊎_elim (λ same. sym (fine p) ∙ uid_same (f p) q (sym (changed_there pod f pods p there) ∙ subst (λ (x : Key). at_key (changed_at x f pods) pod ≡ Some q) (sym same) now))
    (λ differ. uid_same p q (sym there ∙ sym (changed_other j pod f pods differ) ∙ now)) (same_or_not pod j)

none_some : (p : PodState) (o : Option PodState) → o ≡ Some p → o ≡ None → ⊥
none_some p None a b = cc
none_some p (Some q) a b = cc

uid_put : (pod j : Key) (n : PodState) (f : PodState → PodState) (pods : Pods) (o : Option PodState) (p q : PodState) → at_key pods j ≡ o → ((r : PodState) → (f r).pod.uid ≡ r.pod.uid) → at_key pods pod ≡ Some p → at_key (put_at j n f pods o) pod ≡ Some q → p.pod.uid ≡ q.pod.uid
uid_put pod j n f pods None p q is fine there now =
    let apart : pod ≡ j → ⊥ = λ same. none_some p (at_key pods j) (subst (λ (x : Key). at_key pods x ≡ Some p) same there) is in uid_same p q (sym there ∙ sym (insert_other j pod pods n apart) ∙ now)
uid_put pod j n f pods (Some r) p q is fine there now = uid_changed pod j f pods p q fine there (ap (λ (t : Pods). at_key t pod) (some_put j n f pods r is) ∙ now)

keeps_uid : (h : List Entry) (index job other : ℕ) (pod : Key) (p q : PodState) (ev : Event) → Held (state_of h) pod job p → MayFollow h other ev → at_key (after index other ev (state_of h)).pods pod ≡ Some q → p.pod.uid ≡ q.pod.uid
keeps_uid h index job other pod p q (Applied (object.Node x) mode) held stands now = uid_same p q (sym held.there ∙ now)
keeps_uid h index job other pod p q (Applied (object.Slice x) mode) held stands now = uid_same p q (sym held.there ∙ now)
keeps_uid h index job other pod p q (Applied (object.Class x) mode) held stands now = uid_same p q (sym held.there ∙ now)
keeps_uid h index job other pod p q (Applied (object.Claim x) mode) held stands now = uid_same p q (sym held.there ∙ now)
keeps_uid h index job other pod p q (Applied (object.Pod x) mode) held stands now = uid_put pod x.key (new_pod index x) (updated_pod index x) (state_of h).pods (at_key (state_of h).pods x.key) p q refl (λ r. refl) held.there now
keeps_uid h index job other pod p q (Deleted (target.Node name)) held stands now = uid_same p q (sym held.there ∙ now)
keeps_uid h index job other pod p q (Deleted (target.Slice name)) held stands now = uid_same p q (sym held.there ∙ now)
keeps_uid h index job other pod p q (Deleted (target.Class name)) held stands now = uid_same p q (sym held.there ∙ now)
keeps_uid h index job other pod p q (Deleted (target.Claim key)) held stands now = uid_same p q (sym held.there ∙ now)
keeps_uid h index job other pod p q (Deleted (target.Pod key)) held stands now =
    let apart : pod ≡ key → ⊥ = apart_unused (state_of h) pod key job p held (not_in_use (state_of h) (target.Pod key) stands.unrefused) in
    uid_same p q (sym held.there ∙ sym (remove_other key pod (state_of h).pods apart) ∙ now)
keeps_uid h index job other pod p q (Reserved r plan) held stands now = uid_changed pod r (λ x. record x { phase = phase.Taken other plan.node }) (state_of h).pods p q (λ x. refl) held.there now
keeps_uid h index job other pod p q (Refused r plan why) held stands now = uid_same p q (sym held.there ∙ now)
keeps_uid h index job other pod p q (Wrote r claim seen) held stands now = uid_same p q (sym held.there ∙ now)
keeps_uid h index job other pod p q (Conflict r claim had new) held stands now = uid_same p q (sym held.there ∙ now)
keeps_uid h index job other pod p q (Unreserved r) held stands now = uid_changed pod r (λ x. record x { phase = phase.Idle }) (state_of h).pods p q (λ x. refl) held.there now
keeps_uid h index job other pod p q (Bound r node) held stands now = uid_changed pod r (λ x. record x { phase = phase.Bound node }) (state_of h).pods p q (λ x. refl) held.there now
keeps_uid h index job other pod p q (VerdictGiven r verdict) held stands now = uid_same p q (sym held.there ∙ now)
keeps_uid h index job other pod p q (Contended r failed) held stands now = uid_same p q (sym held.there ∙ now)
keeps_uid h index job other pod p q (Released r) held stands now = uid_changed pod r (λ x. record x { phase = phase.Idle }) (state_of h).pods p q (λ x. refl) held.there now
keeps_uid h index job other pod p q (Adopted claim status) held stands now = uid_same p q (sym held.there ∙ now)
keeps_uid h index job other pod p q (Denied command refused) held stands now = uid_same p q (sym held.there ∙ now)

-- ---- the turns left

-- what is used of the lower crates
pub record Others : Type 0 where
  pub grows : Grows
  pub state : (h : List Entry) (e : Entry) → state_of (h ++ e ∷ []) ≡ after (length h + 1) e.job e.event (state_of h)
  pub step : (prefix : List Entry) (e : Entry) (back : List Entry) → Legal (prefix ++ e ∷ back) → Step prefix e
  pub prefix : (prefix back : List Entry) → Legal (prefix ++ back) → Legal prefix
  pub stays : StaysTaken
  pub uids : (h : List Entry) (first second : ℕ) (key : Key) (p q : PodState) → Legal h → at_key (state_at h first).pods key ≡ Some p → at_key (state_at h second).pods key ≡ Some q → p.pod.uid ≡ q.pod.uid → claims_of p ≡ claims_of q

has_pod_by : (st : JobState) → has_reserved st ≡ true → has_pod st ≡ true
has_pod_by job_state.Fresh e = absurd cc
has_pod_by (job_state.Reserved k) e = refl
has_pod_by (job_state.Conflicted k) e = absurd cc
has_pod_by (job_state.Failed k) e = absurd cc
has_pod_by (job_state.Ended p) e = absurd cc

all_of : (h : List Entry) → state_at h (length h) ≡ state_of h
all_of h = ap state_of (take_all (length h) h (omega arith))

unwritten_others : Others → (c : Run) (h : List Entry) (e : Entry) (pod : Key) (attempts : ℕ) → c.command ≡ Schedule pod attempts → Legal (h ++ e ∷ []) → JobKept c h → JobKept c (h ++ e ∷ []) → eqb e.job c.job ≡ false → has_reserved (job_state_of h c.job) ≡ true
    → unwritten (state_of (h ++ e ∷ [])) pod ≤ unwritten (state_of h) pod
unwritten_others laws c h e pod attempts is legal kept kept' other reserved =
    let g : List Entry = h ++ e ∷ [] in
    let before : Legal h = laws.prefix h (e ∷ []) legal in
    let job_state' : has_pod (job_state_of g c.job) ≡ true = ap has_pod (job_state_other laws.grows h e c.job other) ∙ has_pod_by (job_state_of h c.job) reserved in
    let t = laws.stays h c.job pod before (of_pod c h pod attempts is kept) (has_pod_by (job_state_of h c.job) reserved) in
    let t' = laws.stays g c.job pod legal (of_pod c g pod attempts is kept') job_state' in
    let held : Held (state_of h) pod c.job t.0 = record { node = t.1.0; there = t.1.1.there; taken = t.1.1.taken } in
    let step : Step h e = laws.step h e [] legal in
    let grown : state_of g ≡ after (length h + 1) e.job e.event (state_of h) = laws.state h e in
    let differ : e.job ≡ c.job → ⊥ = λ same. let x = eq-eqb e.job c.job same in absurd cc in
    let now : at_key (after (length h + 1) e.job e.event (state_of h)).pods pod ≡ Some t'.0 = ap (λ (s : State). at_key s.pods pod) (sym grown) ∙ t'.1.1.there in
    let uid = keeps_uid h (length h + 1) c.job e.job pod t.0 t'.0 e.event held step.follows now in
    let at_h : state_at g (length h) ≡ state_of h = state_stays h (e ∷ []) (length h) (omega arith) ∙ all_of h in
    let claims : claims_of t.0 ≡ claims_of t'.0 = laws.uids g (length h) (length g) pod t.0 t'.0 legal (ap (λ (s : State). at_key s.pods pod) at_h ∙ t.1.1.there) (ap (λ (s : State). at_key s.pods pod) (all_of g) ∙ t'.1.1.there) uid in
    let stay = stays_written h (length h + 1) c.job e.job pod t.0 e.event held differ step.follows in
    let le = unwritten_fewer (state_of h) (after (length h + 1) e.job e.event (state_of h)) pod (claims_of t.0) (λ k w. stay.each k w) in
    let old : unwritten (state_of h) pod ≡ unwritten_among (state_of h) pod (claims_of t.0) = ap (unwritten_by (state_of h) pod) t.1.1.there in
    let new : unwritten (state_of g) pod ≡ unwritten_among (after (length h + 1) e.job e.event (state_of h)) pod (claims_of t.0) =
    ap (unwritten_by (state_of g) pod) t'.1.1.there ∙ ap (λ (ks : List Key). unwritten_among (state_of g) pod ks) (sym claims) ∙ ap (λ (s : State). unwritten_among s pod (claims_of t.0)) grown in
    omega arith

attempts_le : (s s' : State) (pod : Key) (attempts : ℕ) (kept : Stage) (st : JobState) → (has_reserved st ≡ true → unwritten s' pod ≤ unwritten s pod) → attempts_left s' pod attempts kept st ≤ attempts_left s pod attempts kept st
attempts_le s s' pod attempts kept job_state.Fresh le = omega arith
attempts_le s s' pod attempts kept (job_state.Reserved k) le = let l = le refl in omega arith
attempts_le s s' pod attempts kept (job_state.Conflicted k) le = omega arith
attempts_le s s' pod attempts kept (job_state.Failed k) le = omega arith
attempts_le s s' pod attempts kept (job_state.Ended p) le = omega arith

left_le : (s s' : State) (kept : Stage) (st : JobState) (cmd : Command) → ((pod : Key) (attempts : ℕ) → cmd ≡ Schedule pod attempts → has_reserved st ≡ true → unwritten s' pod ≤ unwritten s pod) → left_by s' kept st cmd ≤ left_by s kept st cmd
left_le s s' kept st (Apply object mode) le = omega arith
left_le s s' kept st (Invalid error) le = omega arith
left_le s s' kept st (Delete target) le = omega arith
left_le s s' kept st (Schedule pod attempts) le = attempts_le s s' pod attempts kept st (le pod attempts refl)
left_le s s' kept st (Release pod) le = omega arith
left_le s s' kept st (Adopt claim status) le = omega arith

-- an entry of another job leaves no more
pub others_less : Others → (c : Run) (h : List Entry) (w : Work) (e : Entry) → Legal (h ++ e ∷ []) → Running c h w → eqb e.job c.job ≡ false → most_turns (h ++ e ∷ []) w ≤ most_turns h w
others_less laws c h w e legal r other =
    let r' = running_other laws.grows c h w e other r in
    let mine : eqb e.job w.job ≡ false = ap (eqb e.job) r.job ∙ other in
    let st : job_state_of (h ++ e ∷ []) w.job ≡ job_state_of h w.job = job_state_other laws.grows h e w.job mine in
    let le = left_le (state_of h) (state_of (h ++ e ∷ [])) w.stage (job_state_of h w.job) w.command
    (λ pod attempts is reserved. unwritten_others laws c h e pod attempts (sym r.command ∙ is) legal r.kept r'.kept other (ap has_reserved (ap (job_state_of h) (sym r.job)) ∙ reserved)) in
    subst (λ (x : JobState). left_by (state_of (h ++ e ∷ [])) w.stage x w.command ≤ left_by (state_of h) w.stage (job_state_of h w.job) w.command) (sym st) le
