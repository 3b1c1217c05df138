-- The job that has taken a pod has reserved, has neither bound the pod nor given it up, and has taken no other pod.
use Rattle.std.proofs.Common.{ℕ, ◌+◌, ◌≤◌, ◌≡◌, ◌≢◌, ◌∙◌, List, [], ◌∷◌, ◌++◌, Bool, true, false, cond, eqb, Option, None, Some, length, refl, sym, ap, subst, arith, eq-eqb, ◌&&◌}
use Rattle.std.proofs.lemmas.Bool.{eqb-true}
use Rattle.std.specs.Map.{lookup, remove_entry, set_value}
use Rattle.std.specs.Option.{option_map_or}
use Rattle.std.specs.Ordering.{match_ordering}
use Rattle.std.specs.BTreeMap.{insert_entry, is_at}
use Rattle.std.specs.declared.cmp.Ordering.{Ordering}
use Rattle.std.specs.declared.cmp.Ordering.TheVariants.{Less, Equal, Greater}
use Rattle.object_fields.specs.declared.key.Key.{Key}
use Rattle.pool_view.specs.Names.{at_key, key_cmp}
use Rattle.cluster.specs.declared.entry.Command.TheVariants.{Release, Schedule}
use Rattle.cluster.specs.declared.entry.Entry.{Entry}
use Rattle.cluster.specs.declared.entry.Event.{Event}
use Rattle.cluster.specs.declared.entry.Event.TheVariants.{Applied, Deleted, Reserved, Refused, Wrote, Conflict, Unreserved, Bound, VerdictGiven, Contended, Released, Adopted, Denied}
use Rattle.cluster.specs.declared.entry.Refusal.{Refusal}
use Rattle.cluster.specs.declared.entry.Refusal.TheVariants as refusal
use Rattle.cluster.specs.declared.entry.JobState.{JobState}
use Rattle.cluster.specs.declared.entry.JobState.TheVariants as job_state
use Rattle.cluster.specs.declared.object.Object.{Object}
use Rattle.cluster.specs.declared.object.Object.TheVariants as object
use Rattle.cluster.specs.declared.object.Target.{Target}
use Rattle.cluster.specs.declared.object.Target.TheVariants as target
use Rattle.cluster.specs.declared.state.Phase.{Phase}
use Rattle.cluster.specs.declared.state.Phase.TheVariants as phase
use Rattle.cluster.specs.declared.state.PodState.{PodState}
use Rattle.cluster.specs.declared.state.State.{State}
use Rattle.cluster.specs.Applied.{with_object}
use Rattle.cluster.specs.Deleted.{without_object}
use Rattle.cluster.specs.Denied.{or_else, phase_refusal, release_refusal, schedule_refusal, unbound_refusal}
use Rattle.cluster.specs.Events.{after, allows, job_state_after}
use Rattle.cluster.specs.History.{job_state_of, state_of}
use Rattle.cluster.specs.JobState.{has_failed, is_fresh, may_try}
use Rattle.cluster.specs.Tables.{put_at, with_phase}
use Rattle.histories.specs.Legal.{Step, Legal, MayFollow}
use Rattle.histories.specs.Owners.{has_pod}
use Rattle.histories.proofs.Headlines.{prefix_legal, step_at}
use Rattle.histories.proofs.Always.{always}
use Rattle.histories.proofs.Histories.{job_state_of-more, state_of-empty, state_of-more}

-- ---- how many pods a job has taken

abbrev pub taken_by : ℕ → Phase → ℕ
taken_by job phase.Idle = 0
taken_by job (phase.Taken j node) = cond (eqb j job) 1 0
taken_by job (phase.Bound node) = 0

abbrev pub Pods : Type 0
Pods = List (Key × PodState)

abbrev pub pods_taken : ℕ → Pods → ℕ
pods_taken job [] = 0
pods_taken job (e ∷ es) = taken_by job e.1.phase + pods_taken job es

insert_by : (job : ℕ) (o : Ordering) (e : Key × PodState) (es more : Pods) (k : Key) (v : PodState) → taken_by job v.phase ≡ 0 → pods_taken job more ≤ pods_taken job es
    → pods_taken job (match_ordering o ((k, v) ∷ e ∷ es) ((e.0, v) ∷ es) (e ∷ more)) ≤ pods_taken job (e ∷ es)
insert_by job Less e es more k v idle later = omega (arith, idle)
insert_by job Equal e es more k v idle later = omega (arith, idle)
insert_by job Greater e es more k v idle later = omega (arith, later)

inserted : (job : ℕ) (es : Pods) (k : Key) (v : PodState) → taken_by job v.phase ≡ 0 → pods_taken job (insert_entry key_cmp es k v) ≤ pods_taken job es
inserted job [] k v idle = omega (arith, idle)
inserted job (e ∷ es) k v idle = insert_by job (key_cmp k e.0) e es (insert_entry key_cmp es k v) k v idle (inserted job es k v idle)

remove_by : (job : ℕ) (b : Bool) (e : Key × PodState) (es less : Pods) → pods_taken job less ≤ pods_taken job es → pods_taken job (cond b es (e ∷ less)) ≤ pods_taken job (e ∷ es)
remove_by job true e es less later = omega arith
remove_by job false e es less later = omega (arith, later)

removed : (job : ℕ) (test : Key → Bool) (es : Pods) → pods_taken job (remove_entry test es) ≤ pods_taken job es
removed job test [] = omega arith
removed job test (e ∷ es) = remove_by job (test e.0) e es (remove_entry test es) (removed job test es)

some_same : {X : Type 0} (v w : X) → Some v ≡ Some w → v ≡ w
some_same v w e = cc

set_by : (job : ℕ) (test : Key → Bool) (b : Bool) (e : Key × PodState) (es : Pods) (v w : PodState) → cond b (Some e.1) (lookup test es) ≡ Some v
    → (lookup test es ≡ Some v → pods_taken job (set_value test es w) + taken_by job v.phase ≡ pods_taken job es + taken_by job w.phase)
    → pods_taken job (cond b ((e.0, w) ∷ es) (e ∷ set_value test es w)) + taken_by job v.phase ≡ pods_taken job (e ∷ es) + taken_by job w.phase
set_by job test true e es v w there later =
    let same : taken_by job e.1.phase ≡ taken_by job v.phase = ap (λ (p : PodState). taken_by job p.phase) (some_same e.1 v there) in
    omega (arith, same)
set_by job test false e es v w there later =
    let h = later there in
    omega (arith, h)

set_exact : (job : ℕ) (test : Key → Bool) (es : Pods) (v w : PodState) → lookup test es ≡ Some v → pods_taken job (set_value test es w) + taken_by job v.phase ≡ pods_taken job es + taken_by job w.phase
set_exact job test [] v w there = absurd (cc)
set_exact job test (e ∷ es) v w there = set_by job test (test e.0) e es v w there (λ g. set_exact job test es v w g)

phase_by : (job : ℕ) (pod : Key) (ph : Phase) (es : Pods) (o : Option PodState) → at_key es pod ≡ o
    → pods_taken job (option_map_or (λ p. set_value (is_at (key_cmp pod)) es (record p { phase = ph })) o es) ≤ pods_taken job es + taken_by job ph
phase_by job pod ph es None is = omega arith
phase_by job pod ph es (Some p) is =
    let h = set_exact job (is_at (key_cmp pod)) es p (record p { phase = ph }) is in
    omega (arith, h)

-- a pod in another phase
phase_set : (job : ℕ) (pod : Key) (ph : Phase) (es : Pods) → pods_taken job (with_phase pod ph es) ≤ pods_taken job es + taken_by job ph
phase_set job pod ph es = phase_by job pod ph es (at_key es pod) refl

put_by : (job : ℕ) (key : Key) (new : PodState) (f : PodState → PodState) (es : Pods) (o : Option PodState) → at_key es key ≡ o → taken_by job new.phase ≡ 0
    → ((p : PodState) → taken_by job (f p).phase ≡ taken_by job p.phase) → pods_taken job (put_at key new f es o) ≤ pods_taken job es
put_by job key new f es None is idle same = inserted job es key new idle
put_by job key new f es (Some p) is idle same =
    let h = set_exact job (is_at (key_cmp key)) es p (f p) is in
    let s = same p in
    omega (arith, h, s)

applied : (job index : ℕ) (x : Object) (s : State) → pods_taken job (with_object index x s).pods ≤ pods_taken job s.pods
applied job index (object.Node x) s = omega arith
applied job index (object.Slice x) s = omega arith
applied job index (object.Class x) s = omega arith
applied job index (object.Claim x) s = omega arith
applied job index (object.Pod x) s = put_by job x.key _ _ s.pods (at_key s.pods x.key) refl refl (λ p. refl)

deleted : (job : ℕ) (t : Target) (s : State) → pods_taken job (without_object t s).pods ≤ pods_taken job s.pods
deleted job (target.Node name) s = omega arith
deleted job (target.Slice name) s = omega arith
deleted job (target.Class name) s = omega arith
deleted job (target.Claim key) s = omega arith
deleted job (target.Pod key) s = removed job (is_at (key_cmp key)) s.pods

-- ---- what a job may have taken

abbrev most : JobState → ℕ
most st = cond (has_pod st) 1 0

most_fresh : (st : JobState) → is_fresh st ≡ true → most st ≡ 0
most_fresh job_state.Fresh e = refl
most_fresh (job_state.Reserved k) e = absurd (cc)
most_fresh (job_state.Conflicted k) e = absurd (cc)
most_fresh (job_state.Failed k) e = refl
most_fresh (job_state.Ended index) e = refl

most_trying : (st : JobState) → may_try st ≡ true → most st ≡ 0
most_trying job_state.Fresh e = refl
most_trying (job_state.Reserved k) e = absurd (cc)
most_trying (job_state.Conflicted k) e = absurd (cc)
most_trying (job_state.Failed k) e = refl
most_trying (job_state.Ended index) e = refl

most_failed : (st : JobState) (b : Bool) → (has_failed st && b) ≡ true → most st ≡ 0
most_failed job_state.Fresh b e = absurd (cc)
most_failed (job_state.Reserved k) b e = absurd (cc)
most_failed (job_state.Conflicted k) b e = absurd (cc)
most_failed (job_state.Failed k) b e = refl
most_failed (job_state.Ended index) b e = absurd (cc)

most_one : (st : JobState) → most st ≤ 1
most_one job_state.Fresh = omega arith
most_one (job_state.Reserved k) = omega arith
most_one (job_state.Conflicted k) = omega arith
most_one (job_state.Failed k) = omega arith
most_one (job_state.Ended index) = omega arith

-- a pod that the job has taken, in a phase in which it isn't
given_up : (job : ℕ) (pod : Key) (ph : Phase) (node : List ℕ) (es : Pods) (p : PodState) → at_key es pod ≡ Some p → p.phase ≡ phase.Taken job node → taken_by job ph ≡ 0 → pods_taken job (with_phase pod ph es) + 1 ≡ pods_taken job es
given_up job pod ph node es p there taken off =
    let q : PodState = record p { phase = ph } in
    let set : with_phase pod ph es ≡ set_value (is_at (key_cmp pod)) es q =
    ap (λ o. option_map_or (λ (x : PodState). set_value (is_at (key_cmp pod)) es (record x { phase = ph })) o es) there in
    let count : pods_taken job (with_phase pod ph es) ≡ pods_taken job (set_value (is_at (key_cmp pod)) es q) = ap (pods_taken job) set in
    let exact = set_exact job (is_at (key_cmp pod)) es p q there in
    let was : taken_by job p.phase ≡ 1 = ap (taken_by job) taken ∙ ap (λ b. cond b 1 0) (eq-eqb job job refl) in
    omega (arith, count, exact, was, off)

-- an entry's own job
own : (before : List Entry) (index job : ℕ) (event : Event) → allows (job_state_of before job) event ≡ true → MayFollow before job event → pods_taken job (state_of before).pods ≤ most (job_state_of before job)
    → pods_taken job (after index job event (state_of before)).pods ≤ most (job_state_after (job_state_of before job) index event)
own before index job (Applied x m) allowed may h =
    let none = most_fresh (job_state_of before job) allowed in
    let few = applied job index x (state_of before) in
    omega (arith, none, few, h)
own before index job (Deleted t) allowed may h =
    let none = most_fresh (job_state_of before job) allowed in
    let few = deleted job t (state_of before) in
    omega (arith, none, few, h)
own before index job (Reserved pod plan) allowed may h =
    let none = most_trying (job_state_of before job) allowed in
    let few = phase_set job pod (phase.Taken job plan.node) (state_of before).pods in
    let one : taken_by job (phase.Taken job plan.node) ≡ 1 = ap (λ b. cond b 1 0) (eq-eqb job job refl) in
    omega (arith, none, few, one, h)
own before index job (Refused pod plan why) allowed may h =
    let none = most_trying (job_state_of before job) allowed in
    omega (arith, none, h)
own before index job (Wrote pod claim seen) allowed may h =
    let one = most_one (job_state_of before job) in
    omega (arith, one, h)
own before index job (Conflict pod claim had now) allowed may h =
    let one = most_one (job_state_of before job) in
    omega (arith, one, h)
own before index job (Unreserved pod) allowed may h =
    let less = given_up job pod phase.Idle may.node (state_of before).pods may.state may.taken.there may.taken.taken refl in
    let one = most_one (job_state_of before job) in
    omega (arith, less, one, h)
own before index job (Bound pod node) allowed may h =
    let less = given_up job pod (phase.Bound node) node (state_of before).pods may.state may.taken.there may.taken.taken refl in
    let one = most_one (job_state_of before job) in
    omega (arith, less, one, h)
own before index job (VerdictGiven pod verdict) allowed may h =
    let none = most_trying (job_state_of before job) allowed in
    omega (arith, none, h)
own before index job (Contended pod attempts) allowed may h =
    let none = most_failed (job_state_of before job) _ allowed in
    omega (arith, none, h)
own before index job (Released pod) allowed may h =
    let none = most_fresh (job_state_of before job) allowed in
    let few = phase_set job pod phase.Idle (state_of before).pods in
    omega (arith, none, few, h)
own before index job (Adopted claim status) allowed may h =
    let none = most_fresh (job_state_of before job) allowed in
    omega (arith, none, h)
own before index job (Denied command refused) allowed may h =
    let none = most_trying (job_state_of before job) allowed in
    omega (arith, none, h)

-- another job
other : (index job j : ℕ) (event : Event) (s : State) → eqb job j ≡ false → pods_taken j (after index job event s).pods ≤ pods_taken j s.pods
other index job j (Applied x m) s differs = applied j index x s
other index job j (Deleted t) s differs = deleted j t s
other index job j (Reserved pod plan) s differs =
    let few = phase_set j pod (phase.Taken job plan.node) s.pods in
    let none : taken_by j (phase.Taken job plan.node) ≡ 0 = ap (λ b. cond b 1 0) differs in
    omega (arith, few, none)
other index job j (Refused pod plan why) s differs = omega arith
other index job j (Wrote pod claim seen) s differs = omega arith
other index job j (Conflict pod claim had now) s differs = omega arith
other index job j (Unreserved pod) s differs =
    let few = phase_set j pod phase.Idle s.pods in
    omega (arith, few)
other index job j (Bound pod node) s differs =
    let few = phase_set j pod (phase.Bound node) s.pods in
    omega (arith, few)
other index job j (VerdictGiven pod verdict) s differs = omega arith
other index job j (Contended pod attempts) s differs = omega arith
other index job j (Released pod) s differs =
    let few = phase_set j pod phase.Idle s.pods in
    omega (arith, few)
other index job j (Adopted claim status) s differs = omega arith
other index job j (Denied command refused) s differs = omega arith

-- ---- histories

-- each job that has no pod has taken none, and each other one at most one
abbrev Few : List Entry → Type 0
Few h = (j : ℕ) → pods_taken j (state_of h).pods ≤ most (job_state_of h j)

few_by : (b : Bool) (j job index : ℕ) (event : Event) (before : List Entry) (pods : Pods) → eqb job j ≡ b
    → (eqb job j ≡ true → pods_taken j pods ≤ most (job_state_after (job_state_of before j) index event)) → (eqb job j ≡ false → pods_taken j pods ≤ most (job_state_of before j))
    → pods_taken j pods ≤ most (cond b (job_state_after (job_state_of before j) index event) (job_state_of before j))
few_by true j job index event before pods is same differs = same is
few_by false j job index event before pods is same differs = differs is

few_after : (before : List Entry) (e : Entry) → Step before e → Few before → Few (before ++ e ∷ [])
few_after before e step few j =
    let index = length before + 1 in
    let pods = (after index e.job e.event (state_of before)).pods in
    let same : eqb e.job j ≡ true → pods_taken j pods ≤ most (job_state_after (job_state_of before j) index e.event) =
    λ t. subst (λ (i : ℕ). pods_taken i pods ≤ most (job_state_after (job_state_of before i) index e.event)) (eqb-true e.job j t) (own before index e.job e.event step.allowed step.follows (few e.job)) in
    let differs : eqb e.job j ≡ false → pods_taken j pods ≤ most (job_state_of before j) =
    λ t. let less = other index e.job j e.event (state_of before) t in let h = few j in omega (arith, less, h) in
    subst (λ (s : State). pods_taken j s.pods ≤ most (job_state_of (before ++ e ∷ []) j)) (sym (state_of-more before e))
    (subst (λ (st : JobState). pods_taken j pods ≤ most st) (sym (job_state_of-more before e j)) (few_by (eqb e.job j) j e.job index e.event before pods refl same differs))

few_at_first : Few []
few_at_first j = subst (λ (s : State). pods_taken j s.pods ≤ most (job_state_of [] j)) (sym state_of-empty) (omega arith)

few_now : (h : List Entry) → Legal h → Few h
few_now h legal = always Few few_at_first (λ g e l few step. few_after g e step few) h legal

-- ---- denials

there_by : (job : ℕ) (test : Key → Bool) (b : Bool) (e : Key × PodState) (es : Pods) (p : PodState) → cond b (Some e.1) (lookup test es) ≡ Some p → (lookup test es ≡ Some p → taken_by job p.phase ≤ pods_taken job es)
    → taken_by job p.phase ≤ pods_taken job (e ∷ es)
there_by job test true e es p there later =
    let same : taken_by job e.1.phase ≡ taken_by job p.phase = ap (λ (x : PodState). taken_by job x.phase) (some_same e.1 p there) in
    omega (arith, same)
there_by job test false e es p there later =
    let h = later there in
    omega (arith, h)

-- a pod that is there counts
pub counted : (job : ℕ) (test : Key → Bool) (es : Pods) (p : PodState) → lookup test es ≡ Some p → taken_by job p.phase ≤ pods_taken job es
counted job test [] p there = absurd (cc)
counted job test (e ∷ es) p there = there_by job test (test e.0) e es p there (λ g. counted job test es p g)

same_job : (i j : ℕ) → Some (refusal.Busy i) ≡ Some (refusal.Busy j) → i ≡ j
same_job i j e = cc

busy_phase : (ph : Phase) (job : ℕ) → phase_refusal ph ≡ Some (refusal.Busy job) → taken_by job ph ≡ 1
busy_phase phase.Idle job e = absurd (cc)
busy_phase (phase.Taken j node) job e = ap (λ b. cond b 1 0) (eq-eqb j job (same_job j job e))
busy_phase (phase.Bound node) job e = absurd (cc)

busy_pod : (job : ℕ) (es : Pods) (pod : Key) (o : Option PodState) → at_key es pod ≡ o → schedule_refusal o ≡ Some (refusal.Busy job) → 1 ≤ pods_taken job es
busy_pod job es pod None is e = absurd (cc)
busy_pod job es pod (Some p) is e =
    let one = busy_phase p.phase job e in
    let h = counted job (is_at (key_cmp pod)) es p is in
    omega (arith, one, h)

unbound_phase : (ph : Phase) (job : ℕ) → unbound_refusal ph ≡ Some (refusal.Busy job) → taken_by job ph ≡ 1
unbound_phase phase.Idle job e = absurd (cc)
unbound_phase (phase.Taken j node) job e = ap (λ b. cond b 1 0) (eq-eqb j job (same_job j job e))
unbound_phase (phase.Bound node) job e = absurd (cc)

unbound_pod : (job : ℕ) (es : Pods) (pod : Key) (o : Option PodState) → at_key es pod ≡ o → release_refusal o ≡ Some (refusal.Busy job) → 1 ≤ pods_taken job es
unbound_pod job es pod None is e = absurd (cc)
unbound_pod job es pod (Some p) is e =
    let one = unbound_phase p.phase job e in
    let h = counted job (is_at (key_cmp pod)) es p is in
    omega (arith, one, h)

alone : (first : Option Refusal) (r : Refusal) → or_else first None ≡ Some r → first ≡ Some r
alone None r e = e
alone (Some q) r e = e

has_by : (b : Bool) → 1 ≤ cond b 1 0 → b ≡ true
has_by true h = refl
has_by false h = absurd (omega (arith, h))

-- a job that may be denied has no pod
trying : (st : JobState) → may_try st ≡ true → has_pod st ≡ true → ⊥
trying job_state.Fresh e f = absurd (cc)
trying (job_state.Reserved k) e f = absurd (cc)
trying (job_state.Conflicted k) e f = absurd (cc)
trying (job_state.Failed k) e f = absurd (cc)
trying (job_state.Ended index) e f = absurd (cc)

-- a job that has taken a pod has it, and isn't one that may be denied
pub holder_of : (h : List Entry) (job holder : ℕ) → Legal h → may_try (job_state_of h job) ≡ true → 1 ≤ pods_taken holder (state_of h).pods → (has_pod (job_state_of h holder) ≡ true) × (holder ≢ job)
holder_of h job holder legal may one =
    let few = few_now h legal holder in
    let least : 1 ≤ most (job_state_of h holder) = omega (arith, few, one) in
    let has = has_by (has_pod (job_state_of h holder)) least in
    (has, λ e. trying (job_state_of h job) may (subst (λ (i : ℕ). has_pod (job_state_of h i) ≡ true) e has))

-- the job that a denial names has the pod, and is another
pub busy_schedule : (prefix back : List Entry) (job holder : ℕ) (pod : Key) → Legal (prefix ++ record { job = job; event = Denied (Schedule pod) (refusal.Busy holder) } ∷ back)
    → (has_pod (job_state_of prefix holder) ≡ true) × (holder ≢ job)
busy_schedule prefix back job holder pod legal =
    let step = step_at prefix (record { job = job; event = Denied (Schedule pod) (refusal.Busy holder) }) back legal in
    let due = alone (schedule_refusal (at_key (state_of prefix).pods pod)) (refusal.Busy holder) step.follows.due in
    holder_of prefix job holder (prefix_legal prefix _ legal) step.allowed (busy_pod holder (state_of prefix).pods pod (at_key (state_of prefix).pods pod) refl due)

pub busy_release : (prefix back : List Entry) (job holder : ℕ) (pod : Key) → Legal (prefix ++ record { job = job; event = Denied (Release pod) (refusal.Busy holder) } ∷ back)
    → (has_pod (job_state_of prefix holder) ≡ true) × (holder ≢ job)
busy_release prefix back job holder pod legal =
    let step = step_at prefix (record { job = job; event = Denied (Release pod) (refusal.Busy holder) }) back legal in
    let due = alone (release_refusal (at_key (state_of prefix).pods pod)) (refusal.Busy holder) step.follows.due in
    holder_of prefix job holder (prefix_legal prefix _ legal) step.allowed (unbound_pod holder (state_of prefix).pods pod (at_key (state_of prefix).pods pod) refl due)
