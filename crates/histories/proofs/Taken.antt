-- A pod that a job has reserved, and neither bound nor given up, is taken by it, whatever other jobs do.
use Rattle.std.proofs.Common.{ℕ, ◌+◌, ◌≡◌, ◌∙◌, ◌⊎◌, inl, inr, List, [], ◌∷◌, ◌++◌, Bool, true, false, cond, eqb, not, Option, None, Some, length, refl, sym, ap, subst, arith, eq-eqb}
use Rattle.std.specs.List.{Contains}
use Rattle.std.specs.Map.{set_value}
use Rattle.std.specs.Option.{option_map_or}
use Rattle.std.specs.BTreeMap.{is_at}
use Rattle.std.proofs.lemmas.Bool.{eqb-true}
use Rattle.std.proofs.lemmas.List.Elements.{Contains-append_left, Contains-append_right}
use Rattle.object_fields.specs.declared.key.Key.{Key}
use Rattle.api_cluster.specs.declared.types.Pod.{Pod}
use Rattle.pool_view.specs.Names.{at_key, key_cmp}
use Rattle.cluster.specs.declared.entry.Command.TheVariants.{Delete}
use Rattle.cluster.specs.declared.entry.Entry.{Entry}
use Rattle.cluster.specs.declared.entry.Event.{Event}
use Rattle.cluster.specs.declared.entry.Event.TheVariants.{Applied, Deleted, Reserved, Refused, Wrote, Conflict, Unreserved, Bound, VerdictGiven, Contended, Released, Adopted, Denied}
use Rattle.cluster.specs.declared.entry.Refusal.TheVariants as refusal
use Rattle.cluster.specs.declared.entry.JobState.{JobState}
use Rattle.cluster.specs.declared.object.Object.{Object}
use Rattle.cluster.specs.declared.object.Object.TheVariants as object
use Rattle.cluster.specs.declared.object.Target.{Target}
use Rattle.cluster.specs.declared.object.Target.TheVariants as target
use Rattle.cluster.specs.declared.state.Phase.{Phase}
use Rattle.cluster.specs.declared.state.Phase.TheVariants as phase
use Rattle.cluster.specs.declared.state.PodState.{PodState}
use Rattle.cluster.specs.declared.state.State.{State}
use Rattle.cluster.specs.Applied.{new_pod, updated_pod, with_object}
use Rattle.cluster.specs.Deleted.{without_object}
use Rattle.cluster.specs.Denied.{first_refusal, is_busy, release_refusal, unbound_refusal}
use Rattle.cluster.specs.Events.{after, job_state_after}
use Rattle.cluster.specs.History.{job_state_of, state_of}
use Rattle.cluster.specs.State.{is_idle}
use Rattle.cluster.specs.Tables.{changed_at, put_at, with_phase}
use Rattle.histories.specs.Legal.{Step, Legal, MayFollow}
use Rattle.histories.specs.Owners.{has_pod, pod_in}
use Rattle.histories.specs.Wrote.{IsTaken}
use Rattle.histories.proofs.Claiming.{Pods}
use Rattle.histories.proofs.GoingOn.{changed_other, changed_there, same_or_not}
use Rattle.histories.proofs.Always.{always}
use Rattle.histories.proofs.Histories.{job_state_of-empty, job_state_of-more, state_of-more}
use Rattle.histories.proofs.Keyed.{insert_other, remove_other, some_same}
use Rattle.histories.proofs.Using.{idle_of}

-- the pod is there, and taken by the job for a node
abbrev pub TakenBy : Pods → Key → ℕ → Type 0
TakenBy pods pod job = (p : PodState) × (node : List ℕ) × (at_key pods pod ≡ Some p) × (p.phase ≡ phase.Taken job node)

-- ---- what another job does

phase_by : (pods : Pods) (changed pod : Key) (job : ℕ) (ph : Phase) → (pod ≡ changed) ⊎ (pod ≡ changed → ⊥) → ((p : PodState) (node : List ℕ) → at_key pods changed ≡ Some p → p.phase ≡ phase.Taken job node → ⊥)
    → TakenBy pods pod job → TakenBy (with_phase changed ph pods) pod job
phase_by pods changed pod job ph (inl e) never t = absurd (never t.0 t.1 (ap (at_key pods) (sym e) ∙ t.2) t.3)
phase_by pods changed pod job ph (inr differ) never t = (t.0, t.1, changed_other changed pod (λ p. record p { phase = ph }) pods differ ∙ t.2, t.3)

-- a pod whose phase changes, and which the job hasn't taken, is another
phase_stays : (pods : Pods) (changed pod : Key) (job : ℕ) (ph : Phase) → ((p : PodState) (node : List ℕ) → at_key pods changed ≡ Some p → p.phase ≡ phase.Taken job node → ⊥)
    → TakenBy pods pod job → TakenBy (with_phase changed ph pods) pod job
phase_stays pods changed pod job ph never t = phase_by pods changed pod job ph (same_or_not (key_cmp pod changed) pod changed refl) never t

updated_by : (index : ℕ) (x : Pod) (pods : Pods) (pod : Key) (job : ℕ) → (pod ≡ x.key) ⊎ (pod ≡ x.key → ⊥) → TakenBy pods pod job → TakenBy (changed_at x.key (updated_pod index x) pods) pod job
updated_by index x pods pod job (inl e) t =
    let there : at_key pods x.key ≡ Some t.0 = ap (at_key pods) (sym e) ∙ t.2 in
    (updated_pod index x t.0, t.1, ap (at_key (changed_at x.key (updated_pod index x) pods)) e ∙ changed_there x.key (updated_pod index x) pods t.0 there, t.3)
updated_by index x pods pod job (inr differ) t = (t.0, t.1, changed_other x.key pod (updated_pod index x) pods differ ∙ t.2, t.3)

put_stays : (index : ℕ) (x : Pod) (pods : Pods) (o : Option PodState) (pod : Key) (job : ℕ) → at_key pods x.key ≡ o → TakenBy pods pod job → TakenBy (put_at x.key (new_pod index x) (updated_pod index x) pods o) pod job
put_stays index x pods None pod job is t =
    let differ : pod ≡ x.key → ⊥ = λ e. let no : None ≡ Some t.0 = sym is ∙ ap (at_key pods) (sym e) ∙ t.2 in cc in
    (t.0, t.1, insert_other x.key pod pods (new_pod index x) differ ∙ t.2, t.3)
put_stays index x pods (Some p) pod job is t =
    subst (λ (o : Option PodState). TakenBy (option_map_or (λ v. set_value (is_at (key_cmp x.key)) pods (updated_pod index x v)) o pods) pod job) is
    (updated_by index x pods pod job (same_or_not (key_cmp pod x.key) pod x.key refl) t)

pub applied_stays : (index : ℕ) (x : Object) (s : State) (pod : Key) (job : ℕ) → TakenBy s.pods pod job → TakenBy (with_object index x s).pods pod job
applied_stays index (object.Node x) s pod job t = t
applied_stays index (object.Slice x) s pod job t = t
applied_stays index (object.Class x) s pod job t = t
applied_stays index (object.Claim x) s pod job t = t
applied_stays index (object.Pod x) s pod job t = put_stays index x s.pods (at_key s.pods x.key) pod job refl t

pub deleted_stays : (x : Target) (s : State) (pod : Key) (job : ℕ) → first_refusal s (Delete x) ≡ None → TakenBy s.pods pod job → TakenBy (without_object x s).pods pod job
deleted_stays (target.Node name) s pod job free t = t
deleted_stays (target.Slice name) s pod job free t = t
deleted_stays (target.Class name) s pod job free t = t
deleted_stays (target.Claim key) s pod job free t = t
deleted_stays (target.Pod key) s pod job free t =
    let busy : is_busy (Some t.0) ≡ true = ap (λ ph. not (is_idle ph)) t.3 in
    let differ : pod ≡ key → ⊥ = λ e. let no : true ≡ false = sym busy ∙ ap is_busy (sym t.2) ∙ ap (λ k. is_busy (at_key s.pods k)) e ∙ idle_of s key free in cc in
    (t.0, t.1, remove_other key pod s.pods differ ∙ t.2, t.3)

two_phases : (p q : PodState) (o : Option PodState) → o ≡ Some p → o ≡ Some q → p.phase ≡ q.phase
two_phases p q o e f = ap (λ (x : PodState). x.phase) (some_same p q (sym e ∙ f))

idle_never : (s : State) (pod : Key) (state : PodState) (job : ℕ) → at_key s.pods pod ≡ Some state → state.phase ≡ phase.Idle → (p : PodState) (node : List ℕ) → at_key s.pods pod ≡ Some p → p.phase ≡ phase.Taken job node → ⊥
idle_never s pod state job there idle p node at taken =
    let no : phase.Taken job node ≡ phase.Idle = sym taken ∙ two_phases p state (at_key s.pods pod) at there ∙ idle in
    absurd (cc)

same_taker : (i j : ℕ) (m n : List ℕ) → phase.Taken i m ≡ phase.Taken j n → i ≡ j
same_taker i j m n e = cc

other_never : (s : State) (pod : Key) (state : PodState) (mine : List ℕ) (j job : ℕ) → eqb j job ≡ false → at_key s.pods pod ≡ Some state → state.phase ≡ phase.Taken j mine → (p : PodState) (node : List ℕ) → at_key s.pods pod ≡ Some p
    → p.phase ≡ phase.Taken job node → ⊥
other_never s pod state mine j job differs there his p node at taken =
    let same : j ≡ job = same_taker j job mine node (sym his ∙ two_phases state p (at_key s.pods pod) there at ∙ taken) in
    let no : true ≡ false = sym (eq-eqb j job same) ∙ differs in
    absurd (cc)

bound_by : (ph : Phase) (job : ℕ) (node : List ℕ) → unbound_refusal ph ≡ None → ph ≡ phase.Taken job node → ⊥
bound_by ph job node free taken = absurd (let no : Some (refusal.Busy job) ≡ None = sym (ap unbound_refusal taken) ∙ free in cc)

bound_never : (s : State) (pod : Key) (job : ℕ) → release_refusal (at_key s.pods pod) ≡ None → (p : PodState) (node : List ℕ) → at_key s.pods pod ≡ Some p → p.phase ≡ phase.Taken job node → ⊥
bound_never s pod job free p node at taken = bound_by p.phase job node (sym (ap release_refusal at) ∙ free) taken

-- it leaves a pod that this job has taken
stays : (before : List Entry) (index j : ℕ) (event : Event) → MayFollow before j event → (pod : Key) (job : ℕ) → eqb j job ≡ false → TakenBy (state_of before).pods pod job
    → TakenBy (after index j event (state_of before)).pods pod job
stays before index j (Applied x m) may pod job differs t = applied_stays index x (state_of before) pod job t
stays before index j (Deleted x) may pod job differs t = deleted_stays x (state_of before) pod job may.unrefused t
stays before index j (Reserved p plan) may pod job differs t =
    phase_stays (state_of before).pods p pod job (phase.Taken j plan.node) (idle_never (state_of before) p may.holds_now.state job may.holds_now.idle.there may.holds_now.idle.idle) t
stays before index j (Refused p plan why) may pod job differs t = t
stays before index j (Wrote p claim seen) may pod job differs t = t
stays before index j (Conflict p claim had now) may pod job differs t = t
stays before index j (Unreserved p) may pod job differs t =
    phase_stays (state_of before).pods p pod job phase.Idle (other_never (state_of before) p may.state may.node j job differs may.taken.there may.taken.taken) t
stays before index j (Bound p node) may pod job differs t =
    phase_stays (state_of before).pods p pod job (phase.Bound node) (other_never (state_of before) p may.state node j job differs may.taken.there may.taken.taken) t
stays before index j (VerdictGiven p verdict) may pod job differs t = t
stays before index j (Contended p attempts) may pod job differs t = t
stays before index j (Released p) may pod job differs t =
    phase_stays (state_of before).pods p pod job phase.Idle (bound_never (state_of before) p job may.unrefused) t
stays before index j (Adopted claim status) may pod job differs t = t
stays before index j (Denied command refused) may pod job differs t = t

-- ---- what the job itself does

-- its entry, after which it has a pod, says that the pod is taken
own : (before : List Entry) (index j : ℕ) (event : Event) (st : JobState) → MayFollow before j event → (pod : Key) → ((other : Key) → pod_in event ≡ Some other → other ≡ pod) → has_pod (job_state_after st index event) ≡ true
    → TakenBy (after index j event (state_of before)).pods pod j
own before index j (Applied x m) st may pod about has = absurd (cc)
own before index j (Deleted x) st may pod about has = absurd (cc)
own before index j (Reserved p plan) st may pod about has =
    let pods : Pods = with_phase p (phase.Taken j plan.node) (state_of before).pods in
    subst (λ (k : Key). TakenBy pods k j) (about p refl)
    (record may.holds_now.state { phase = phase.Taken j plan.node }, plan.node, changed_there p (λ q. record q { phase = phase.Taken j plan.node }) (state_of before).pods may.holds_now.state may.holds_now.idle.there, refl)
own before index j (Refused p plan why) st may pod about has = absurd (cc)
own before index j (Wrote p claim seen) st may pod about has =
    subst (λ (k : Key). TakenBy (state_of before).pods k j) (about p refl) (may.state, may.node, may.taken.there, may.taken.taken)
own before index j (Conflict p claim had now) st may pod about has =
    subst (λ (k : Key). TakenBy (state_of before).pods k j) (about p refl) (may.use_next.state, may.use_next.node, may.use_next.taken.there, may.use_next.taken.taken)
own before index j (Unreserved p) st may pod about has = absurd (cc)
own before index j (Bound p node) st may pod about has = absurd (cc)
own before index j (VerdictGiven p verdict) st may pod about has = absurd (cc)
own before index j (Contended p attempts) st may pod about has = absurd (cc)
own before index j (Released p) st may pod about has = absurd (cc)
own before index j (Adopted claim status) st may pod about has = absurd (cc)
own before index j (Denied command refused) st may pod about has = absurd (cc)

-- ---- histories

-- all entries of the job are of the pod
abbrev AllOf : ℕ → Key → List Entry → Type 0
AllOf job pod h = (e : Entry) (other : Key) → Contains h e → e.job ≡ job → pod_in e.event ≡ Some other → other ≡ pod

abbrev Keeps : ℕ → Key → List Entry → Type 0
Keeps job pod h = AllOf job pod h → has_pod (job_state_of h job) ≡ true → TakenBy (state_of h).pods pod job

keeps_by : (b : Bool) (job : ℕ) (pod : Key) (h : List Entry) (e : Entry) → eqb e.job job ≡ b → Keeps job pod h → Step h e → AllOf job pod (h ++ e ∷ [])
    → has_pod (cond b (job_state_after (job_state_of h job) (length h + 1) e.event) (job_state_of h job)) ≡ true → TakenBy (after (length h + 1) e.job e.event (state_of h)).pods pod job
keeps_by true job pod h e is before step about has =
    let mine : e.job ≡ job = eqb-true e.job job is in
    let last : Contains (h ++ e ∷ []) e = Contains-append_right h (e ∷ []) e (0, omega arith, refl) in
    subst (λ (n : ℕ). TakenBy (after (length h + 1) e.job e.event (state_of h)).pods pod n) mine
    (own h (length h + 1) e.job e.event (job_state_of h job) step.follows pod (λ other of. about e other last mine of) has)
keeps_by false job pod h e is before step about has =
    stays h (length h + 1) e.job e.event step.follows pod job is (before (λ d other among mine of. about d other (Contains-append_left h (e ∷ []) d among) mine of) has)

keeps_more : (job : ℕ) (pod : Key) (h : List Entry) (e : Entry) → Keeps job pod h → Step h e → Keeps job pod (h ++ e ∷ [])
keeps_more job pod h e before step = λ about has.
    subst (λ (s : State). TakenBy s.pods pod job) (sym (state_of-more h e))
    (keeps_by (eqb e.job job) job pod h e refl before step about (ap has_pod (sym (job_state_of-more h e job)) ∙ has))

keeps_first : (job : ℕ) (pod : Key) → Keeps job pod []
keeps_first job pod = λ about has. absurd (let no : false ≡ true = sym (ap has_pod (job_state_of-empty job)) ∙ has in cc)

pub stay_taken : (h : List Entry) (job : ℕ) (pod : Key) → Legal h → AllOf job pod h → has_pod (job_state_of h job) ≡ true → (state : PodState) × ((node : List ℕ) × IsTaken (state_of h) pod job node state)
stay_taken h job pod legal about has =
    let t = always (Keeps job pod) (keeps_first job pod) (λ g e l before step. keeps_more job pod g e before step) h legal about has in
    (t.0, (t.1, record { there = t.2; taken = t.3 }))
