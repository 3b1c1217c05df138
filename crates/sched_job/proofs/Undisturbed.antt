-- A job that runs alone is never refused by the check, in conflict or contended.
use Rattle.std.proofs.Common.{ℕ, ◌≡◌, ◌∙◌, ◌+◌, ◌≤◌, ◌<◌, ◌++◌, List, [], ◌∷◌, Bool, true, false, not, cond, eqb, ◌||◌, None, Some, length, refl, sym, ap, subst, arith, length-append, append_assoc, eq-eqb, nat_le}
use Rattle.std.proofs.lemmas.List.{take_all}
use Rattle.std.proofs.lemmas.Bool.{eqb-true, leb-true}
use Rattle.std.proofs.lemmas.Bool.Decides.{nat_tests}
use Rattle.object_fields.specs.declared.key.Key.{Key}
use Rattle.pool_view.specs.Names.{at_key}
use Rattle.cluster.specs.declared.entry.Entry.{Entry}
use Rattle.cluster.specs.declared.entry.Event.{Event}
use Rattle.cluster.specs.declared.entry.Event.TheVariants.{Applied, Deleted, Reserved, Refused, Wrote, Conflict, Unreserved, Bound, VerdictGiven, Contended, Released, Adopted, Denied}
use Rattle.cluster.specs.declared.entry.JobState.{JobState}
use Rattle.cluster.specs.declared.entry.JobState.TheVariants as job_state
use Rattle.cluster.specs.declared.failure.Failure.{Failure}
use Rattle.cluster.specs.declared.plan.Plan.{Plan}
use Rattle.cluster.specs.declared.state.Phase.{Phase}
use Rattle.cluster.specs.declared.state.State.{State}
use Rattle.cluster.specs.Denied.{is_busy, is_user}
use Rattle.cluster.specs.Events.{after, allows, job_state_after}
use Rattle.cluster.specs.History.{state_at, state_of, job_state_of}
use Rattle.cluster.specs.Reserved.{with_reserved}
use Rattle.cluster.specs.JobState.{has_reserved}
use Rattle.cluster.specs.State.{is_idle, version_of}
use Rattle.cluster.specs.Wrote.{with_written}
use Rattle.plan_rules.specs.Plans.{PlanTrue}
use Rattle.plan_rules.specs.Failing.{failing}
use Rattle.histories.specs.Legal.{Legal, MayFollow, Step}
use Rattle.commands.specs.declared.command.Command.{Command}
use Rattle.commands.specs.declared.command.Command.TheVariants.{Apply, Invalid, Delete, Schedule, Release, Adopt}
use Rattle.histories.specs.Alone.{Alone, NeverSetBack, is_setback}
use Rattle.histories.specs.Histories.{Each, last_place}
use Rattle.histories.specs.JobRuns.{Run, JobKept, JobStep, IsTry, attempts_of, command_of, is_schedule}
use Rattle.sched_job.specs.Steps.{AllOf, Extends}
use Rattle.sched_job.proofs.Growing.{Grows, each_weaker, last_more}
use Rattle.sched_job.proofs.Steadying.{Steady, steady_reserved, steady_unused, steady_written}

-- what is used of the lower crates
pub record Laws : Type 0 where
  pub grows : Grows
  pub state : (h : List Entry) (e : Entry) → state_of (h ++ e ∷ []) ≡ after (length h + 1) e.job e.event (state_of h)
  pub fresh : (job : ℕ) → job_state_of [] job ≡ job_state.Fresh
  pub step : (prefix : List Entry) (e : Entry) (back : List Entry) → Legal (prefix ++ e ∷ back) → Step prefix e
  pub prefix : (prefix back : List Entry) → Legal (prefix ++ back) → Legal prefix
  pub idle : (h : List Entry) (pod : Key) → Legal h → is_busy (at_key (state_of h).pods pod) ≡ false → is_user (state_of h) pod ≡ false
  pub holds : (h : List Entry) (pod : Key) (plan : Plan) → Legal h → PlanTrue (state_of h) pod plan → failing (state_of h) pod plan ≡ None

abbrev calm : JobState → Bool
calm job_state.Fresh = true
calm (job_state.Reserved k) = true
calm (job_state.Conflicted k) = false
calm (job_state.Failed k) = false
calm (job_state.Ended index) = true

record Calm (c : Run) (pod : Key) (h : List Entry) : Type 0 where
  early : length h ≤ c.from → job_state_of h c.job ≡ job_state.Fresh
  last : c.from < length h → last_place h c.job ≡ length h
  stands : calm (job_state_of h c.job) ≡ true
  steady : has_reserved (job_state_of h c.job) ≡ true → Steady pod (state_of h).claims

-- all that is said of an entry
record All (c : Run) (before : List Entry) (e : Entry) : Type 0 where
  legal : Legal before
  step : Step before e
  kept : e.job ≡ c.job → JobStep c before e.event
  alone : c.from ≤ length before → e.job ≡ c.job

-- an attempt of a job alone is made where it is
here : (c : Run) (h : List Entry) (pod : Key) (n : ℕ) → Calm c pod h → c.from ≤ length h → IsTry c h n → n ≡ length h
here c h pod n q le t =
    let a = t.from in
    let b = t.last in
    let d = t.within in
    let e : c.from < length h → last_place h c.job ≡ length h = q.last in
    at_end c.from (last_place h c.job) (length h) n e a b d
  where
    at_end : (f l k n : ℕ) → (f < k → l ≡ k) → f ≤ n → l ≤ n → n ≤ k → n ≡ k
    at_end f l k n e a b d = grind arith

state_here : (h : List Entry) (n : ℕ) → n ≡ length h → state_at h n ≡ state_of h
state_here h n is = ap (λ (k : ℕ). state_at h k) is ∙ ap state_of (take_all (length h) h (omega arith))

not_conflicted : (st : JobState) (pod : Key) → calm st ≡ true → allows st (Unreserved pod) ≡ true → ⊥
not_conflicted job_state.Fresh pod is may = cc
not_conflicted (job_state.Reserved k) pod is may = cc
not_conflicted (job_state.Conflicted k) pod is may = cc
not_conflicted (job_state.Failed k) pod is may = cc
not_conflicted (job_state.Ended p) pod is may = cc

not_failed : (st : JobState) (pod : Key) (n : ℕ) → calm st ≡ true → allows st (Contended pod n) ≡ true → ⊥
not_failed job_state.Fresh pod n is may = cc
not_failed (job_state.Reserved k) pod n is may = cc
not_failed (job_state.Conflicted k) pod n is may = cc
not_failed (job_state.Failed k) pod n is may = cc
not_failed (job_state.Ended p) pod n is may = cc

-- what an entry of the job leaves
record After (pod : Key) (s' : State) (st' : JobState) (ev : Event) : Type 0 where
  fine : is_setback ev ≡ false
  stands : calm st' ≡ true
  steady : has_reserved st' ≡ true → Steady pod s'.claims

pod_is : (p pod : Key) (a b : ℕ) → Schedule p a ≡ Schedule pod b → p ≡ pod
pod_is p pod a b e = cc

own_after : Laws → (c : Run) (pod : Key) (attempts : ℕ) (h : List Entry) (st : JobState) (index job : ℕ) (ev : Event) → c.command ≡ Schedule pod attempts → Legal h → Calm c pod h → c.from ≤ length h → job_state_of h c.job ≡ st
    → allows st ev ≡ true → MayFollow h job ev → JobStep c h ev → After pod (after index job ev (state_of h)) (job_state_after st index ev) ev
own_after laws c pod attempts h st index job (Applied object mode) cmd legal q le sd may stands k = record { fine = refl; stands = refl; steady = λ held. absurd cc }
own_after laws c pod attempts h st index job (Deleted target) cmd legal q le sd may stands k = record { fine = refl; stands = refl; steady = λ held. absurd cc }
own_after laws c pod attempts h st index job (Reserved p plan) cmd legal q le sd may stands k =
    let same : p ≡ pod = pod_is p pod (attempts_of c.command) attempts (k.of_command ∙ cmd) in
    let idle = stands.holds_now.idle in
    let busy : is_busy (at_key (state_of h).pods p) ≡ false = ap is_busy idle.there ∙ ap (λ (ph : Phase). not (is_idle ph)) idle.idle in
    let unused : is_user (state_of h) p ≡ false = laws.idle h p legal busy in
    record { fine = refl; stands = refl; steady = λ held. subst (λ (x : Key). Steady x (with_reserved job p plan (state_of h)).claims) same (steady_reserved (state_of h) job p plan (steady_unused (state_of h) p unused)) }
own_after laws c pod attempts h st index job (Refused p plan why) cmd legal q le sd may stands k =
    let at : state_at h plan.at ≡ state_of h = state_here h plan.at (here c h pod plan.at q le k.timed.try) in
    let none : failing (state_of h) p plan ≡ None = laws.holds h p plan legal (subst (λ (t : State). PlanTrue t p plan) at stands.true_then) in
    absurd (some_none why (sym stands.fails ∙ none))
  where
    some_none : (x : Failure) → Some x ≡ None → ⊥
    some_none x e = cc
own_after laws c pod attempts h st index job (Wrote p claim had) cmd legal q le sd may stands k =
    let same : p ≡ pod = pod_is p pod (attempts_of c.command) attempts (k.of_command ∙ cmd) in
    let before : Steady pod (state_of h).claims = q.steady (ap has_reserved sd ∙ may) in
    record { fine = refl; stands = refl; steady = λ held. subst (λ (x : Key). Steady pod (with_written index x claim (state_of h)).claims) (sym same) (steady_written (state_of h) index pod claim before) }
own_after laws c pod attempts h st index job (Conflict p claim had now) cmd legal q le sd may stands k =
    let same : p ≡ pod = pod_is p pod (attempts_of c.command) attempts (k.of_command ∙ cmd) in
    let before : Steady p (state_of h).claims = subst (λ (x : Key). Steady x (state_of h).claims) (sym same) (q.steady (ap has_reserved sd ∙ may)) in
    let fits : version_of (state_of h) claim ≡ had = before.each claim had stands.use_next.assumed in
    absurd (stands.differ (sym fits ∙ sym stands.version))
own_after laws c pod attempts h st index job (Unreserved p) cmd legal q le sd may stands k = absurd (not_conflicted st p (ap calm (sym sd) ∙ q.stands) may)
own_after laws c pod attempts h st index job (Bound p node) cmd legal q le sd may stands k = record { fine = refl; stands = refl; steady = λ held. absurd cc }
own_after laws c pod attempts h st index job (VerdictGiven p v) cmd legal q le sd may stands k = record { fine = refl; stands = refl; steady = λ held. absurd cc }
own_after laws c pod attempts h st index job (Contended p n) cmd legal q le sd may stands k = absurd (not_failed st p n (ap calm (sym sd) ∙ q.stands) may)
own_after laws c pod attempts h st index job (Released p) cmd legal q le sd may stands k = record { fine = refl; stands = refl; steady = λ held. absurd cc }
own_after laws c pod attempts h st index job (Adopted claim status) cmd legal q le sd may stands k = record { fine = refl; stands = refl; steady = λ held. absurd cc }
own_after laws c pod attempts h st index job (Denied command refusal) cmd legal q le sd may stands k = record { fine = refl; stands = refl; steady = λ held. absurd cc }

-- an entry of the job is no setback, and leaves all calm
own_step : Laws → (c : Run) (pod : Key) (attempts : ℕ) (h : List Entry) (e : Entry) → c.command ≡ Schedule pod attempts → Calm c pod h → All c h e → e.job ≡ c.job → (is_setback e.event ≡ false) × Calm c pod (h ++ e ∷ [])
own_step laws c pod attempts h e cmd q a mine =
    let k = a.kept mine in
    let may : allows (job_state_of h c.job) e.event ≡ true = subst (λ (n : ℕ). allows (job_state_of h n) e.event ≡ true) mine a.step.allowed in
    let r = own_after laws c pod attempts h (job_state_of h c.job) (length h + 1) e.job e.event cmd a.legal q k.after refl may a.step.follows k in
    let st : job_state_of (h ++ e ∷ []) c.job ≡ job_state_after (job_state_of h c.job) (length h + 1) e.event = laws.grows h e c.job ∙ ap (λ (b : Bool). cond b (job_state_after (job_state_of h c.job) (length h + 1) e.event) (job_state_of h c.job)) (eq-eqb e.job c.job mine) in
    let ls : last_place (h ++ e ∷ []) c.job ≡ length h + 1 = last_more h e c.job ∙ ap (λ (b : Bool). cond b (length h + 1) (last_place h c.job)) (eq-eqb e.job c.job mine) in
    let len : length (h ++ e ∷ []) ≡ length h + 1 = omega (arith, length-append h (e ∷ [])) in
    let le = k.after in (
      r.fine,
      record {
        early = λ small. absurd (omega arith);
        last = λ more. ls ∙ sym len;
        stands = ap calm st ∙ r.stands;
        steady = λ held. subst (λ (t : State). Steady pod t.claims) (sym (laws.state h e)) (r.steady (ap has_reserved (sym st) ∙ held));
      },
    )

eqb_cases : (a b : ℕ) → (a ≡ b → ⊥) → eqb a b ≡ false
eqb_cases a b differ = pick (eqb a b) refl
  where
    pick : (x : Bool) → eqb a b ≡ x → eqb a b ≡ false
    pick true t = absurd (differ (eqb-true a b t))
    pick false t = t

-- before the job begins, others leave it Fresh
other_step : Laws → (c : Run) (pod : Key) (h : List Entry) (e : Entry) → Calm c pod h → length h < c.from → (e.job ≡ c.job → ⊥) → Calm c pod (h ++ e ∷ [])
other_step laws c pod h e q small differ =
    let st : job_state_of (h ++ e ∷ []) c.job ≡ job_state_of h c.job = laws.grows h e c.job ∙ ap (λ (b : Bool). cond b (job_state_after (job_state_of h c.job) (length h + 1) e.event) (job_state_of h c.job)) (eqb_cases e.job c.job differ) in
    let fresh : job_state_of (h ++ e ∷ []) c.job ≡ job_state.Fresh = st ∙ q.early (omega arith) in
    let len : length (h ++ e ∷ []) ≡ length h + 1 = omega (arith, length-append h (e ∷ [])) in
    record {
      early = λ le. fresh;
      last = λ more. absurd (omega arith);
      stands = ap calm fresh;
      steady = λ held. absurd (let x = ap has_reserved fresh in cc);
    }

by_place : Laws → (c : Run) (pod : Key) (attempts : ℕ) (h : List Entry) (e : Entry) → c.command ≡ Schedule pod attempts → Calm c pod h → All c h e → (e.job ≡ c.job → is_setback e.event ≡ false) × Calm c pod (h ++ e ∷ [])
by_place laws c pod attempts h e cmd q a = pick (nat_le c.from (length h)) refl
  where
    pick : (b : Bool) → nat_le c.from (length h) ≡ b → (e.job ≡ c.job → is_setback e.event ≡ false) × Calm c pod (h ++ e ∷ [])
    pick true t =
        let le : c.from ≤ length h = leb-true c.from (length h) t in
        let r = own_step laws c pod attempts h e cmd q a (a.alone le) in (λ mine. r.0, r.1)
    pick false t =
        let small : length h < c.from = grind (arith, nat_tests) in
        let differ : e.job ≡ c.job → ⊥ = λ mine. let le = (a.kept mine).after in absurd (omega arith) in
        (λ mine. absurd (differ mine), other_step laws c pod h e q small differ)

alone_from : Laws → (c : Run) (pod : Key) (attempts : ℕ) (before es : List Entry) → c.command ≡ Schedule pod attempts → Calm c pod before → Legal (before ++ es) → Each (λ b e. e.job ≡ c.job → JobStep c b e.event) before es
    → Each (λ b e. c.from ≤ length b → e.job ≡ c.job) before es → Each (λ b e. e.job ≡ c.job → is_setback e.event ≡ false) before es
unfolding Each
alone_from laws c pod attempts before [] cmd q legal kept alone = tt
alone_from laws c pod attempts before (e ∷ es) cmd q legal kept alone =
    let r = by_place laws c pod attempts before e cmd q (record { legal = laws.prefix before (e ∷ es) legal; step = laws.step before e es legal; kept = kept.0; alone = alone.0 }) in
    (r.0, alone_from laws c pod attempts (before ++ e ∷ []) es cmd r.1 (subst Legal (sym (append_assoc before (e ∷ []) es)) legal) kept.1 alone.1)

calm_start : Laws → (c : Run) (pod : Key) → Calm c pod []
calm_start laws c pod = record {
  early = λ le. laws.fresh c.job;
  last = λ more. absurd (omega arith);
  stands = ap calm (laws.fresh c.job);
  steady = λ held. absurd (let x = ap has_reserved (laws.fresh c.job) in cc);
}

undisturbed : Laws → (c : Run) (h : List Entry) (pod : Key) (attempts : ℕ) → c.command ≡ Schedule pod attempts → Legal h → JobKept c h → Alone c.job c.from h → NeverSetBack c.job h
undisturbed laws c h pod attempts cmd legal kept alone = alone_from laws c pod attempts [] h cmd (calm_start laws c pod) legal kept alone

-- ---- every command

-- only a job to schedule a pod can be set back
setback_schedules : (attempts : ℕ) (ev : Event) → is_schedule (command_of attempts ev) ≡ false → is_setback ev ≡ false
setback_schedules attempts (Applied object mode) e = refl
setback_schedules attempts (Deleted target) e = refl
setback_schedules attempts (Reserved pod plan) e = refl
setback_schedules attempts (Refused pod plan why) e = absurd cc
setback_schedules attempts (Wrote pod claim seen) e = refl
setback_schedules attempts (Conflict pod claim had now) e = absurd cc
setback_schedules attempts (Unreserved pod) e = absurd cc
setback_schedules attempts (Bound pod node) e = refl
setback_schedules attempts (VerdictGiven pod verdict) e = refl
setback_schedules attempts (Contended pod failed) e = absurd cc
setback_schedules attempts (Released pod) e = refl
setback_schedules attempts (Adopted claim status) e = refl
setback_schedules attempts (Denied command refusal) e = refl

never_by : (c : Run) (h : List Entry) → is_schedule c.command ≡ false → JobKept c h → NeverSetBack c.job h
never_by c h other kept =
    each_weaker (λ b e. e.job ≡ c.job → JobStep c b e.event) (λ b e. e.job ≡ c.job → is_setback e.event ≡ false)
    (λ b e step mine. setback_schedules (attempts_of c.command) e.event (ap is_schedule (step mine).of_command ∙ other)) [] h kept

by_command : Laws → (c : Run) (h : List Entry) (cmd : Command) → c.command ≡ cmd → Legal h → JobKept c h → Alone c.job c.from h → NeverSetBack c.job h
by_command laws c h (Apply object mode) is legal kept alone = never_by c h (ap is_schedule is) kept
by_command laws c h (Invalid error) is legal kept alone = never_by c h (ap is_schedule is) kept
by_command laws c h (Delete target) is legal kept alone = never_by c h (ap is_schedule is) kept
by_command laws c h (Schedule pod attempts) is legal kept alone = undisturbed laws c h pod attempts is legal kept alone
by_command laws c h (Release pod) is legal kept alone = never_by c h (ap is_schedule is) kept
by_command laws c h (Adopt claim status) is legal kept alone = never_by c h (ap is_schedule is) kept

pub never_set_back : Laws → (c : Run) (h : List Entry) → Legal h → JobKept c h → Alone c.job c.from h → NeverSetBack c.job h
never_set_back laws c h legal kept alone = by_command laws c h c.command refl legal kept alone

-- ---- entries of one job after others

or_is : (x : Bool) → (x || false) ≡ true → x ≡ true
or_is true t = refl
or_is false t = absurd cc

alone_added : (job from : ℕ) (before added : List Entry) → AllOf (job ∷ []) added → Each (λ b e. from ≤ length b → e.job ≡ job) before added
unfolding Each
alone_added job from before [] of = tt
alone_added job from before (e ∷ es) of = ((λ le. eqb-true e.job job (or_is (eqb e.job job) of.0)), alone_added job from (before ++ e ∷ []) es of.1)

alone_prefix : (job from : ℕ) (before es added : List Entry) → length before + length es ≡ from → AllOf (job ∷ []) added → Each (λ b e. from ≤ length b → e.job ≡ job) before (es ++ added)
unfolding Each
alone_prefix job from before [] added len of = alone_added job from before added of
alone_prefix job from before (e ∷ es) added len of = (
  (λ le. absurd (omega arith)),
  alone_prefix job from (before ++ e ∷ []) es added (omega (arith, length-append before (e ∷ []))) of,
)

-- a history that one job alone extends
pub alone_extends : (job : ℕ) (h h' : List Entry) → Extends (job ∷ []) h h' → Alone job (length h) h'
alone_extends job h h' ext = subst (λ (xs : List Entry). Each (λ b e. length h ≤ length b → e.job ≡ job) [] xs) (sym ext.now) (alone_prefix job (length h) [] h ext.added (omega arith) ext.of_jobs)
