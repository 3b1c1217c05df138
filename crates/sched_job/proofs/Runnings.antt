-- A job's run goes on, by its own turns and past those of others.
use Rattle.std.proofs.Common.{ℕ, ◌≡◌, ◌∙◌, ◌+◌, ◌≤◌, ◌<◌, ◌++◌, List, [], ◌∷◌, Bool, true, false, cond, eqb, Option, None, Some, length, refl, sym, ap, subst, arith, length-append, eq-eqb, nat_le}
use Rattle.std.proofs.lemmas.List.{take_all}
use Rattle.std.proofs.lemmas.Bool.{leb-true}
use Rattle.std.proofs.lemmas.Bool.Decides.{nat_tests}
use Rattle.object_fields.specs.declared.key.Key.{Key}
use Rattle.api_claim.specs.Fields.{StatusFields}
use Rattle.pool_view.specs.Names.{at_key}
use Rattle.cluster.specs.declared.entry.Command.TheVariants as asked
use Rattle.cluster.specs.declared.entry.Entry.{Entry}
use Rattle.cluster.specs.declared.entry.Event.{Event}
use Rattle.cluster.specs.declared.entry.Event.TheVariants.{Applied, Deleted, Reserved, Refused, Wrote, Conflict, Unreserved, Bound, VerdictGiven, Contended, Released, Adopted, Denied}
use Rattle.cluster.specs.declared.entry.Mode.{Mode}
use Rattle.cluster.specs.declared.entry.Refusal.{Refusal}
use Rattle.cluster.specs.declared.entry.Refusal.TheVariants as refusal
use Rattle.cluster.specs.declared.entry.JobState.{JobState}
use Rattle.cluster.specs.declared.entry.JobState.TheVariants as job_state
use Rattle.cluster.specs.declared.failure.Failure.{Failure}
use Rattle.cluster.specs.declared.object.Object.{Object}
use Rattle.cluster.specs.declared.object.Target.{Target}
use Rattle.cluster.specs.declared.plan.Plan.{Plan}
use Rattle.cluster.specs.declared.plan.Verdict.{Verdict}
use Rattle.cluster.specs.declared.state.State.{State}
use Rattle.cluster.specs.Denied.{first_refusal}
use Rattle.cluster.specs.Events.{allows, job_state_after}
use Rattle.cluster.specs.History.{state_of, job_state_of}
use Rattle.cluster.specs.JobState.{failures, is_fresh, may_try}
use Rattle.cluster.specs.State.{use_in, version_of}
use Rattle.engine_ports.specs.declared.decision.Decision.TheVariants.{Reserve, Judge}
use Rattle.plan_rules.specs.Plans.{PlanBy, PlanTrue, VerdictBy, VerdictTrue}
use Rattle.plan_rules.specs.Failing.{failing}
use Rattle.histories.specs.Applied.{application_by}
use Rattle.histories.specs.Adopted.{adoption_by}
use Rattle.histories.specs.Conflict.{assumed_by}
use Rattle.histories.specs.Deleted.{deletion_by}
use Rattle.histories.specs.Denied.{refusal_of}
use Rattle.ledger_core.specs.Ledger.{History}
use Rattle.histories.specs.Legal.{Legal, Step}
use Rattle.histories.specs.Released.{release_by}
use Rattle.histories.specs.Reserved.{reservation, reservation_by}
use Rattle.sched_job.specs.declared.due.Due.{Due}
use Rattle.sched_job.specs.declared.due.Due.TheVariants as due
use Rattle.commands.specs.declared.command.Command.{Command}
use Rattle.commands.specs.declared.command.Command.TheVariants.{Apply, Invalid, Delete, Schedule, Release, Adopt}
use Rattle.sched_job.specs.declared.work.Stage.{Stage}
use Rattle.sched_job.specs.declared.work.Stage.TheVariants.{Ready, Seen, Chosen}
use Rattle.sched_job.specs.declared.work.Work.{Work}
use Rattle.sched_job.specs.Moves.{denial_by, due_of, finish_by, looked, move_by, move_of, moved, once, schedule_move, stage_by, taken_by, tries, try_move, Fits, FitsCommand, FitsStage}
use Rattle.sched_job.specs.Runs.{IsStaged, IsTrying, ChosenPlan, ChosenVerdict, Counted, IsUnderWay, Running}
use Rattle.histories.specs.JobRuns.{Run, JobBegun, JobKept, JobRun, JobStep, IsTry, Timed, TriedPlan, attempts_of, command_of, is_ended, is_schedule}
use Rattle.sched_job.proofs.Growing.{Grows, each_more, last_other, last_within, job_state_other, job_state_own, state_stays}

-- ---- an entry of another job

try_other : Grows → (c : Run) (h : List Entry) (e : Entry) (at : ℕ) → eqb e.job c.job ≡ false → IsTry c h at → IsTry c (h ++ e ∷ []) at
try_other g c h e at other t = record {
  from = t.from;
  last = subst (λ n. n ≤ at) (sym (last_other h e c.job other)) t.last;
  within = (let w = t.within in omega (arith, length-append h (e ∷ [])));
  may = subst (λ (st : JobState). may_try st ≡ true) (sym (job_state_other g h e c.job other)) t.may;
  left = subst (λ (st : JobState). failures st < attempts_of c.command) (sym (job_state_other g h e c.job other)) t.left;
}

plan_other : Grows → (c : Run) (h : List Entry) (e : Entry) (pod : Key) (plan : Plan) → eqb e.job c.job ≡ false → ChosenPlan c h pod plan → ChosenPlan c (h ++ e ∷ []) pod plan
plan_other g c h e pod plan other t = record {
  tried = record {
    try = try_other g c h e plan.at other t.tried.try;
    by = subst (λ (s : State). PlanBy s pod c.budget plan) (sym (state_stays h (e ∷ []) plan.at t.tried.try.within)) t.tried.by;
  };
  holds = subst (λ (s : State). PlanTrue s pod plan) (sym (state_stays h (e ∷ []) plan.at t.tried.try.within)) t.holds;
}

verdict_other : Grows → (c : Run) (h : List Entry) (e : Entry) (pod : Key) (verdict : Verdict) → eqb e.job c.job ≡ false → ChosenVerdict c h pod verdict → ChosenVerdict c (h ++ e ∷ []) pod verdict
verdict_other g c h e pod verdict other t = record {
  tried = record {
    try = try_other g c h e verdict.at other t.tried.try;
    by = subst (λ (s : State). VerdictBy s pod c.budget verdict) (sym (state_stays h (e ∷ []) verdict.at t.tried.try.within)) t.tried.by;
  };
  holds = subst (λ (s : State). VerdictTrue s pod verdict) (sym (state_stays h (e ∷ []) verdict.at t.tried.try.within)) t.holds;
}

trying_other : Grows → (c : Run) (h : List Entry) (e : Entry) (pod : Key) (kept : Stage) → eqb e.job c.job ≡ false → IsTrying c h pod kept → IsTrying c (h ++ e ∷ []) pod kept
trying_other g c h e pod Ready other s = tt
trying_other g c h e pod (Seen seen) other s = record { try = try_other g c h e seen.at other s.try; state = s.state ∙ sym (state_stays h (e ∷ []) seen.at s.try.within) }
trying_other g c h e pod (Chosen (Reserve plan)) other s = plan_other g c h e pod plan other s
trying_other g c h e pod (Chosen (Judge verdict)) other s = verdict_other g c h e pod verdict other s

staged_other : Grows → (c : Run) (h : List Entry) (e : Entry) (cmd : Command) (kept : Stage) → eqb e.job c.job ≡ false → IsStaged c h cmd kept → IsStaged c (h ++ e ∷ []) cmd kept
staged_other g c h e (Apply object mode) kept other s = tt
staged_other g c h e (Invalid error) kept other s = tt
staged_other g c h e (Delete target) kept other s = tt
staged_other g c h e (Schedule pod attempts) kept other s = trying_other g c h e pod kept other s
staged_other g c h e (Release pod) kept other s = tt
staged_other g c h e (Adopt claim status) kept other s = tt

kept_other : (c : Run) (h : List Entry) (e : Entry) → eqb e.job c.job ≡ false → JobKept c h → JobKept c (h ++ e ∷ [])
kept_other c h e other kept = each_more (λ before d. d.job ≡ c.job → JobStep c before d.event) [] h e kept (λ mine. absurd (let t = eq-eqb e.job c.job mine in cc))

pub running_other : Grows → (c : Run) (h : List Entry) (w : Work) (e : Entry) → eqb e.job c.job ≡ false → Running c h w → Running c (h ++ e ∷ []) w
running_other g c h w e other r = record {
  job = r.job;
  command = r.command;
  some = r.some;
  began = (let b = r.began in omega (arith, length-append h (e ∷ [])));
  kept = kept_other c h e other r.kept;
  count = subst (Counted c.command) (sym (job_state_other g h e c.job other)) r.count;
  staged = staged_other g c h e c.command w.stage other r.staged;
}

pub run_other : Grows → (c : Run) (h : List Entry) (e : Entry) → eqb e.job c.job ≡ false → JobRun c h → JobRun c (h ++ e ∷ [])
run_other g c h e other r = record { kept = kept_other c h e other r.kept; index = r.index; ended = job_state_other g h e c.job other ∙ r.ended }

pub begun_other : Grows → (c : Run) (h : List Entry) (e : Entry) → eqb e.job c.job ≡ false → JobBegun c h → JobBegun c (h ++ e ∷ [])
begun_other g c h e other r = record { kept = kept_other c h e other r.kept; open_yet = ap is_ended (job_state_other g h e c.job other) ∙ r.open_yet }

-- ---- an entry of its own

under_way : (c : Run) (pod : Key) (failed : ℕ) → Schedule pod (attempts_of c.command) ≡ c.command → failed < attempts_of c.command → IsUnderWay c.command failed
under_way c pod failed is left = record { schedules = sym (ap is_schedule is); left = left }

-- how far the job has come after it
counted : (c : Run) (h : List Entry) (st : JobState) (index : ℕ) (ev : Event) → job_state_of h c.job ≡ st → command_of (attempts_of c.command) ev ≡ c.command → Timed c h ev → allows st ev ≡ true → Counted c.command st → Counted c.command (job_state_after st index ev)
counted c h st index (Applied object mode) is of timed may count = tt
counted c h st index (Deleted target) is of timed may count = tt
counted c h st index (Reserved pod plan) is of timed may count = under_way c pod (failures st) of (subst (λ (x : JobState). failures x < attempts_of c.command) is timed.try.left)
counted c h st index (Refused pod plan why) is of timed may count =
    let l : failures st < attempts_of c.command = subst (λ (x : JobState). failures x < attempts_of c.command) is timed.try.left in
    record { schedules = sym (ap is_schedule of); within = omega arith }
counted c h (job_state.Reserved k) index (Wrote pod claim seen) is of timed may count = count
counted c h job_state.Fresh index (Wrote pod claim seen) is of timed may count = absurd cc
counted c h (job_state.Conflicted k) index (Wrote pod claim seen) is of timed may count = absurd cc
counted c h (job_state.Failed k) index (Wrote pod claim seen) is of timed may count = absurd cc
counted c h (job_state.Ended p) index (Wrote pod claim seen) is of timed may count = absurd cc
counted c h (job_state.Reserved k) index (Conflict pod claim had now) is of timed may count = count
counted c h job_state.Fresh index (Conflict pod claim had now) is of timed may count = absurd cc
counted c h (job_state.Conflicted k) index (Conflict pod claim had now) is of timed may count = absurd cc
counted c h (job_state.Failed k) index (Conflict pod claim had now) is of timed may count = absurd cc
counted c h (job_state.Ended p) index (Conflict pod claim had now) is of timed may count = absurd cc
counted c h (job_state.Conflicted k) index (Unreserved pod) is of timed may count = let l = count.left in record { schedules = count.schedules; within = omega arith }
counted c h job_state.Fresh index (Unreserved pod) is of timed may count = absurd cc
counted c h (job_state.Reserved k) index (Unreserved pod) is of timed may count = absurd cc
counted c h (job_state.Failed k) index (Unreserved pod) is of timed may count = absurd cc
counted c h (job_state.Ended p) index (Unreserved pod) is of timed may count = absurd cc
counted c h st index (Bound pod node) is of timed may count = tt
counted c h st index (VerdictGiven pod verdict) is of timed may count = tt
counted c h st index (Contended pod failed) is of timed may count = tt
counted c h st index (Released pod) is of timed may count = tt
counted c h st index (Adopted claim status) is of timed may count = tt
counted c h st index (Denied command refusal) is of timed may count = tt

pub staged_ready : (c : Run) (h : List Entry) (cmd : Command) → IsStaged c h cmd Ready
staged_ready c h (Apply object mode) = tt
staged_ready c h (Invalid error) = tt
staged_ready c h (Delete target) = tt
staged_ready c h (Schedule pod attempts) = tt
staged_ready c h (Release pod) = tt
staged_ready c h (Adopt claim status) = tt

running_own : Grows → (c : Run) (h : List Entry) (w : Work) (ev : Event) → allows (job_state_of h w.job) ev ≡ true → JobStep c h ev → Running c h w → Running c (h ++ record { job = w.job; event = ev } ∷ []) (record w { stage = Ready })
running_own g c h w ev may step r =
    let e : Entry = record { job = w.job; event = ev } in
    let allowed : allows (job_state_of h c.job) ev ≡ true = subst (λ (n : ℕ). allows (job_state_of h n) ev ≡ true) r.job may in
    record {
      job = r.job;
      command = r.command;
      some = r.some;
      began = (let b = r.began in omega (arith, length-append h (e ∷ [])));
      kept = each_more (λ before d. d.job ≡ c.job → JobStep c before d.event) [] h e r.kept (λ mine. step);
      count = subst (Counted c.command) (sym (job_state_own g h e c.job r.job)) (counted c h (job_state_of h c.job) (length h + 1) ev refl step.of_command step.timed allowed r.count);
      staged = staged_ready c (h ++ e ∷ []) c.command;
    }

-- ---- what a turn appends is of the job's run

-- what an entry of the job has to be
record Good (c : Run) (h : List Entry) (ev : Event) : Type 0 where
  pub of_command : command_of (attempts_of c.command) ev ≡ c.command
  pub timed : Timed c h ev

some_if : (b : Bool) (x ev : Event) → cond b (Some x) None ≡ Some ev → (b ≡ true) × (x ≡ ev)
some_if true x ev e = (refl, cc)
some_if false x ev e = absurd cc

just_this : (x ev : Event) → Some x ≡ Some ev → x ≡ ev
just_this x ev e = cc

fresh_fails : (st : JobState) → is_fresh st ≡ true → failures st ≡ 0
fresh_fails job_state.Fresh e = refl
fresh_fails (job_state.Reserved k) e = absurd cc
fresh_fails (job_state.Conflicted k) e = absurd cc
fresh_fails (job_state.Failed k) e = absurd cc
fresh_fails (job_state.Ended p) e = absurd cc

-- one that schedules names its command
same_schedule : (c : Run) (pod : Key) (attempts : ℕ) → c.command ≡ Schedule pod attempts → Schedule pod (attempts_of c.command) ≡ c.command
same_schedule c pod attempts is = ap (λ x. Schedule pod (attempts_of x)) is ∙ sym is

good_status_if : (c : Run) (h : List Entry) (pod : Key) (attempts : ℕ) (claim : Key) (had now : ℕ) (b : Bool) → c.command ≡ Schedule pod attempts → Good c h (cond b (Wrote pod claim had) (Conflict pod claim had now))
good_status_if c h pod attempts claim had now true is = record { of_command = same_schedule c pod attempts is; timed = tt }
good_status_if c h pod attempts claim had now false is = record { of_command = same_schedule c pod attempts is; timed = tt }

good_finish : (c : Run) (h : List Entry) (s : State) (pod : Key) (attempts : ℕ) (d : Due) (ev : Event) → c.command ≡ Schedule pod attempts → finish_by s pod d ≡ Some ev → Good c h ev
good_finish c h s pod attempts due.Nothing ev is e = absurd cc
good_finish c h s pod attempts due.Bind ev is e = subst (Good c h) (just_this _ ev e) (record { of_command = same_schedule c pod attempts is; timed = tt })
good_finish c h s pod attempts (due.Write claim) ev is e =
    subst (Good c h) (just_this _ ev e)
    (good_status_if c h pod attempts claim (assumed_by (use_in pod (at_key s.claims claim))) (version_of s claim) (eqb (assumed_by (use_in pod (at_key s.claims claim))) (version_of s claim)) is)

good_reservation : (c : Run) (h : List Entry) (pod : Key) (attempts : ℕ) (plan : Plan) (o : Option Refusal) (why : Option Failure) → c.command ≡ Schedule pod attempts → TriedPlan c h pod plan → Good c h (reservation_by pod plan o why)
good_reservation c h pod attempts plan (Some d) why is t = record { of_command = same_schedule c pod attempts is; timed = t.try.left }
good_reservation c h pod attempts plan None None is t = record { of_command = same_schedule c pod attempts is; timed = t }
good_reservation c h pod attempts plan None (Some why) is t = record { of_command = same_schedule c pod attempts is; timed = t }

good_denial : (c : Run) (h : List Entry) (pod : Key) (attempts : ℕ) (o : Option Refusal) (ev : Event) → c.command ≡ Schedule pod attempts → failures (job_state_of h c.job) < attempts_of c.command → denial_by pod o ≡ Some ev → Good c h ev
good_denial c h pod attempts None ev is left e = absurd cc
good_denial c h pod attempts (Some d) ev is left e = subst (Good c h) (just_this (Denied (asked.Schedule pod) d) ev e) (record { of_command = same_schedule c pod attempts is; timed = left })

good_try : (c : Run) (h : List Entry) (pod : Key) (attempts : ℕ) (kept : Stage) (ev : Event) → c.command ≡ Schedule pod attempts → failures (job_state_of h c.job) < attempts_of c.command → IsTrying c h pod kept → try_move (state_of h) pod kept ≡ Some ev → Good c h ev
good_try c h pod attempts Ready ev is left staged e = good_denial c h pod attempts (first_refusal (state_of h) (asked.Schedule pod)) ev is left e
good_try c h pod attempts (Seen seen) ev is left staged e = good_denial c h pod attempts (first_refusal (state_of h) (asked.Schedule pod)) ev is left e
good_try c h pod attempts (Chosen (Reserve plan)) ev is left staged e =
    subst (Good c h) (just_this (reservation (state_of h) pod plan) ev e) (good_reservation c h pod attempts plan (first_refusal (state_of h) (asked.Schedule pod)) (failing (state_of h) pod plan) is staged.tried)
good_try c h pod attempts (Chosen (Judge verdict)) ev is left staged e =
    subst (Good c h) (just_this (VerdictGiven pod verdict) ev e) (record { of_command = same_schedule c pod attempts is; timed = staged.tried })

good_failed : (c : Run) (h : List Entry) (pod : Key) (attempts k : ℕ) (kept : Stage) (ev : Event) (b : Bool) → nat_le attempts k ≡ b → c.command ≡ Schedule pod attempts → job_state_of h c.job ≡ job_state.Failed k → k ≤ attempts_of c.command → IsTrying c h pod kept
    → cond b (Some (Contended pod k)) (try_move (state_of h) pod kept) ≡ Some ev → Good c h ev
good_failed c h pod attempts k kept ev true test is st few staged e =
    let le : attempts ≤ k = leb-true attempts k test in
    let n : attempts_of c.command ≡ attempts = ap attempts_of is in
    subst (Good c h) (just_this (Contended pod k) ev e) (record { of_command = same_schedule c pod attempts is; timed = omega arith })
good_failed c h pod attempts k kept ev false test is st few staged e =
    let n : attempts_of c.command ≡ attempts = ap attempts_of is in
    let f : failures (job_state_of h c.job) ≡ k = ap failures st in
    let more : k < attempts = not_le attempts k test in
    good_try c h pod attempts kept ev is (omega arith) staged e
  where
    not_le : (a k : ℕ) → nat_le a k ≡ false → k < a
    not_le a k t = grind (arith, nat_tests)

good_schedule : (c : Run) (h : List Entry) (pod : Key) (attempts : ℕ) (kept : Stage) (st : JobState) (ev : Event) → c.command ≡ Schedule pod attempts → job_state_of h c.job ≡ st → 0 < attempts_of c.command → Counted c.command st → IsTrying c h pod kept
    → schedule_move (state_of h) c.job pod attempts kept st ≡ Some ev → Good c h ev
good_schedule c h pod attempts kept job_state.Fresh ev is st some count staged e = let f : failures (job_state_of h c.job) ≡ 0 = ap failures st in good_try c h pod attempts kept ev is (omega arith) staged e
good_schedule c h pod attempts kept (job_state.Reserved k) ev is st some count staged e = good_finish c h (state_of h) pod attempts (due_of (state_of h) c.job pod) ev is e
good_schedule c h pod attempts kept (job_state.Conflicted k) ev is st some count staged e =
    subst (Good c h) (some_if (taken_by c.job (at_key (state_of h).pods pod)) (Unreserved pod) ev e).1 (record { of_command = same_schedule c pod attempts is; timed = tt })
good_schedule c h pod attempts kept (job_state.Failed k) ev is st some count staged e = good_failed c h pod attempts k kept ev (nat_le attempts k) refl is st count.within staged e
good_schedule c h pod attempts kept (job_state.Ended p) ev is st some count staged e = absurd cc

-- ---- the one entry of a job that isn't to schedule a pod

good_application : (job from budget : ℕ) (h : List Entry) (object : Object) (mode : Mode) (o : Option Refusal) → failures (job_state_of h job) ≡ 0 → Good (record { job = job; command = Apply object mode; from = from; budget = budget }) h (application_by object mode o)
good_application job from budget h object mode None none = record { of_command = refl; timed = tt }
good_application job from budget h object mode (Some d) none = record { of_command = refl; timed = omega arith }

good_deletion : (job from budget : ℕ) (h : List Entry) (target : Target) (o : Option Refusal) → failures (job_state_of h job) ≡ 0 → Good (record { job = job; command = Delete target; from = from; budget = budget }) h (deletion_by target o)
good_deletion job from budget h target None none = record { of_command = refl; timed = tt }
good_deletion job from budget h target (Some d) none = record { of_command = refl; timed = omega arith }

good_release : (job from budget : ℕ) (h : List Entry) (pod : Key) (o : Option Refusal) → failures (job_state_of h job) ≡ 0 → Good (record { job = job; command = Release pod; from = from; budget = budget }) h (release_by pod o)
good_release job from budget h pod None none = record { of_command = refl; timed = tt }
good_release job from budget h pod (Some d) none = record { of_command = refl; timed = omega arith }

good_adoption : (job from budget : ℕ) (h : List Entry) (claim : Key) (status : StatusFields) (o : Option Refusal) → failures (job_state_of h job) ≡ 0 → Good (record { job = job; command = Adopt claim status; from = from; budget = budget }) h (adoption_by claim status o)
good_adoption job from budget h claim status None none = record { of_command = refl; timed = tt }
good_adoption job from budget h claim status (Some d) none = record { of_command = refl; timed = omega arith }

good_once : (c : Run) (h : List Entry) (st : JobState) (x ev : Event) → job_state_of h c.job ≡ st → once st x ≡ Some ev → (failures (job_state_of h c.job) ≡ 0 → Good c h x) → Good c h ev
good_once c h st x ev is e good =
    let p = some_if (is_fresh st) x ev e in
    subst (Good c h) p.1 (good (ap failures is ∙ fresh_fails st p.0))

good_move : (job from budget : ℕ) (cmd : Command) (h : List Entry) (kept : Stage) (ev : Event) → 0 < attempts_of cmd → Counted cmd (job_state_of h job) → IsStaged (record { job = job; command = cmd; from = from; budget = budget }) h cmd kept
    → move_by (state_of h) job kept (job_state_of h job) cmd ≡ Some ev → Good (record { job = job; command = cmd; from = from; budget = budget }) h ev
good_move job from budget (Apply object mode) h kept ev some count staged e =
    good_once (record { job = job; command = Apply object mode; from = from; budget = budget }) h (job_state_of h job) (application_by object mode (first_refusal (state_of h) (asked.Apply object mode))) ev refl e
    (λ none. good_application job from budget h object mode (first_refusal (state_of h) (asked.Apply object mode)) none)
good_move job from budget (Invalid error) h kept ev some count staged e =
    good_once (record { job = job; command = Invalid error; from = from; budget = budget }) h (job_state_of h job) (Denied (asked.Invalid error) refusal.Invalid) ev refl e
    (λ none. record { of_command = refl; timed = omega arith })
good_move job from budget (Delete target) h kept ev some count staged e =
    good_once (record { job = job; command = Delete target; from = from; budget = budget }) h (job_state_of h job) (deletion_by target (first_refusal (state_of h) (asked.Delete target))) ev refl e
    (λ none. good_deletion job from budget h target (first_refusal (state_of h) (asked.Delete target)) none)
good_move job from budget (Schedule pod attempts) h kept ev some count staged e =
    good_schedule (record { job = job; command = Schedule pod attempts; from = from; budget = budget }) h pod attempts kept (job_state_of h job) ev refl refl some count staged e
good_move job from budget (Release pod) h kept ev some count staged e =
    good_once (record { job = job; command = Release pod; from = from; budget = budget }) h (job_state_of h job) (release_by pod (first_refusal (state_of h) (asked.Release pod))) ev refl e
    (λ none. good_release job from budget h pod (first_refusal (state_of h) (asked.Release pod)) none)
good_move job from budget (Adopt claim status) h kept ev some count staged e =
    good_once (record { job = job; command = Adopt claim status; from = from; budget = budget }) h (job_state_of h job) (adoption_by claim status (refusal_of (state_of h) (asked.Adopt claim status))) ev refl e
    (λ none. good_adoption job from budget h claim status (refusal_of (state_of h) (asked.Adopt claim status)) none)

pub step_is : (c : Run) (h : List Entry) (w : Work) (ev : Event) → Running c h w → move_of h w ≡ Some ev → JobStep c h ev
step_is c h w ev r e =
    let e' : move_by (state_of h) c.job w.stage (job_state_of h c.job) c.command ≡ Some ev = sym (ap (λ (n : ℕ). move_by (state_of h) n w.stage (job_state_of h n) w.command) r.job ∙ ap (λ (x : Command). move_by (state_of h) c.job w.stage (job_state_of h c.job) x) r.command) ∙ e in
    let good = good_move c.job c.from c.budget c.command h w.stage ev r.some r.count r.staged e' in
    record { after = r.began; of_command = good.of_command; timed = good.timed }

-- ---- what a turn keeps

may_by : (most : ℕ) (st : JobState) → tries most st ≡ true → may_try st ≡ true
may_by most job_state.Fresh e = refl
may_by most (job_state.Reserved k) e = absurd cc
may_by most (job_state.Conflicted k) e = absurd cc
may_by most (job_state.Failed k) e = refl
may_by most (job_state.Ended p) e = absurd cc

left_by : (most : ℕ) (st : JobState) → 0 < most → tries most st ≡ true → failures st < most
left_by most job_state.Fresh some e = some
left_by most (job_state.Reserved k) some e = absurd cc
left_by most (job_state.Conflicted k) some e = absurd cc
left_by most (job_state.Failed k) some e = fewer (nat_le most k) refl e
  where
    fewer : (b : Bool) → nat_le most k ≡ b → cond b false true ≡ true → k < most
    fewer true t f = absurd cc
    fewer false t f = grind (arith, nat_tests)
left_by most (job_state.Ended p) some e = absurd cc

seen_if : (c : Run) (h : List Entry) (pod : Key) (b : Bool) → (b ≡ true → IsTry c h (length h)) → IsTrying c h pod (cond b (looked h) Ready)
seen_if c h pod true try = record { try = try refl; state = ap state_of (sym (take_all (length h) h (omega arith))) }
seen_if c h pod false try = tt

staged_none : (job from budget : ℕ) (cmd : Command) (h : List Entry) → 0 < attempts_of cmd → from ≤ length h
    → IsStaged (record { job = job; command = cmd; from = from; budget = budget }) h cmd (stage_by h (job_state_of h job) cmd None)
staged_none job from budget (Apply object mode) h some began = tt
staged_none job from budget (Invalid error) h some began = tt
staged_none job from budget (Delete target) h some began = tt
staged_none job from budget (Schedule pod attempts) h some began =
    seen_if (record { job = job; command = Schedule pod attempts; from = from; budget = budget }) h pod (tries attempts (job_state_of h job))
    (λ t. record { from = began; last = last_within h job; within = omega arith; may = may_by attempts (job_state_of h job) t; left = left_by attempts (job_state_of h job) some t })
staged_none job from budget (Release pod) h some began = tt
staged_none job from budget (Adopt claim status) h some began = tt

pub staged_some : (h : List Entry) (st : JobState) (cmd : Command) (ev : Event) → stage_by h st cmd (Some ev) ≡ Ready
staged_some h st (Apply object mode) ev = refl
staged_some h st (Invalid error) ev = refl
staged_some h st (Delete target) ev = refl
staged_some h st (Schedule pod attempts) ev = refl
staged_some h st (Release pod) ev = refl
staged_some h st (Adopt claim status) ev = refl

-- the same work, as far as its run goes
pub running_same : (c : Run) (h : List Entry) (w w' : Work) → w'.job ≡ w.job → w'.command ≡ w.command → IsStaged c h c.command w'.stage → Running c h w → Running c h w'
running_same c h w w' job command staged r = record { job = job ∙ r.job; command = command ∙ r.command; some = r.some; began = r.began; kept = r.kept; count = r.count; staged = staged }

-- A turn keeps the work running.
pub running_turned : Grows → ((h : List Entry) (e : Entry) → Legal (h ++ e ∷ []) → Step h e) → (c : Run) (H H' : History) (w w' : Work) (o : Option Event) → move_of H.entries w ≡ o → H' ≡ moved H w.job o → w'.job ≡ w.job → w'.command ≡ w.command
    → w'.stage ≡ stage_by H.entries (job_state_of H.entries w.job) w.command o → Legal H'.entries → Running c H.entries w → Running c H'.entries w'
running_turned g last c H H' w w' None is now job command kept legal r =
    let same : H'.entries ≡ H.entries = ap (λ (x : History). x.entries) now in
    let s : w'.stage ≡ stage_by H.entries (job_state_of H.entries c.job) c.command None = kept ∙ ap (λ (n : ℕ). stage_by H.entries (job_state_of H.entries n) w.command None) r.job ∙ ap (λ (x : Command). stage_by H.entries (job_state_of H.entries c.job) x None) r.command in
    let staged = subst (IsStaged c H.entries c.command) (sym s) (staged_none c.job c.from c.budget c.command H.entries r.some r.began) in
    subst (λ (xs : List Entry). Running c xs w') (sym same) (running_same c H.entries w w' job command staged r)
running_turned g last c H H' w w' (Some ev) is now job command kept legal r =
    let same : H'.entries ≡ H.entries ++ record { job = w.job; event = ev } ∷ [] = ap (λ (x : History). x.entries) now in
    let step = step_is c H.entries w ev r is in
    let may = (last H.entries (record { job = w.job; event = ev }) (subst Legal same legal)).allowed in
    let own = running_own g c H.entries w ev may step r in
    let s : w'.stage ≡ Ready = kept ∙ staged_some H.entries (job_state_of H.entries w.job) w.command ev in
    subst (λ (xs : List Entry). Running c xs w') (sym same)
    (running_same c (H.entries ++ record { job = w.job; event = ev } ∷ []) (record w { stage = Ready }) w' job command (subst (IsStaged c (H.entries ++ record { job = w.job; event = ev } ∷ []) c.command) (sym s) (staged_ready c (H.entries ++ record { job = w.job; event = ev } ∷ []) c.command)) own)

fits_stage : (c : Run) (h : List Entry) (pod : Key) (kept : Stage) → IsTrying c h pod kept → FitsStage h pod kept
fits_stage c h pod Ready s = tt
fits_stage c h pod (Seen seen) s = tt
fits_stage c h pod (Chosen (Reserve plan)) s = record { at = s.tried.try.within; true_then = s.holds }
fits_stage c h pod (Chosen (Judge verdict)) s = record { at = s.tried.try.within; true_then = s.holds }

fits_command : (c : Run) (h : List Entry) (cmd : Command) (kept : Stage) → IsStaged c h cmd kept → FitsCommand h cmd kept
fits_command c h (Apply object mode) kept s = tt
fits_command c h (Invalid error) kept s = tt
fits_command c h (Delete target) kept s = tt
fits_command c h (Schedule pod attempts) kept s = fits_stage c h pod kept s
fits_command c h (Release pod) kept s = tt
fits_command c h (Adopt claim status) kept s = tt

-- a work that is running satisfies the condition of a turn
pub running_fits : (c : Run) (h : List Entry) (w : Work) → Running c h w → Fits h w
running_fits c h w r = subst (λ (x : Command). FitsCommand h x w.stage) (sym r.command) (fits_command c h c.command w.stage r.staged)

pub running_ended : (c : Run) (h : List Entry) (w : Work) (index : ℕ) → Running c h w → job_state_of h c.job ≡ job_state.Ended index → JobRun c h
running_ended c h w index r e = record { kept = r.kept; index = index; ended = e }
