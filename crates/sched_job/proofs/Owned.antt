-- What a work keeps between two turns, and what its next turn appends, whatever others did.
use Rattle.std.proofs.Common.{ℕ, ◌≡◌, ◌∙◌, ◌+◌, ◌≤◌, ◌<◌, ◌++◌, List, [], ◌∷◌, Bool, true, false, cond, eqb, Option, None, Some, length, refl, sym, ap, subst, arith, length-append, nat_le}
use Rattle.std.proofs.lemmas.List.{take_all}
use Rattle.std.proofs.lemmas.Bool.{leb-true}
use Rattle.object_fields.specs.declared.key.Key.{Key}
use Rattle.api_claim.specs.Fields.{StatusFields}
use Rattle.pool_view.specs.Names.{at_key}
use Rattle.cluster.specs.declared.entry.Command.TheVariants as asked
use Rattle.cluster.specs.declared.entry.Entry.{Entry}
use Rattle.cluster.specs.declared.entry.Event.{Event}
use Rattle.cluster.specs.declared.entry.Event.TheVariants.{Wrote, Conflict, Unreserved, Bound, VerdictGiven, Contended, Denied}
use Rattle.cluster.specs.declared.entry.Mode.{Mode}
use Rattle.cluster.specs.declared.entry.Refusal.{Refusal}
use Rattle.cluster.specs.declared.entry.Refusal.TheVariants as refusal
use Rattle.cluster.specs.declared.entry.JobState.{JobState}
use Rattle.cluster.specs.declared.entry.JobState.TheVariants as job_state
use Rattle.cluster.specs.declared.failure.Failure.{Failure}
use Rattle.cluster.specs.declared.object.Object.{Object}
use Rattle.cluster.specs.declared.object.Target.{Target}
use Rattle.cluster.specs.declared.plan.Plan.{Plan}
use Rattle.cluster.specs.declared.state.State.{State}
use Rattle.cluster.specs.Denied.{first_refusal}
use Rattle.cluster.specs.History.{state_at, state_of, job_state_of}
use Rattle.cluster.specs.JobState.{is_fresh}
use Rattle.cluster.specs.State.{use_in, version_of}
use Rattle.engine_ports.specs.declared.decision.Decision.{Decision}
use Rattle.engine_ports.specs.declared.decision.Decision.TheVariants.{Reserve, Judge}
use Rattle.engine_ports.specs.Decisions.{IsDecision}
use Rattle.plan_rules.specs.Idle.{is_idle_pod}
use Rattle.plan_rules.specs.Plans.{PlanBy, PlanTrue, VerdictBy, VerdictTrue}
use Rattle.plan_rules.specs.Failing.{failing}
use Rattle.histories.specs.Applied.{application_by}
use Rattle.histories.specs.Adopted.{adoption_by}
use Rattle.histories.specs.Conflict.{assumed_by}
use Rattle.histories.specs.Deleted.{deletion_by}
use Rattle.histories.specs.Denied.{refusal_of}
use Rattle.histories.specs.Released.{release_by}
use Rattle.histories.specs.Reserved.{reservation, reservation_by}
use Rattle.ledger_core.specs.Snapshot.{Seen as Snapshot}
use Rattle.commands.specs.declared.command.Command.{Command}
use Rattle.commands.specs.declared.command.Command.TheVariants.{Apply, Invalid, Delete, Schedule, Release, Adopt}
use Rattle.sched_job.specs.declared.due.Due.{Due}
use Rattle.sched_job.specs.declared.due.Due.TheVariants as due
use Rattle.sched_job.specs.declared.work.Stage.{Stage}
use Rattle.sched_job.specs.declared.work.Stage.TheVariants.{Ready, Seen, Chosen}
use Rattle.sched_job.specs.declared.work.Work.{Work}
use Rattle.sched_job.specs.Moves.{denial_by, due_of, finish_by, looked, move_by, move_of, once, schedule_move, stage_by, taken_by, tries, try_move, Fits, FitsCommand, FitsStage}
use Rattle.histories.specs.JobRuns.{Run, attempts_of, command_of}
use Rattle.sched_job.specs.Steps.{IsSearched, Thought, ThoughtOf}
use Rattle.sched_job.specs.Owned.{OwnPlan, OwnTimed, OwnTry}
use Rattle.sched_job.specs.Going.{OwnChosen, OwnSeen, OwnStaged, OwnTrying}
use Rattle.sched_job.proofs.Growing.{state_stays}

-- ---- past entries of whatever job

try_more : (c : Run) (last : ℕ) (h more : List Entry) (at : ℕ) → OwnTry c last h at → OwnTry c last (h ++ more) at
try_more c last h more at t = record { from = t.from; last_is = t.last_is; within = (let w = t.within in omega (arith, length-append h more)) }

chosen_more : (c : Run) (last : ℕ) (h more : List Entry) (pod : Key) (choice : Decision) → OwnChosen c last h pod choice → OwnChosen c last (h ++ more) pod choice
chosen_more c last h more pod (Reserve plan) t = record {
  tried = record {
    try = try_more c last h more plan.at t.tried.try;
    by = subst (λ (s : State). PlanBy s pod c.budget plan) (sym (state_stays h more plan.at t.tried.try.within)) t.tried.by;
  };
  holds = subst (λ (s : State). PlanTrue s pod plan) (sym (state_stays h more plan.at t.tried.try.within)) t.holds;
}
chosen_more c last h more pod (Judge verdict) t = record {
  tried = record {
    try = try_more c last h more verdict.at t.tried.try;
    by = subst (λ (s : State). VerdictBy s pod c.budget verdict) (sym (state_stays h more verdict.at t.tried.try.within)) t.tried.by;
  };
  holds = subst (λ (s : State). VerdictTrue s pod verdict) (sym (state_stays h more verdict.at t.tried.try.within)) t.holds;
}

trying_more : (c : Run) (last : ℕ) (h more : List Entry) (pod : Key) (kept : Stage) → OwnTrying c last h pod kept → OwnTrying c last (h ++ more) pod kept
trying_more c last h more pod Ready s = tt
trying_more c last h more pod (Seen seen) s = record { try = try_more c last h more seen.at s.try; state = s.state ∙ sym (state_stays h more seen.at s.try.within) }
trying_more c last h more pod (Chosen choice) s = chosen_more c last h more pod choice s

pub staged_more : (c : Run) (last : ℕ) (h more : List Entry) (cmd : Command) (kept : Stage) → OwnStaged c last h cmd kept → OwnStaged c last (h ++ more) cmd kept
staged_more c last h more (Apply object mode) kept s = tt
staged_more c last h more (Invalid error) kept s = tt
staged_more c last h more (Delete target) kept s = tt
staged_more c last h more (Schedule pod attempts) kept s = trying_more c last h more pod kept s
staged_more c last h more (Release pod) kept s = tt
staged_more c last h more (Adopt claim status) kept s = tt

-- ---- the condition of a turn

fits_stage : (c : Run) (last : ℕ) (h : List Entry) (pod : Key) (kept : Stage) → OwnTrying c last h pod kept → FitsStage h pod kept
fits_stage c last h pod Ready s = tt
fits_stage c last h pod (Seen seen) s = tt
fits_stage c last h pod (Chosen (Reserve plan)) s = record { at = s.tried.try.within; true_then = s.holds }
fits_stage c last h pod (Chosen (Judge verdict)) s = record { at = s.tried.try.within; true_then = s.holds }

pub own_fits : (c : Run) (last : ℕ) (h : List Entry) (cmd : Command) (kept : Stage) → OwnStaged c last h cmd kept → FitsCommand h cmd kept
own_fits c last h (Apply object mode) kept s = tt
own_fits c last h (Invalid error) kept s = tt
own_fits c last h (Delete target) kept s = tt
own_fits c last h (Schedule pod attempts) kept s = fits_stage c last h pod kept s
own_fits c last h (Release pod) kept s = tt
own_fits c last h (Adopt claim status) kept s = tt

-- ---- what a turn appends

-- what an entry of the job has to be
pub record OwnGood (c : Run) (last : ℕ) (h : List Entry) (ev : Event) : Type 0 where
  pub of_command : command_of (attempts_of c.command) ev ≡ c.command
  pub timed : OwnTimed c last h ev

some_if : (b : Bool) (x ev : Event) → cond b (Some x) None ≡ Some ev → x ≡ ev
some_if true x ev e = cc
some_if false x ev e = absurd cc

just_this : (x ev : Event) → Some x ≡ Some ev → x ≡ ev
just_this x ev e = cc

same_schedule : (c : Run) (pod : Key) (attempts : ℕ) → c.command ≡ Schedule pod attempts → Schedule pod (attempts_of c.command) ≡ c.command
same_schedule c pod attempts is = ap (λ x. Schedule pod (attempts_of x)) is ∙ sym is

good_status_if : (c : Run) (last : ℕ) (h : List Entry) (pod : Key) (attempts : ℕ) (claim : Key) (had now : ℕ) (b : Bool) → c.command ≡ Schedule pod attempts → OwnGood c last h (cond b (Wrote pod claim had) (Conflict pod claim had now))
good_status_if c last h pod attempts claim had now true is = record { of_command = same_schedule c pod attempts is; timed = tt }
good_status_if c last h pod attempts claim had now false is = record { of_command = same_schedule c pod attempts is; timed = tt }

good_finish : (c : Run) (last : ℕ) (h : List Entry) (s : State) (pod : Key) (attempts : ℕ) (d : Due) (ev : Event) → c.command ≡ Schedule pod attempts → finish_by s pod d ≡ Some ev → OwnGood c last h ev
good_finish c last h s pod attempts due.Nothing ev is e = absurd cc
good_finish c last h s pod attempts due.Bind ev is e = subst (OwnGood c last h) (just_this _ ev e) (record { of_command = same_schedule c pod attempts is; timed = tt })
good_finish c last h s pod attempts (due.Write claim) ev is e =
    subst (OwnGood c last h) (just_this _ ev e)
    (good_status_if c last h pod attempts claim (assumed_by (use_in pod (at_key s.claims claim))) (version_of s claim) (eqb (assumed_by (use_in pod (at_key s.claims claim))) (version_of s claim)) is)

good_reservation : (c : Run) (last : ℕ) (h : List Entry) (pod : Key) (attempts : ℕ) (plan : Plan) (o : Option Refusal) (why : Option Failure) → c.command ≡ Schedule pod attempts → OwnPlan c last h pod plan → OwnGood c last h (reservation_by pod plan o why)
good_reservation c last h pod attempts plan (Some d) why is t = record { of_command = same_schedule c pod attempts is; timed = tt }
good_reservation c last h pod attempts plan None None is t = record { of_command = same_schedule c pod attempts is; timed = t }
good_reservation c last h pod attempts plan None (Some why) is t = record { of_command = same_schedule c pod attempts is; timed = t }

good_denial : (c : Run) (last : ℕ) (h : List Entry) (pod : Key) (attempts : ℕ) (o : Option Refusal) (ev : Event) → c.command ≡ Schedule pod attempts → denial_by pod o ≡ Some ev → OwnGood c last h ev
good_denial c last h pod attempts None ev is e = absurd cc
good_denial c last h pod attempts (Some d) ev is e = subst (OwnGood c last h) (just_this (Denied (asked.Schedule pod) d) ev e) (record { of_command = same_schedule c pod attempts is; timed = tt })

good_try : (c : Run) (last : ℕ) (h : List Entry) (pod : Key) (attempts : ℕ) (kept : Stage) (ev : Event) → c.command ≡ Schedule pod attempts → OwnTrying c last h pod kept → try_move (state_of h) pod kept ≡ Some ev → OwnGood c last h ev
good_try c last h pod attempts Ready ev is staged e = good_denial c last h pod attempts (first_refusal (state_of h) (asked.Schedule pod)) ev is e
good_try c last h pod attempts (Seen seen) ev is staged e = good_denial c last h pod attempts (first_refusal (state_of h) (asked.Schedule pod)) ev is e
good_try c last h pod attempts (Chosen (Reserve plan)) ev is staged e =
    subst (OwnGood c last h) (just_this (reservation (state_of h) pod plan) ev e) (good_reservation c last h pod attempts plan (first_refusal (state_of h) (asked.Schedule pod)) (failing (state_of h) pod plan) is staged.tried)
good_try c last h pod attempts (Chosen (Judge verdict)) ev is staged e =
    subst (OwnGood c last h) (just_this (VerdictGiven pod verdict) ev e) (record { of_command = same_schedule c pod attempts is; timed = staged.tried })

good_failed : (c : Run) (last : ℕ) (h : List Entry) (pod : Key) (attempts k : ℕ) (kept : Stage) (ev : Event) (b : Bool) → nat_le attempts k ≡ b → c.command ≡ Schedule pod attempts → OwnTrying c last h pod kept
    → cond b (Some (Contended pod k)) (try_move (state_of h) pod kept) ≡ Some ev → OwnGood c last h ev
good_failed c last h pod attempts k kept ev true test is staged e =
    let le : attempts ≤ k = leb-true attempts k test in
    let n : attempts_of c.command ≡ attempts = ap attempts_of is in
    subst (OwnGood c last h) (just_this (Contended pod k) ev e) (record { of_command = same_schedule c pod attempts is; timed = omega arith })
good_failed c last h pod attempts k kept ev false test is staged e = good_try c last h pod attempts kept ev is staged e

good_schedule : (c : Run) (last : ℕ) (h : List Entry) (pod : Key) (attempts : ℕ) (kept : Stage) (st : JobState) (ev : Event) → c.command ≡ Schedule pod attempts → OwnTrying c last h pod kept
    → schedule_move (state_of h) c.job pod attempts kept st ≡ Some ev → OwnGood c last h ev
good_schedule c last h pod attempts kept job_state.Fresh ev is staged e = good_try c last h pod attempts kept ev is staged e
good_schedule c last h pod attempts kept (job_state.Reserved k) ev is staged e = good_finish c last h (state_of h) pod attempts (due_of (state_of h) c.job pod) ev is e
good_schedule c last h pod attempts kept (job_state.Conflicted k) ev is staged e =
    subst (OwnGood c last h) (some_if (taken_by c.job (at_key (state_of h).pods pod)) (Unreserved pod) ev e) (record { of_command = same_schedule c pod attempts is; timed = tt })
good_schedule c last h pod attempts kept (job_state.Failed k) ev is staged e = good_failed c last h pod attempts k kept ev (nat_le attempts k) refl is staged e
good_schedule c last h pod attempts kept (job_state.Ended p) ev is staged e = absurd cc

good_application : (job from budget last : ℕ) (h : List Entry) (object : Object) (mode : Mode) (o : Option Refusal) → OwnGood (record { job = job; command = Apply object mode; from = from; budget = budget }) last h (application_by object mode o)
good_application job from budget last h object mode None = record { of_command = refl; timed = tt }
good_application job from budget last h object mode (Some d) = record { of_command = refl; timed = tt }

good_deletion : (job from budget last : ℕ) (h : List Entry) (target : Target) (o : Option Refusal) → OwnGood (record { job = job; command = Delete target; from = from; budget = budget }) last h (deletion_by target o)
good_deletion job from budget last h target None = record { of_command = refl; timed = tt }
good_deletion job from budget last h target (Some d) = record { of_command = refl; timed = tt }

good_release : (job from budget last : ℕ) (h : List Entry) (pod : Key) (o : Option Refusal) → OwnGood (record { job = job; command = Release pod; from = from; budget = budget }) last h (release_by pod o)
good_release job from budget last h pod None = record { of_command = refl; timed = tt }
good_release job from budget last h pod (Some d) = record { of_command = refl; timed = tt }

good_adoption : (job from budget last : ℕ) (h : List Entry) (claim : Key) (status : StatusFields) (o : Option Refusal) → OwnGood (record { job = job; command = Adopt claim status; from = from; budget = budget }) last h (adoption_by claim status o)
good_adoption job from budget last h claim status None = record { of_command = refl; timed = tt }
good_adoption job from budget last h claim status (Some d) = record { of_command = refl; timed = tt }

good_once : (c : Run) (last : ℕ) (h : List Entry) (st : JobState) (x ev : Event) → once st x ≡ Some ev → OwnGood c last h x → OwnGood c last h ev
good_once c last h st x ev e good = subst (OwnGood c last h) (some_if (is_fresh st) x ev e) good

good_move : (job from budget last : ℕ) (cmd : Command) (h : List Entry) (kept : Stage) (ev : Event) → OwnStaged (record { job = job; command = cmd; from = from; budget = budget }) last h cmd kept
    → move_by (state_of h) job kept (job_state_of h job) cmd ≡ Some ev → OwnGood (record { job = job; command = cmd; from = from; budget = budget }) last h ev
good_move job from budget last (Apply object mode) h kept ev staged e =
    good_once (record { job = job; command = Apply object mode; from = from; budget = budget }) last h (job_state_of h job) (application_by object mode (first_refusal (state_of h) (asked.Apply object mode))) ev e
    (good_application job from budget last h object mode (first_refusal (state_of h) (asked.Apply object mode)))
good_move job from budget last (Invalid error) h kept ev staged e =
    good_once (record { job = job; command = Invalid error; from = from; budget = budget }) last h (job_state_of h job) (Denied (asked.Invalid error) refusal.Invalid) ev e
    (record { of_command = refl; timed = tt })
good_move job from budget last (Delete target) h kept ev staged e =
    good_once (record { job = job; command = Delete target; from = from; budget = budget }) last h (job_state_of h job) (deletion_by target (first_refusal (state_of h) (asked.Delete target))) ev e
    (good_deletion job from budget last h target (first_refusal (state_of h) (asked.Delete target)))
good_move job from budget last (Schedule pod attempts) h kept ev staged e =
    good_schedule (record { job = job; command = Schedule pod attempts; from = from; budget = budget }) last h pod attempts kept (job_state_of h job) ev refl staged e
good_move job from budget last (Release pod) h kept ev staged e =
    good_once (record { job = job; command = Release pod; from = from; budget = budget }) last h (job_state_of h job) (release_by pod (first_refusal (state_of h) (asked.Release pod))) ev e
    (good_release job from budget last h pod (first_refusal (state_of h) (asked.Release pod)))
good_move job from budget last (Adopt claim status) h kept ev staged e =
    good_once (record { job = job; command = Adopt claim status; from = from; budget = budget }) last h (job_state_of h job) (adoption_by claim status (refusal_of (state_of h) (asked.Adopt claim status))) ev e
    (good_adoption job from budget last h claim status (refusal_of (state_of h) (asked.Adopt claim status)))

pub own_good : (c : Run) (last : ℕ) (h : List Entry) (w : Work) (ev : Event) → w.job ≡ c.job → w.command ≡ c.command → OwnStaged c last h c.command w.stage → move_of h w ≡ Some ev → OwnGood c last h ev
own_good c last h w ev job command staged e =
    let e' : move_by (state_of h) c.job w.stage (job_state_of h c.job) c.command ≡ Some ev = sym (ap (λ (n : ℕ). move_by (state_of h) n w.stage (job_state_of h n) w.command) job ∙ ap (λ (x : Command). move_by (state_of h) c.job w.stage (job_state_of h c.job) x) command) ∙ e in
    let good = good_move c.job c.from c.budget last c.command h w.stage ev staged e' in
    record { of_command = good.of_command; timed = good.timed }

-- ---- what a turn keeps

seen_if : (c : Run) (last : ℕ) (h : List Entry) (pod : Key) (b : Bool) → OwnTry c last h (length h) → OwnTrying c last h pod (cond b (looked h) Ready)
seen_if c last h pod true try = record { try = try; state = ap state_of (sym (take_all (length h) h (omega arith))) }
seen_if c last h pod false try = tt

own_none : (c : Run) (last : ℕ) (cmd : Command) (h : List Entry) (st : JobState) → OwnTry c last h (length h) → OwnStaged c last h cmd (stage_by h st cmd None)
own_none c last (Apply object mode) h st try = tt
own_none c last (Invalid error) h st try = tt
own_none c last (Delete target) h st try = tt
own_none c last (Schedule pod attempts) h st try = seen_if c last h pod (tries attempts st) try
own_none c last (Release pod) h st try = tt
own_none c last (Adopt claim status) h st try = tt

pub own_ready : (c : Run) (last : ℕ) (h : List Entry) (cmd : Command) → OwnStaged c last h cmd Ready
own_ready c last h (Apply object mode) = tt
own_ready c last h (Invalid error) = tt
own_ready c last h (Delete target) = tt
own_ready c last h (Schedule pod attempts) = tt
own_ready c last h (Release pod) = tt
own_ready c last h (Adopt claim status) = tt

pub own_looked : (c : Run) (last : ℕ) (h : List Entry) (w : Work) (st : JobState) → w.command ≡ c.command → c.from ≤ length h → last ≤ length h → OwnStaged c last h c.command (stage_by h st w.command None)
own_looked c last h w st command from le =
    let try : OwnTry c last h (length h) = record { from = from; last_is = le; within = omega arith } in
    subst (λ (x : Command). OwnStaged c last h c.command (stage_by h st x None)) (sym command) (own_none c last c.command h st try)

-- ---- the search between two turns

decided : (c : Run) (last : ℕ) (h : List Entry) (pod : Key) (seen : Snapshot) (choice : Decision) → OwnSeen c last h seen → IsDecision seen.state pod c.budget seen.at choice → OwnChosen c last h pod choice
decided c last h pod seen (Reserve plan) s d =
    let at : state_at h seen.at ≡ state_at h plan.at = ap (state_at h) (sym d.index) in
    record {
      tried = record { try = subst (OwnTry c last h) (sym d.index) s.try; by = subst (λ (t : State). PlanBy t pod c.budget plan) (s.state ∙ at) d.found };
      holds = subst (λ (t : State). PlanTrue t pod plan) (s.state ∙ at) d.holds;
    }
decided c last h pod seen (Judge verdict) s d =
    let at : state_at h seen.at ≡ state_at h verdict.at = ap (state_at h) (sym d.index) in
    record {
      tried = record { try = subst (OwnTry c last h) (sym d.index) s.try; by = subst (λ (t : State). VerdictBy t pod c.budget verdict) (s.state ∙ at) d.found };
      holds = subst (λ (t : State). VerdictTrue t pod verdict) (s.state ∙ at) d.holds;
    }

trying_thought : (c : Run) (last : ℕ) (h : List Entry) (pod : Key) (kept made : Stage) → ThoughtOf c.budget pod kept made → OwnTrying c last h pod kept → OwnTrying c last h pod made
trying_thought c last h pod Ready made t s = subst (OwnTrying c last h pod) (sym t) tt
trying_thought c last h pod (Seen seen) made t s = pick (is_idle_pod seen.state pod) refl
  where
    pick : (b : Bool) → is_idle_pod seen.state pod ≡ b → OwnTrying c last h pod made
    pick true idle = let d = t.idle idle in subst (OwnTrying c last h pod) (sym d.is) (decided c last h pod seen d.choice s d.by)
    pick false busy = subst (OwnTrying c last h pod) (sym (t.busy busy)) tt
trying_thought c last h pod (Chosen choice) made t s = subst (OwnTrying c last h pod) (sym t) s

thought_by : (c : Run) (last : ℕ) (h : List Entry) (cmd : Command) (kept made : Stage) → Thought c.budget cmd kept made → OwnStaged c last h cmd kept → OwnStaged c last h cmd made
thought_by c last h (Apply object mode) kept made t s = tt
thought_by c last h (Invalid error) kept made t s = tt
thought_by c last h (Delete target) kept made t s = tt
thought_by c last h (Schedule pod attempts) kept made t s = trying_thought c last h pod kept made t s
thought_by c last h (Release pod) kept made t s = tt
thought_by c last h (Adopt claim status) kept made t s = tt

-- what the search makes is right where the snapshot was
pub own_thought : (c : Run) (last : ℕ) (h : List Entry) (cmd : Command) (kept made : Stage) (budget : ℕ) → cmd ≡ c.command → c.budget ≡ budget → Thought budget cmd kept made → OwnStaged c last h c.command kept → OwnStaged c last h c.command made
own_thought c last h cmd kept made budget is same t s =
    thought_by c last h c.command kept made (subst (λ (x : Command). Thought c.budget x kept made) is (subst (λ (n : ℕ). Thought n cmd kept made) (sym same) t)) s
