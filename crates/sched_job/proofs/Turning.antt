-- Which turns append nothing, and that the turn after a search appends what was chosen.
use Rattle.std.proofs.Common.{ℕ, zero, suc, ◌≡◌, ◌∙◌, ◌<◌, ◌++◌, List, [], ◌∷◌, Bool, true, false, cond, Option, None, Some, length, refl, sym, ap, subst, arith, eq-eqb, nat_le}
use Rattle.std.proofs.lemmas.Bool.{leb-true}
use Rattle.std.specs.Prelude.{Contains, slice_index_or}
use Rattle.object_fields.specs.declared.key.Key.{Key}
use Rattle.pool_view.specs.Names.{at_key}
use Rattle.cluster.specs.declared.entry.Entry.{Entry}
use Rattle.cluster.specs.declared.entry.Event.{Event}
use Rattle.cluster.specs.declared.entry.Event.TheVariants.{Applied, Deleted, Reserved, Refused, Wrote, Conflict, Unreserved, Bound, VerdictGiven, Contended, Released, Adopted, Denied}
use Rattle.cluster.specs.declared.entry.Refusal.{Refusal}
use Rattle.cluster.specs.declared.entry.JobState.{JobState}
use Rattle.cluster.specs.declared.entry.JobState.TheVariants as job_state
use Rattle.cluster.specs.declared.state.Phase.{Phase}
use Rattle.cluster.specs.declared.state.Phase.TheVariants as phase
use Rattle.cluster.specs.declared.state.PodState.{PodState}
use Rattle.cluster.specs.declared.state.State.{State}
use Rattle.cluster.specs.Denied.{phase_refusal, schedule_refusal}
use Rattle.cluster.specs.History.{state_of, job_state_of}
use Rattle.cluster.specs.JobState.{failures, is_fresh, may_try}
use Rattle.cluster.specs.State.{is_idle}
use Rattle.engine_ports.specs.declared.decision.Decision.{Decision}
use Rattle.engine_ports.specs.declared.decision.Decision.TheVariants.{Reserve, Judge}
use Rattle.plan_rules.specs.Idle.{is_idle_by, is_idle_pod}
use Rattle.histories.specs.Legal.{Legal}
use Rattle.histories.specs.Owners.{has_pod, pod_in}
use Rattle.histories.specs.Wrote.{IsTaken}
use Rattle.sched_job.specs.declared.due.Due.{Due}
use Rattle.sched_job.specs.declared.due.Due.TheVariants as due
use Rattle.commands.specs.declared.command.Command.{Command}
use Rattle.commands.specs.declared.command.Command.TheVariants.{Apply, Invalid, Delete, Schedule, Release, Adopt}
use Rattle.sched_job.specs.declared.work.Next.TheVariants as next
use Rattle.sched_job.specs.declared.work.Stage.{Stage}
use Rattle.sched_job.specs.declared.work.Stage.TheVariants.{Ready, Seen, Chosen}
use Rattle.sched_job.specs.declared.work.Work.{Work}
use Rattle.histories.specs.Histories.{Each}
use Rattle.sched_job.specs.Moves.{answer, chosen_event, denial_by, due_by, due_for, due_of, finish_by, is_taken_by, looked, move_by, move_of, next_claim, once, schedule_move, stage_after, stage_by, taken_by, tries, try_move}
use Rattle.sched_job.specs.Runs.{IsStaged, IsTrying, Counted, Running}
use Rattle.histories.specs.JobRuns.{Run, JobKept, JobStep, attempts_of, command_of, is_ended, is_schedule}

-- ---- what the entries of a running job are about

pod_same : (p pod : Key) (a b : ℕ) → Schedule p a ≡ Schedule pod b → p ≡ pod
pod_same p pod a b e = cc

-- an entry of a command to schedule a pod is about this pod
about : (attempts n : ℕ) (pod other : Key) (ev : Event) → command_of attempts ev ≡ Schedule pod n → pod_in ev ≡ Some other → other ≡ pod
about attempts n pod other (Applied object mode) e f = absurd cc
about attempts n pod other (Deleted target) e f = absurd cc
about attempts n pod other (Reserved p plan) e f = let g : p ≡ other = cc in sym g ∙ pod_same p pod attempts n e
about attempts n pod other (Refused p plan why) e f = let g : p ≡ other = cc in sym g ∙ pod_same p pod attempts n e
about attempts n pod other (Wrote p claim seen) e f = let g : p ≡ other = cc in sym g ∙ pod_same p pod attempts n e
about attempts n pod other (Conflict p claim had now) e f = let g : p ≡ other = cc in sym g ∙ pod_same p pod attempts n e
about attempts n pod other (Unreserved p) e f = let g : p ≡ other = cc in sym g ∙ pod_same p pod attempts n e
about attempts n pod other (Bound p node) e f = let g : p ≡ other = cc in sym g ∙ pod_same p pod attempts n e
about attempts n pod other (VerdictGiven p verdict) e f = let g : p ≡ other = cc in sym g ∙ pod_same p pod attempts n e
about attempts n pod other (Contended p failed) e f = let g : p ≡ other = cc in sym g ∙ pod_same p pod attempts n e
about attempts n pod other (Released p) e f = absurd cc
about attempts n pod other (Adopted claim status) e f = absurd cc
about attempts n pod other (Denied command refusal) e f = absurd cc

-- what is said of each entry is said of each that is there, with some entries before it
each_there : (P : List Entry → Entry → Type 0) (before es : List Entry) (e : Entry) (k : ℕ) → k < length es → slice_index_or es k e ≡ e → Each P before es → (b : List Entry) × P b e
unfolding Each
each_there P before [] e k lt is each = absurd (omega arith)
each_there P before (d ∷ es) e zero lt is each = (before, subst (P before) is each.0)
each_there P before (d ∷ es) e (suc k) lt is each = each_there P (before ++ d ∷ []) es e k (omega arith) is each.1

pub of_pod : (c : Run) (h : List Entry) (pod : Key) (attempts : ℕ) → c.command ≡ Schedule pod attempts → JobKept c h → (e : Entry) (other : Key) → Contains h e → e.job ≡ c.job → pod_in e.event ≡ Some other → other ≡ pod
of_pod c h pod attempts is kept e other there mine named =
    let r = each_there (λ before d. d.job ≡ c.job → JobStep c before d.event) [] h e there.0 there.1 there.2 kept in
    about (attempts_of c.command) attempts pod other e.event ((r.1 mine).of_command ∙ is) named

-- what the ledger states about a job that has a pod
abbrev pub StaysTaken : Type 0
StaysTaken = (h : List Entry) (job : ℕ) (pod : Key) → Legal h → ((e : Entry) (other : Key) → Contains h e → e.job ≡ job → pod_in e.event ≡ Some other → other ≡ pod) → has_pod (job_state_of h job) ≡ true → (state : PodState) × ((node : List ℕ) × IsTaken (state_of h) pod job node state)

-- the pod of a job that has one
has_taken : StaysTaken → (c : Run) (h : List Entry) (pod : Key) (attempts : ℕ) → c.command ≡ Schedule pod attempts → Legal h → JobKept c h → has_pod (job_state_of h c.job) ≡ true → taken_by c.job (at_key (state_of h).pods pod) ≡ true
has_taken stays c h pod attempts is legal kept has =
    let t = stays h c.job pod legal (of_pod c h pod attempts is kept) has in
    ap (taken_by c.job) t.1.1.there ∙ ap (is_taken_by c.job) t.1.1.taken ∙ eq-eqb c.job c.job refl

-- ---- turns that append nothing

none_if : (b : Bool) (x : Event) → cond b (Some x) None ≡ None → b ≡ false
none_if true x e = absurd cc
none_if false x e = refl

finish_none : (s : State) (pod : Key) (d : Due) → finish_by s pod d ≡ None → d ≡ due.Nothing
finish_none s pod due.Nothing e = refl
finish_none s pod due.Bind e = absurd cc
finish_none s pod (due.Write claim) e = absurd cc

for_none : (o : Option Key) → due_for o ≡ due.Nothing → ⊥
for_none None e = cc
for_none (Some k) e = cc

due_none : (s : State) (job : ℕ) (pod : Key) (o : Option PodState) → due_by s job pod o ≡ due.Nothing → taken_by job o ≡ false
due_none s job pod None e = refl
due_none s job pod (Some p) e = pick (is_taken_by job p.phase) refl e
  where
    pick : (b : Bool) → is_taken_by job p.phase ≡ b → cond b (due_for (next_claim s pod p)) due.Nothing ≡ due.Nothing → is_taken_by job p.phase ≡ false
    pick true t f = absurd (for_none (next_claim s pod p) f)
    pick false t f = t

never : (b : Bool) {X : Type 0} → b ≡ true → b ≡ false → X
never true a b = absurd cc
never false a b = absurd cc

failed_none : (attempts k : ℕ) (x : Event) (o : Option Event) (b : Bool) → cond b (Some x) o ≡ None → (cond b false true ≡ true) × (o ≡ None)
failed_none attempts k x o true e = absurd cc
failed_none attempts k x o false e = (refl, e)

-- a job to schedule a pod that appends nothing begins an attempt
record Begins (attempts : ℕ) (s : State) (pod : Key) (kept : Stage) (st : JobState) : Type 0 where
  pub tries : tries attempts st ≡ true
  pub none : try_move s pod kept ≡ None

begins : StaysTaken → (c : Run) (h : List Entry) (pod : Key) (attempts : ℕ) (kept : Stage) (st : JobState) → c.command ≡ Schedule pod attempts → Legal h → JobKept c h → job_state_of h c.job ≡ st → is_ended st ≡ false
    → schedule_move (state_of h) c.job pod attempts kept st ≡ None → Begins attempts (state_of h) pod kept st
begins stays c h pod attempts kept job_state.Fresh is legal jk st_is open_yet none = record { tries = refl; none = none }
begins stays c h pod attempts kept (job_state.Reserved k) is legal jk st_is open_yet none =
    never (taken_by c.job (at_key (state_of h).pods pod)) (has_taken stays c h pod attempts is legal jk (ap has_pod st_is))
    (due_none (state_of h) c.job pod (at_key (state_of h).pods pod) (finish_none (state_of h) pod (due_of (state_of h) c.job pod) none))
begins stays c h pod attempts kept (job_state.Conflicted k) is legal jk st_is open_yet none =
    never (taken_by c.job (at_key (state_of h).pods pod)) (has_taken stays c h pod attempts is legal jk (ap has_pod st_is)) (none_if (taken_by c.job (at_key (state_of h).pods pod)) (Unreserved pod) none)
begins stays c h pod attempts kept (job_state.Failed k) is legal jk st_is open_yet none =
    let r = failed_none attempts k (Contended pod k) (try_move (state_of h) pod kept) (nat_le attempts k) none in
    record { tries = r.0; none = r.1 }
begins stays c h pod attempts kept (job_state.Ended p) is legal jk st_is open_yet none = absurd cc

-- the pod is there and Idle where no refusal holds
idle_phase : (ph : Phase) → phase_refusal ph ≡ None → is_idle ph ≡ true
idle_phase phase.Idle e = refl
idle_phase (phase.Taken job node) e = absurd cc
idle_phase (phase.Bound node) e = absurd cc

idle_pod : (o : Option PodState) → schedule_refusal o ≡ None → is_idle_by o ≡ true
idle_pod None e = absurd cc
idle_pod (Some p) e = idle_phase p.phase e

denial_none : (pod : Key) (o : Option Refusal) → denial_by pod o ≡ None → o ≡ None
denial_none pod None e = refl
denial_none pod (Some d) e = absurd cc

try_idle : (s : State) (pod : Key) (kept : Stage) → try_move s pod kept ≡ None → is_idle_pod s pod ≡ true
try_idle s pod Ready e = idle_pod (at_key s.pods pod) (denial_none pod (schedule_refusal (at_key s.pods pod)) e)
try_idle s pod (Seen seen) e = idle_pod (at_key s.pods pod) (denial_none pod (schedule_refusal (at_key s.pods pod)) e)
try_idle s pod (Chosen choice) e = absurd cc

-- a job that isn't to schedule a pod has no entry, or has ended
counted_fresh : (cmd : Command) (st : JobState) → is_schedule cmd ≡ false → Counted cmd st → is_ended st ≡ false → is_fresh st ≡ true
counted_fresh cmd job_state.Fresh other count open_yet = refl
counted_fresh cmd (job_state.Reserved k) other count open_yet = never (is_schedule cmd) count.schedules other
counted_fresh cmd (job_state.Conflicted k) other count open_yet = never (is_schedule cmd) count.schedules other
counted_fresh cmd (job_state.Failed k) other count open_yet = never (is_schedule cmd) count.schedules other
counted_fresh cmd (job_state.Ended p) other count open_yet = absurd cc

once_some : {X : Type 0} (st : JobState) (x : Event) → is_fresh st ≡ true → once st x ≡ None → X
once_some st x fresh none = never (is_fresh st) fresh (none_if (is_fresh st) x none)

-- what is kept after a turn that appends nothing is a snapshot
looked_after : StaysTaken → (c : Run) (h : List Entry) (cmd : Command) (kept : Stage) → c.command ≡ cmd → Legal h → JobKept c h → Counted cmd (job_state_of h c.job) → is_ended (job_state_of h c.job) ≡ false
    → move_by (state_of h) c.job kept (job_state_of h c.job) cmd ≡ None → stage_by h (job_state_of h c.job) cmd None ≡ looked h
looked_after stays c h (Apply object mode) kept is legal jk count open_yet none = once_some (job_state_of h c.job) _ (counted_fresh (Apply object mode) (job_state_of h c.job) refl count open_yet) none
looked_after stays c h (Invalid error) kept is legal jk count open_yet none = once_some (job_state_of h c.job) _ (counted_fresh (Invalid error) (job_state_of h c.job) refl count open_yet) none
looked_after stays c h (Delete target) kept is legal jk count open_yet none = once_some (job_state_of h c.job) _ (counted_fresh (Delete target) (job_state_of h c.job) refl count open_yet) none
looked_after stays c h (Schedule pod attempts) kept is legal jk count open_yet none =
    let b = begins stays c h pod attempts kept (job_state_of h c.job) is legal jk refl open_yet none in
    ap (λ (x : Bool). cond x (looked h) Ready) b.tries
looked_after stays c h (Release pod) kept is legal jk count open_yet none = once_some (job_state_of h c.job) _ (counted_fresh (Release pod) (job_state_of h c.job) refl count open_yet) none
looked_after stays c h (Adopt claim status) kept is legal jk count open_yet none = once_some (job_state_of h c.job) _ (counted_fresh (Adopt claim status) (job_state_of h c.job) refl count open_yet) none

-- the move of a running work, with the job's own number and command
move_is : (c : Run) (h : List Entry) (w : Work) → Running c h w → move_by (state_of h) c.job w.stage (job_state_of h c.job) c.command ≡ move_of h w
move_is c h w r = sym (ap (λ (n : ℕ). move_by (state_of h) n w.stage (job_state_of h n) w.command) r.job ∙ ap (λ (x : Command). move_by (state_of h) c.job w.stage (job_state_of h c.job) x) r.command)

pub thinks : StaysTaken → (c : Run) (h : List Entry) (w : Work) → Legal h → Running c h w → is_ended (job_state_of h w.job) ≡ false → move_of h w ≡ None → stage_after h w ≡ looked h
thinks stays c h w legal r open_yet none =
    let l = looked_after stays c h c.command w.stage refl legal r.kept r.count (sym (ap (λ (n : ℕ). is_ended (job_state_of h n)) r.job) ∙ open_yet) (move_is c h w r ∙ none) in
    ap (λ (o : Option Event). stage_by h (job_state_of h w.job) w.command o) none ∙ ap (λ (n : ℕ). stage_by h (job_state_of h n) w.command None) r.job ∙ ap (λ (x : Command). stage_by h (job_state_of h c.job) x None) r.command ∙ l

pub idles : StaysTaken → (c : Run) (h : List Entry) (w : Work) (pod : Key) (attempts : ℕ) → w.command ≡ Schedule pod attempts → Legal h → Running c h w → is_ended (job_state_of h w.job) ≡ false → move_of h w ≡ None → is_idle_pod (state_of h) pod ≡ true
idles stays c h w pod attempts is legal r open_yet none =
    let command : c.command ≡ Schedule pod attempts = sym r.command ∙ is in
    let none' : schedule_move (state_of h) c.job pod attempts w.stage (job_state_of h c.job) ≡ None = sym (ap (λ (x : Command). move_by (state_of h) c.job w.stage (job_state_of h c.job) x) command) ∙ move_is c h w r ∙ none in
    let b = begins stays c h pod attempts w.stage (job_state_of h c.job) command legal r.kept refl (sym (ap (λ (n : ℕ). is_ended (job_state_of h n)) r.job) ∙ open_yet) none' in
    try_idle (state_of h) pod w.stage b.none

seen_thinks : (st : JobState) (h : List Entry) → is_ended st ≡ false → answer st (looked h) ≡ next.Think
seen_thinks job_state.Fresh h e = refl
seen_thinks (job_state.Reserved k) h e = refl
seen_thinks (job_state.Conflicted k) h e = refl
seen_thinks (job_state.Failed k) h e = refl
seen_thinks (job_state.Ended p) h e = absurd cc

-- a turn that appends nothing says that a search is next
pub answers : StaysTaken → (c : Run) (h : List Entry) (w : Work) → Legal h → Running c h w → is_ended (job_state_of h w.job) ≡ false → move_of h w ≡ None → answer (job_state_of h w.job) (stage_after h w) ≡ next.Think
answers stays c h w legal r open_yet none = ap (answer (job_state_of h w.job)) (thinks stays c h w legal r open_yet none) ∙ seen_thinks (job_state_of h w.job) h open_yet

-- ---- the turn after a search

chosen_try : (c : Run) (h : List Entry) (pod : Key) (choice : Decision) → IsTrying c h pod (Chosen choice) → (may_try (job_state_of h c.job) ≡ true) × (failures (job_state_of h c.job) < attempts_of c.command)
chosen_try c h pod (Reserve plan) s = (s.tried.try.may, s.tried.try.left)
chosen_try c h pod (Judge verdict) s = (s.tried.try.may, s.tried.try.left)

more_left : (attempts k : ℕ) (x : Event) (o : Option Event) (b : Bool) → nat_le attempts k ≡ b → k < attempts → cond b (Some x) o ≡ o
more_left attempts k x o true t lt = absurd (let le = leb-true attempts k t in omega arith)
more_left attempts k x o false t lt = refl

chosen_moves : (s : State) (job : ℕ) (pod : Key) (attempts : ℕ) (choice : Decision) (st : JobState) → may_try st ≡ true → failures st < attempts → schedule_move s job pod attempts (Chosen choice) st ≡ Some (chosen_event s pod choice)
chosen_moves s job pod attempts choice job_state.Fresh may left = refl
chosen_moves s job pod attempts choice (job_state.Reserved k) may left = absurd cc
chosen_moves s job pod attempts choice (job_state.Conflicted k) may left = absurd cc
chosen_moves s job pod attempts choice (job_state.Failed k) may left = more_left attempts k (Contended pod k) (Some (chosen_event s pod choice)) (nat_le attempts k) refl left
chosen_moves s job pod attempts choice (job_state.Ended p) may left = absurd cc

pub acts : (c : Run) (h : List Entry) (w : Work) (pod : Key) (attempts : ℕ) (choice : Decision) → w.command ≡ Schedule pod attempts → w.stage ≡ Chosen choice → Running c h w → move_of h w ≡ Some (chosen_event (state_of h) pod choice)
acts c h w pod attempts choice is chosen r =
    let command : c.command ≡ Schedule pod attempts = sym r.command ∙ is in
    let staged : IsTrying c h pod (Chosen choice) = subst (λ (x : Stage). IsTrying c h pod x) chosen (subst (λ (x : Command). IsStaged c h x w.stage) command r.staged) in
    let t = chosen_try c h pod choice staged in
    let left : failures (job_state_of h c.job) < attempts = subst (λ (n : ℕ). failures (job_state_of h c.job) < n) (ap attempts_of command) t.1 in
    sym (move_is c h w r) ∙ ap (λ (x : Command). move_by (state_of h) c.job w.stage (job_state_of h c.job) x) command ∙ ap (λ (x : Stage). schedule_move (state_of h) c.job pod attempts x (job_state_of h c.job)) chosen
    ∙ chosen_moves (state_of h) c.job pod attempts choice (job_state_of h c.job) t.0 left
