-- Many works over one history.
use Rattle.std.proofs.Common.{ℕ, zero, suc, ◌≡◌, ◌∙◌, ◌+◌, ◌≤◌, ◌<◌, ◌++◌, List, [], ◌∷◌, Bool, true, false, cond, eqb, ◌||◌, Option, None, Some, length, get_or, drop, length-drop, refl, sym, ap, subst, arith, append-nil, append_assoc, eq-eqb}
use Rattle.std.proofs.Math.ListN.{set}
use Rattle.std.proofs.lemmas.List.{drop_more, nil_from_length}
use Rattle.std.specs.Prelude.{slice_get}
use Rattle.std.proofs.lemmas.Bool.{eqb-true}
use Rattle.std.specs.List.{list_any}
use Rattle.cluster.specs.declared.entry.Entry.{Entry}
use Rattle.cluster.specs.declared.entry.Event.{Event}
use Rattle.cluster.specs.declared.entry.Event.TheVariants.{Applied, Deleted, Reserved, Refused, Wrote, Conflict, Unreserved, Bound, VerdictGiven, Contended, Released, Adopted, Denied}
use Rattle.cluster.specs.declared.entry.JobState.{JobState}
use Rattle.cluster.specs.declared.entry.JobState.TheVariants as job_state
use Rattle.cluster.specs.Events.{job_state_after}
use Rattle.cluster.specs.History.{next_job_state, job_state_of, told}
use Rattle.ledger_core.specs.Ledger.{History}
use Rattle.commands.specs.declared.command.Command.{Command}
use Rattle.commands.specs.declared.command.Command.TheVariants.{Apply, Invalid, Delete, Schedule, Release, Adopt}
use Rattle.sched_job.specs.declared.work.Next.TheVariants as next
use Rattle.sched_job.specs.declared.work.Stage.{Stage}
use Rattle.sched_job.specs.declared.work.Stage.TheVariants.{Ready, Seen, Chosen}
use Rattle.sched_job.specs.declared.work.Work.{Work}
use Rattle.histories.specs.Histories.{Each}
use Rattle.sched_job.specs.Moves.{Fits, answer, answer_by, moved, move_of, stage_after, stage_by}
use Rattle.sched_job.specs.Runs.{Running, IsStaged, Counted}
use Rattle.histories.specs.JobRuns.{Run, JobStep, JobKept, attempts_of, is_ended}
use Rattle.sched_job.specs.Steps.{run_of, jobs_of, Differ, AllOf, Extends, AllNew, AllFit, AllRunning, AllEnds, OneTurn, Ran, Walk, Went, WentAt, Thought}
use Rattle.sched_job.proofs.Runnings.{running_fits, running_ended, staged_ready, staged_some}

-- ---- entries of other jobs

-- one more leaves a job running
abbrev pub GoesOn : Type 0
GoesOn = (c : Run) (h : List Entry) (w : Work) (e : Entry) → eqb e.job c.job ≡ false → Running c h w → Running c (h ++ e ∷ []) w

not_fresh : (st : JobState) (index : ℕ) (ev : Event) → job_state_after st index ev ≡ job_state.Fresh → ⊥
not_fresh st index (Applied object mode) e = cc
not_fresh st index (Deleted target) e = cc
not_fresh st index (Reserved pod plan) e = cc
not_fresh st index (Refused pod plan why) e = cc
not_fresh st index (Wrote pod claim seen) e = cc
not_fresh st index (Conflict pod claim had now) e = cc
not_fresh st index (Unreserved pod) e = cc
not_fresh st index (Bound pod node) e = cc
not_fresh st index (VerdictGiven pod verdict) e = cc
not_fresh st index (Contended pod failed) e = cc
not_fresh st index (Released pod) e = cc
not_fresh st index (Adopted claim status) e = cc
not_fresh st index (Denied command refusal) e = cc

fresh_pick : (b : Bool) (st : JobState) (index : ℕ) (ev : Event) → cond b (job_state_after st index ev) st ≡ job_state.Fresh → (st ≡ job_state.Fresh) × (b ≡ true → ⊥)
fresh_pick true st index ev e = absurd (not_fresh st index ev e)
fresh_pick false st index ev e = (e, λ t. cc)

fresh_from : (job : ℕ) (st : JobState) (n : ℕ) (before es : List Entry) → told (next_job_state job) st n es ≡ job_state.Fresh → (st ≡ job_state.Fresh) × Each (λ b d. d.job ≡ job → ⊥) before es
unfolding told Each
fresh_from job st n before [] e = (e, tt)
fresh_from job st n before (d ∷ ds) e =
    let r = fresh_from job (next_job_state job st (n + 1) d) (n + 1) (before ++ d ∷ []) ds e in
    let p = fresh_pick (eqb d.job job) st (n + 1) d.event r.0 in
    (p.0, (λ mine. p.1 (eq-eqb d.job job mine), r.1))

kept_from : (c : Run) (before es : List Entry) → Each (λ b d. d.job ≡ c.job → ⊥) before es → Each (λ b d. d.job ≡ c.job → JobStep c b d.event) before es
unfolding Each
kept_from c before [] each = tt
kept_from c before (e ∷ es) each = (λ mine. absurd (each.0 mine), kept_from c (before ++ e ∷ []) es each.1)

-- a job without an entry has none
pub none_new : (job : ℕ) (h : List Entry) → job_state_of h job ≡ job_state.Fresh → Each (λ b d. d.job ≡ job → ⊥) [] h
unfolding job_state_of
none_new job h fresh = (fresh_from job job_state.Fresh 0 [] h fresh).1

-- a job without an entry has made none wrong
pub kept_new : (c : Run) (h : List Entry) → job_state_of h c.job ≡ job_state.Fresh → JobKept c h
unfolding job_state_of
kept_new c h fresh = kept_from c [] h (fresh_from c.job job_state.Fresh 0 [] h fresh).1

-- a work that is new runs
pub running_new : (budget : ℕ) (h : List Entry) (w : Work) → job_state_of h w.job ≡ job_state.Fresh → w.stage ≡ Ready → 0 < attempts_of w.command → Running (run_of (length h) budget w) h w
running_new budget h w fresh ready some = record {
  job = refl;
  command = refl;
  some = some;
  began = omega arith;
  kept = kept_new (run_of (length h) budget w) h fresh;
  count = subst (Counted w.command) (sym fresh) tt;
  staged = subst (IsStaged (run_of (length h) budget w) h w.command) (sym ready) (staged_ready (run_of (length h) budget w) h w.command);
}

pub all_new : (budget : ℕ) (h : List Entry) (ws : List Work) → AllNew h ws → AllRunning (length h) budget h ws
all_new budget h [] new = tt
all_new budget h (w ∷ ws) new = (running_new budget h w new.0 new.1 new.2, all_new budget h ws new.3)

pub ran_new : (budget : ℕ) (h : List Entry) (ws : List Work) → AllNew h ws → Ran (length h) budget (jobs_of ws) h h ws
ran_new budget h ws new = record { extends = record { added = []; now = sym (append-nil h); of_jobs = tt }; jobs_are = refl; running = all_new budget h ws new }

pub all_fit : (from budget : ℕ) (h : List Entry) (ws : List Work) → AllRunning from budget h ws → AllFit h ws
all_fit from budget h [] all = tt
all_fit from budget h (w ∷ ws) all = (running_fits (run_of from budget w) h w all.0, all_fit from budget h ws all.1)

pub all_ends : (from budget : ℕ) (h : List Entry) (ws : List Work) → AllRunning from budget h ws → AllEnds from budget h ws
all_ends from budget h [] all = tt
all_ends from budget h (w ∷ ws) all = (λ index e. running_ended (run_of from budget w) h w index all.0 e, λ e. record { kept = all.0.kept; open_yet = e }, all_ends from budget h ws all.1)

pub fit_at : (h : List Entry) (ws : List Work) (at : ℕ) (d : Work) → at < length ws → AllFit h ws → Fits h (get_or ws at d)
fit_at h [] at d lt all = absurd (omega arith)
fit_at h (w ∷ ws) zero d lt all = all.0
fit_at h (w ∷ ws) (suc at) d lt all = fit_at h ws at d (omega arith) all.1

or_false : (a b : Bool) → (a || b) ≡ false → (a ≡ false) × (b ≡ false)
or_false true b e = absurd cc
or_false false b e = (refl, e)

-- entries of one job leave another running
others_run : GoesOn → (c : Run) (j : ℕ) (w : Work) (h added : List Entry) → eqb j c.job ≡ false → AllOf (j ∷ []) added → Running c h w → Running c (h ++ added) w
others_run goes c j w h [] other of r = subst (λ (xs : List Entry). Running c xs w) (sym (append-nil h)) r
others_run goes c j w h (e ∷ es) other of r =
    let mine : e.job ≡ j = one_of e.job j of.0 in
    let next = goes c h w e (ap (λ (n : ℕ). eqb n c.job) mine ∙ other) r in
    subst (λ (xs : List Entry). Running c xs w) (append_assoc h (e ∷ []) es) (others_run goes c j w (h ++ e ∷ []) es other of.1 next)
  where
    one_of : (a b : ℕ) → list_any (eqb a) (b ∷ []) ≡ true → a ≡ b
    one_of a b t = eqb-true a b (or_true (eqb a b) t)
      where
        or_true : (x : Bool) → (x || false) ≡ true → x ≡ true
        or_true true t = refl
        or_true false t = absurd cc

-- each work but those of the job goes on
all_others : GoesOn → (from budget j : ℕ) (h h' : List Entry) (ws : List Work) → list_any (eqb j) (jobs_of ws) ≡ false → Extends (j ∷ []) h h' → AllRunning from budget h ws → AllRunning from budget h' ws
all_others goes from budget j h h' [] none ext all = tt
all_others goes from budget j h h' (w ∷ ws) none ext all =
    let p = or_false (eqb j w.job) (list_any (eqb j) (jobs_of ws)) none in
    (subst (λ (xs : List Entry). Running (run_of from budget w) xs w) (sym ext.now) (others_run goes (run_of from budget w) j w h ext.added p.0 ext.of_jobs all.0), all_others goes from budget j h h' ws p.1 ext all.1)

in_rest : (ws : List Work) (at : ℕ) (d : Work) (j : ℕ) → at < length ws → list_any (eqb j) (jobs_of ws) ≡ false → eqb j (get_or ws at d).job ≡ false
in_rest [] at d j lt none = absurd (omega arith)
in_rest (w ∷ ws) zero d j lt none = (or_false (eqb j w.job) (list_any (eqb j) (jobs_of ws)) none).0
in_rest (w ∷ ws) (suc at) d j lt none = in_rest ws at d j (omega arith) (or_false (eqb j w.job) (list_any (eqb j) (jobs_of ws)) none).1

eqb_turn : (a b : ℕ) → eqb a b ≡ false → eqb b a ≡ false
eqb_turn a b e = pick (eqb b a) refl
  where
    pick : (x : Bool) → eqb b a ≡ x → eqb b a ≡ false
    pick true t = absurd (let s : eqb a b ≡ true = eq-eqb a b (sym (eqb-true b a t)) in cc)
    pick false t = t

-- the works after one of them has moved
all_moved : GoesOn → (from budget : ℕ) (h h' : List Entry) (ws : List Work) (at : ℕ) (d w' : Work) → at < length ws → Differ (jobs_of ws) → Extends ((get_or ws at d).job ∷ []) h h' → w'.job ≡ (get_or ws at d).job → w'.command ≡ (get_or ws at d).command
    → ((c : Run) → c.budget ≡ budget → Running c h (get_or ws at d) → Running c h' w') → AllRunning from budget h ws → AllRunning from budget h' (set ws at w')
all_moved goes from budget h h' [] at d w' lt differ ext job command moves all = absurd (omega arith)
all_moved goes from budget h h' (w ∷ ws) zero d w' lt differ ext job command moves all =
    (subst (λ (c : Run). Running c h' w') (ap (λ (n : ℕ). record { job = n; command = w.command; from = from; budget = budget }) (sym job) ∙ ap (λ x. record { job = w'.job; command = x; from = from; budget = budget }) (sym command)) (moves (run_of from budget w) refl all.0), all_others goes from budget w.job h h' ws differ.0 ext all.1)
all_moved goes from budget h h' (w ∷ ws) (suc at) d w' lt differ ext job command moves all = (
  subst (λ (xs : List Entry). Running (run_of from budget w) xs w) (sym ext.now)
      (others_run goes (run_of from budget w) (get_or ws at d).job w h ext.added (eqb_turn w.job (get_or ws at d).job (in_rest ws at d w.job (omega arith) differ.0)) ext.of_jobs all.0),
  all_moved goes from budget h h' ws at d w' (omega arith) differ.1 ext job command moves all.1,
)

jobs_moved : (ws : List Work) (at : ℕ) (d w' : Work) → at < length ws → w'.job ≡ (get_or ws at d).job → jobs_of (set ws at w') ≡ jobs_of ws
jobs_moved [] at d w' lt job = absurd (omega arith)
jobs_moved (w ∷ ws) zero d w' lt job = ap (λ (n : ℕ). n ∷ jobs_of ws) job
jobs_moved (w ∷ ws) (suc at) d w' lt job = ap (λ (js : List ℕ). w.job ∷ js) (jobs_moved ws at d w' (omega arith) job)

any_at : (ws : List Work) (at : ℕ) (d : Work) → at < length ws → list_any (eqb (get_or ws at d).job) (jobs_of ws) ≡ true
any_at [] at d lt = absurd (omega arith)
any_at (w ∷ ws) zero d lt = ap (λ (b : Bool). b || list_any (eqb w.job) (jobs_of ws)) (eq-eqb w.job w.job refl)
any_at (w ∷ ws) (suc at) d lt = or_right (eqb (get_or ws at d).job w.job) (list_any (eqb (get_or ws at d).job) (jobs_of ws)) (any_at ws at d (omega arith))
  where
    or_right : (a b : Bool) → b ≡ true → (a || b) ≡ true
    or_right true b e = refl
    or_right false b e = e

pub all_of_append : (jobs : List ℕ) (xs ys : List Entry) → AllOf jobs xs → AllOf jobs ys → AllOf jobs (xs ++ ys)
all_of_append jobs [] ys a b = b
all_of_append jobs (x ∷ xs) ys a b = (a.0, all_of_append jobs xs ys a.1 b)

all_of_one : (jobs : List ℕ) (j : ℕ) (es : List Entry) → list_any (eqb j) jobs ≡ true → AllOf (j ∷ []) es → AllOf jobs es
all_of_one jobs j [] is of = tt
all_of_one jobs j (e ∷ es) is of = (ap (λ (n : ℕ). list_any (eqb n) jobs) (one_is e.job j of.0) ∙ is, all_of_one jobs j es is of.1)
  where
    or_is : (x : Bool) → (x || false) ≡ true → x ≡ true
    or_is true t = refl
    or_is false t = absurd cc

    one_is : (a b : ℕ) → list_any (eqb a) (b ∷ []) ≡ true → a ≡ b
    one_is a b t = eqb-true a b (or_is (eqb a b) t)

extends_more : (jobs : List ℕ) (j : ℕ) (h0 h h' : List Entry) → list_any (eqb j) jobs ≡ true → Extends jobs h0 h → Extends (j ∷ []) h h' → Extends jobs h0 h'
extends_more jobs j h0 h h' is a b = record {
  added = a.added ++ b.added;
  now = b.now ∙ ap (λ (xs : List Entry). xs ++ b.added) a.now ∙ append_assoc h0 a.added b.added;
  of_jobs = all_of_append jobs a.added b.added a.of_jobs (all_of_one jobs j b.added is b.of_jobs);
}

-- one step of one of the works
pub ran_moved : GoesOn → (from budget : ℕ) (jobs : List ℕ) (h0 h h' : List Entry) (ws : List Work) (at : ℕ) (d w' : Work) → at < length ws → Differ jobs → Extends ((get_or ws at d).job ∷ []) h h' → w'.job ≡ (get_or ws at d).job → w'.command ≡ (get_or ws at d).command
    → ((c : Run) → c.budget ≡ budget → Running c h (get_or ws at d) → Running c h' w') → Ran from budget jobs h0 h ws → Ran from budget jobs h0 h' (set ws at w')
ran_moved goes from budget jobs h0 h h' ws at d w' lt differ ext job command moves ran = record {
  extends = extends_more jobs (get_or ws at d).job h0 h h' (subst (λ (js : List ℕ). list_any (eqb (get_or ws at d).job) js ≡ true) ran.jobs_are (any_at ws at d lt)) ran.extends ext;
  jobs_are = jobs_moved ws at d w' lt job ∙ ran.jobs_are;
  running = all_moved goes from budget h h' ws at d w' lt (subst Differ (sym ran.jobs_are) differ) ext job command moves ran.running;
}

-- at most one entry of the job
pub extends_by : (H H' : History) (j : ℕ) (o : Option Event) → H' ≡ moved H j o → Extends (j ∷ []) H.entries H'.entries
extends_by H H' j None now = record { added = []; now = ap (λ (x : History). x.entries) now ∙ sym (append-nil H.entries); of_jobs = tt }
extends_by H H' j (Some ev) now = record { added = record { job = j; event = ev } ∷ []; now = ap (λ (x : History). x.entries) now; of_jobs = (ap (λ (b : Bool). b || false) (eq-eqb j j refl), tt) }

pub extends_same : (H H' : History) (j : ℕ) → H' ≡ H → Extends (j ∷ []) H.entries H'.entries
extends_same H H' j now = extends_by H H' j None now

-- one step, and those that follow
pub walk_step : (budget : ℕ) (steps : List ℕ) (i turns made : ℕ) (H0 H H1 : History) (ws0 ws ws1 : List Work) → i < length steps → WentAt budget H H1 ws ws1 (get_or steps i 0) made
    → ((H' : History) (ws' : List Work) (n : ℕ) → Walk budget (drop i steps) H ws H' ws' n → Walk budget steps H0 ws0 H' ws' (turns + n))
    → (H' : History) (ws' : List Work) (n : ℕ) → Walk budget (drop (i + 1) steps) H1 ws1 H' ws' n → Walk budget steps H0 ws0 H' ws' (turns + made + n)
walk_step budget steps i turns made H0 H H1 ws0 ws ws1 lt went before H' ws' n rest =
    let here : drop i steps ≡ get_or steps i 0 ∷ drop (i + 1) steps = drop_more steps i 0 lt in
    let all : Walk budget (drop i steps) H ws H' ws' (made + n) = subst (λ (xs : List ℕ). Walk budget xs H ws H' ws' (made + n)) (sym here) (H1, ws1, made, n, went, rest, refl) in
    subst (λ (k : ℕ). Walk budget steps H0 ws0 H' ws' k) (omega arith) (before H' ws' (made + n) all)

pub walk_end : (budget : ℕ) (steps : List ℕ) (i turns : ℕ) (H0 H : History) (ws0 ws : List Work) → length steps ≤ i
    → ((H' : History) (ws' : List Work) (n : ℕ) → Walk budget (drop i steps) H ws H' ws' n → Walk budget steps H0 ws0 H' ws' (turns + n)) → Walk budget steps H0 ws0 H ws turns
walk_end budget steps i turns H0 H ws0 ws le before =
    let over : drop i steps ≡ [] = nil_from_length (drop i steps) (omega (arith, length-drop i steps)) in
    let all : Walk budget (drop i steps) H ws H ws 0 = subst (λ (xs : List ℕ). Walk budget xs H ws H ws 0) (sym over) (refl, refl, refl) in
    subst (λ (k : ℕ). Walk budget steps H0 ws0 H ws k) (omega arith) (before H ws 0 all)

pub get_there : (ws : List Work) (at : ℕ) (d : Work) → at < length ws → slice_get ws at ≡ Some (get_or ws at d)
get_there [] at d lt = absurd (omega arith)
get_there (w ∷ ws) zero d lt = refl
get_there (w ∷ ws) (suc at) d lt = get_there ws at d (omega arith)

pub walk_start : (budget : ℕ) (steps : List ℕ) (H H' : History) (ws ws' : List Work) (n : ℕ) → Walk budget (drop 0 steps) H ws H' ws' n → Walk budget steps H ws H' ws' (0 + n)
walk_start budget steps H H' ws ws' n walk = subst (λ (k : ℕ). Walk budget steps H ws H' ws' k) (omega arith) walk

-- ---- the search after a turn

thought_ready : (budget : ℕ) (cmd : Command) → Thought budget cmd Ready Ready
thought_ready budget (Apply object mode) = refl
thought_ready budget (Invalid error) = refl
thought_ready budget (Delete target) = refl
thought_ready budget (Schedule pod attempts) = refl
thought_ready budget (Release pod) = refl
thought_ready budget (Adopt claim status) = refl

thought_unseen : (budget : ℕ) (cmd : Command) (kept : Stage) → answer_by kept ≡ next.Again → Thought budget cmd kept kept
thought_unseen budget cmd Ready e = thought_ready budget cmd
thought_unseen budget cmd (Seen seen) e = absurd cc
thought_unseen budget (Apply object mode) (Chosen choice) e = refl
thought_unseen budget (Invalid error) (Chosen choice) e = refl
thought_unseen budget (Delete target) (Chosen choice) e = refl
thought_unseen budget (Schedule pod attempts) (Chosen choice) e = refl
thought_unseen budget (Release pod) (Chosen choice) e = refl
thought_unseen budget (Adopt claim status) (Chosen choice) e = refl

again_by : (st : JobState) (kept : Stage) → answer st kept ≡ next.Again → answer_by kept ≡ next.Again
again_by job_state.Fresh kept e = e
again_by (job_state.Reserved k) kept e = e
again_by (job_state.Conflicted k) kept e = e
again_by (job_state.Failed k) kept e = e
again_by (job_state.Ended p) kept e = absurd cc

not_ended_by : (kept : Stage) (p : ℕ) → answer_by kept ≡ next.Ended p → ⊥
not_ended_by Ready p e = cc
not_ended_by (Seen seen) p e = cc
not_ended_by (Chosen choice) p e = cc

ended_by : (st : JobState) (kept : Stage) (p : ℕ) → answer st kept ≡ next.Ended p → is_ended st ≡ false → ⊥
ended_by job_state.Fresh kept p e open_yet = not_ended_by kept p e
ended_by (job_state.Reserved k) kept p e open_yet = not_ended_by kept p e
ended_by (job_state.Conflicted k) kept p e open_yet = not_ended_by kept p e
ended_by (job_state.Failed k) kept p e open_yet = not_ended_by kept p e
ended_by (job_state.Ended q) kept p e open_yet = cc

-- where a turn is followed by another one, no search is next
pub thought_again : (budget : ℕ) (st : JobState) (cmd : Command) (kept made : Stage) → answer st made ≡ next.Again → made ≡ kept → Thought budget cmd kept made
thought_again budget st cmd kept made e is = subst (λ (x : Stage). Thought budget cmd x made) is (thought_unseen budget cmd made (again_by st made e))

-- nor where the turn ended the job
pub thought_ended : (budget : ℕ) (H H' : History) (w : Work) (made : Stage) (p : ℕ) (o : Option Event) → move_of H.entries w ≡ o → H' ≡ moved H w.job o → made ≡ stage_by H.entries (job_state_of H.entries w.job) w.command o → is_ended (job_state_of H.entries w.job) ≡ false
    → answer (job_state_of H'.entries w.job) made ≡ next.Ended p → Thought budget w.command (stage_after H.entries w) made
thought_ended budget H H' w made p None is now kept open_yet e =
    absurd (ended_by (job_state_of H'.entries w.job) made p e (ap (λ (x : History). is_ended (job_state_of x.entries w.job)) now ∙ open_yet))
thought_ended budget H H' w made p (Some ev) is now kept open_yet e =
    let ready : stage_by H.entries (job_state_of H.entries w.job) w.command (Some ev) ≡ Ready = staged_some H.entries (job_state_of H.entries w.job) w.command ev in
    let after : stage_after H.entries w ≡ Ready = ap (λ (o : Option Event). stage_by H.entries (job_state_of H.entries w.job) w.command o) is ∙ ready in
    subst (λ (x : Stage). Thought budget w.command x made) (sym after) (subst (λ (x : Stage). Thought budget w.command Ready x) (sym (kept ∙ ready)) (thought_ready budget w.command))

think_by : (st : JobState) (kept : Stage) → answer st kept ≡ next.Think → is_ended st ≡ false
think_by job_state.Fresh kept e = refl
think_by (job_state.Reserved k) kept e = refl
think_by (job_state.Conflicted k) kept e = refl
think_by (job_state.Failed k) kept e = refl
think_by (job_state.Ended p) kept e = absurd cc

-- where a search is next, the job hasn't ended
pub think_open : (st : JobState) (kept : Stage) → answer st kept ≡ next.Think → is_ended st ≡ false
think_open st kept e = think_by st kept e

-- ---- one step

not_both : (b : Bool) {X : Type 0} → b ≡ true → b ≡ false → X
not_both true a b = absurd cc
not_both false a b = absurd cc

-- a work whose job hasn't ended makes one turn
pub went_turned : (budget : ℕ) (H H' : History) (w w' : Work) → is_ended (job_state_of H.entries w.job) ≡ false → OneTurn budget H H' w w' → Went budget H H' w w' 1
went_turned budget H H' w w' open_yet one = record { over = λ e. not_both (is_ended (job_state_of H.entries w.job)) e open_yet; turned = λ _. (one, refl) }

pub moved_limit : (H H' : History) (j : ℕ) (o : Option Event) → H' ≡ moved H j o → H'.limit ≡ H.limit
moved_limit H H' j None now = ap (λ (x : History). x.limit) now
moved_limit H H' j (Some ev) now = ap (λ (x : History). x.limit) now
