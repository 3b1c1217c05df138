-- A job that runs alone comes to its end.
use Rattle.std.proofs.Common.{ℕ, ◌≡◌, ◌∙◌, ◌+◌, ◌≤◌, ◌<◌, ◌++◌, List, [], ◌∷◌, true, false, Option, None, Some, length, refl, sym, ap, subst, arith, length-append, append_assoc}
use Rattle.std.specs.Prelude.{Result, Ok, Err, OnErr}
use Rattle.object_fields.specs.declared.key.Key.{Key}
use Rattle.cluster.specs.declared.entry.Entry.{Entry}
use Rattle.cluster.specs.declared.entry.Event.{Event}
use Rattle.cluster.specs.declared.entry.JobState.{JobState}
use Rattle.cluster.specs.declared.entry.JobState.TheVariants as job_state
use Rattle.cluster.specs.History.{state_of, job_state_of}
use Rattle.engine_ports.specs.declared.decision.Decision.{Decision}
use Rattle.plan_rules.specs.Idle.{is_idle_pod}
use Rattle.ledger_core.specs.Ledger.{History}
use Rattle.histories.specs.Legal.{Legal}
use Rattle.commands.specs.declared.command.Command.{Command}
use Rattle.commands.specs.declared.command.Command.TheVariants.{Apply, Invalid, Delete, Schedule, Release, Adopt}
use Rattle.sched_job.specs.declared.work.Stage.{Stage}
use Rattle.sched_job.specs.declared.work.Stage.TheVariants.{Ready, Seen, Chosen}
use Rattle.sched_job.specs.declared.work.Work.{Work}
use Rattle.sched_job.specs.Moves.{chosen_event, looked, moved, move_of, stage_after, stage_by}
use Rattle.sched_job.specs.Runs.{Running}
use Rattle.histories.specs.JobRuns.{Run, is_ended}
use Rattle.sched_job.specs.Steps.{Extends, Thought}
use Rattle.sched_job.specs.Turns.{waits}
use Rattle.sched_job.proofs.Stepping.{all_of_append}

-- the facts of turns that append nothing
pub record MovesOn : Type 0 where
  pub thinks : (c : Run) (h : List Entry) (w : Work) → Legal h → Running c h w → is_ended (job_state_of h w.job) ≡ false → move_of h w ≡ None → stage_after h w ≡ looked h
  pub idle : (c : Run) (h : List Entry) (w : Work) (pod : Key) (attempts : ℕ) → w.command ≡ Schedule pod attempts → Legal h → Running c h w → is_ended (job_state_of h w.job) ≡ false → move_of h w ≡ None → is_idle_pod (state_of h) pod ≡ true
  pub acts : (c : Run) (h : List Entry) (w : Work) (pod : Key) (attempts : ℕ) (choice : Decision) → w.command ≡ Schedule pod attempts → w.stage ≡ Chosen choice → Running c h w → move_of h w ≡ Some (chosen_event (state_of h) pod choice)

-- a search over a snapshot in which the pod is Idle
search_ends : (budget : ℕ) (h : List Entry) (pod : Key) (attempts : ℕ) (made : Stage) → is_idle_pod (state_of h) pod ≡ true → Thought budget (Schedule pod attempts) (looked h) made → waits made ≡ 0
search_ends budget h pod attempts made idle t = let d = t.idle idle in ap waits d.is

pub same_kept : {X : Type 0} (h : List Entry) → Ready ≡ looked h → X
same_kept h e = absurd cc

-- what is kept of a turn without an entry, by the command
pub after_none : MovesOn → (c : Run) (h : List Entry) (w : Work) (cmd : Command) → w.command ≡ cmd → Legal h → Running c h w → is_ended (job_state_of h w.job) ≡ false → move_of h w ≡ None → stage_by h (job_state_of h w.job) cmd None ≡ looked h
after_none m c h w cmd is legal r open_yet none =
    sym (ap (λ (o : Option Event). stage_by h (job_state_of h w.job) w.command o) none ∙ ap (λ (x : Command). stage_by h (job_state_of h w.job) x None) is) ∙ m.thinks c h w legal r open_yet none

searched_less : MovesOn → (budget : ℕ) (c : Run) (h : List Entry) (w : Work) (pod : Key) (attempts : ℕ) (kept made : Stage) → w.stage ≡ kept → w.command ≡ Schedule pod attempts → Running c h w → move_of h w ≡ None → waits made ≡ 0 → waits made < waits kept
searched_less m budget c h w pod attempts Ready made at is r none e = omega arith
searched_less m budget c h w pod attempts (Seen seen) made at is r none e = omega arith
searched_less m budget c h w pod attempts (Chosen choice) made at is r none e = absurd (let s = m.acts c h w pod attempts choice is at r in some_none (chosen_event (state_of h) pod choice) (sym s ∙ none))
  where
    some_none : (x : Event) → Some x ≡ None → ⊥
    some_none x e = cc

-- a turn without an entry, with the search after it
pub less_none : MovesOn → (budget : ℕ) (c : Run) (h : List Entry) (w : Work) (cmd : Command) (made : Stage) → w.command ≡ cmd → Legal h → Running c h w → is_ended (job_state_of h w.job) ≡ false → move_of h w ≡ None
    → Thought budget cmd (stage_after h w) made → waits made < waits w.stage
less_none m budget c h w (Apply object mode) made is legal r open_yet none t = same_kept h (after_none m c h w (Apply object mode) is legal r open_yet none)
less_none m budget c h w (Invalid error) made is legal r open_yet none t = same_kept h (after_none m c h w (Invalid error) is legal r open_yet none)
less_none m budget c h w (Delete target) made is legal r open_yet none t = same_kept h (after_none m c h w (Delete target) is legal r open_yet none)
less_none m budget c h w (Schedule pod attempts) made is legal r open_yet none t =
    let looks : stage_after h w ≡ looked h = m.thinks c h w legal r open_yet none in
    let found : Thought budget (Schedule pod attempts) (looked h) made = subst (λ (x : Stage). Thought budget (Schedule pod attempts) x made) looks t in
    searched_less m budget c h w pod attempts w.stage made refl is r none (search_ends budget h pod attempts made (m.idle c h w pod attempts is legal r open_yet none) found)
less_none m budget c h w (Release pod) made is legal r open_yet none t = same_kept h (after_none m c h w (Release pod) is legal r open_yet none)
less_none m budget c h w (Adopt claim status) made is legal r open_yet none t = same_kept h (after_none m c h w (Adopt claim status) is legal r open_yet none)

-- a turn appends at most one entry
pub moved_length : (H H' : History) (j : ℕ) (o : Option Event) → H' ≡ moved H j o → length H'.entries ≤ length H.entries + 1
moved_length H H' j None now = let same : length H'.entries ≡ length H.entries = ap (λ (x : History). length x.entries) now in omega arith
moved_length H H' j (Some ev) now =
    let entries : H'.entries ≡ H.entries ++ record { job = j; event = ev } ∷ [] = ap (λ (x : History). x.entries) now in
    let longer : length H'.entries ≡ length H.entries + 1 = ap length entries ∙ omega (arith, length-append H.entries (record { job = j; event = ev } ∷ [])) in omega arith

-- entries of one job, and more of it
pub extends_join : (jobs : List ℕ) (h h1 h2 : List Entry) → Extends jobs h h1 → Extends jobs h1 h2 → Extends jobs h h2
extends_join jobs h h1 h2 a b = record {
  added = a.added ++ b.added;
  now = b.now ∙ ap (λ (xs : List Entry). xs ++ b.added) a.now ∙ append_assoc h a.added b.added;
  of_jobs = all_of_append jobs a.added b.added a.of_jobs b.of_jobs;
}

pub open_by : (st : JobState) → ((p : ℕ) → st ≡ job_state.Ended p → ⊥) → is_ended st ≡ false
open_by job_state.Fresh never = refl
open_by (job_state.Reserved k) never = refl
open_by (job_state.Conflicted k) never = refl
open_by (job_state.Failed k) never = refl
open_by (job_state.Ended p) never = absurd (never p refl)

-- a fact is one of an error
pub on_err : {T E P : Type 0} (r : Result T E) → P → OnErr r P
on_err (Ok x) p = tt
on_err (Err e) p = p
