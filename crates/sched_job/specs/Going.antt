-- A work on its way under a lock, while others may add entries too, and how it ends.
use Rattle.std.specs.Prelude.{ℕ, ◌≡◌, ◌+◌, ◌≤◌, ◌<◌, false, List, [], ◌∷◌, ◌++◌, length, None, Option, Some, Result, OnOk, OnErr, IfOk, IsErrOf}
use mathlib.Core.List.{IsPrefix}
use Rattle.object_fields.specs.declared.key.Key.{Key}
use Rattle.cluster.specs.declared.entry.Entry.{Entry}
use Rattle.cluster.specs.declared.entry.JobState.TheVariants as job_state
use Rattle.cluster.specs.declared.plan.Plan.{Plan}
use Rattle.cluster.specs.declared.plan.Verdict.{Verdict}
use Rattle.cluster.specs.History.{state_at, job_state_of}
use Rattle.engine_ports.specs.declared.decision.Decision.{Decision}
use Rattle.engine_ports.specs.declared.decision.Decision.TheVariants.{Reserve, Judge}
use Rattle.plan_rules.specs.Plans.{PlanTrue, VerdictTrue}
use Rattle.ledger_core.specs.declared.error.LedgerError.{LedgerError}
use Rattle.ledger_core.specs.declared.error.LedgerError.TheVariants as error
use Rattle.ledger_core.specs.Ledger.{History}
use Rattle.histories.specs.Legal.{Legal}
use Rattle.ledger_core.specs.Snapshot.{Seen as Snapshot}
use Rattle.commands.specs.declared.command.Command.{Command}
use Rattle.commands.specs.declared.command.Command.TheVariants.{Apply, Invalid, Delete, Schedule, Release, Adopt}
use Rattle.turn_lock.specs.Known.{Known, entered, left}
use Rattle.sched_job.specs.declared.run.JobEnd.{JobEnd}
use Rattle.sched_job.specs.declared.run.JobEnd.TheVariants as job_end
use Rattle.sched_job.specs.declared.work.Next.{Next}
use Rattle.sched_job.specs.declared.work.Stage.{Stage}
use Rattle.sched_job.specs.declared.work.Stage.TheVariants.{Ready, Seen, Chosen}
use Rattle.sched_job.specs.declared.work.Work.{Work}
use Rattle.sched_job.specs.Moves.{answer, moved, move_of, stage_after}
use Rattle.sched_job.specs.Runs.{Running}
use Rattle.histories.specs.JobRuns.{Run, JobRun, JobBegun, is_ended}
use Rattle.sched_job.specs.Owned.{AllIn, AllMade, OwnPlan, OwnTry, OwnVerdict, last_of}

-- ---- what is kept between two turns

-- the snapshot is of the state at its index, at which an attempt may be made
pub record OwnSeen (c : Run) (last : ℕ) (h : List Entry) (seen : Snapshot) : Type 0 where
  pub try : OwnTry c last h seen.at
  pub state : seen.state ≡ state_at h seen.at

-- the plan is true at its index, and what searches within the budget find there
pub record OwnChosenPlan (c : Run) (last : ℕ) (h : List Entry) (pod : Key) (plan : Plan) : Type 0 where
  pub tried : OwnPlan c last h pod plan
  pub holds : PlanTrue (state_at h plan.at) pod plan

-- the verdict, likewise
pub record OwnChosenVerdict (c : Run) (last : ℕ) (h : List Entry) (pod : Key) (verdict : Verdict) : Type 0 where
  pub tried : OwnVerdict c last h pod verdict
  pub holds : VerdictTrue (state_at h verdict.at) pod verdict

abbrev pub OwnChosen : Run → ℕ → List Entry → Key → Decision → Type 0
OwnChosen c last h pod (Reserve plan) = OwnChosenPlan c last h pod plan
OwnChosen c last h pod (Judge verdict) = OwnChosenVerdict c last h pod verdict

abbrev pub OwnTrying : Run → ℕ → List Entry → Key → Stage → Type 0
OwnTrying c last h pod Ready = Unit {0}
OwnTrying c last h pod (Seen seen) = OwnSeen c last h seen
OwnTrying c last h pod (Chosen choice) = OwnChosen c last h pod choice

-- what is kept between two turns of the command is right, whatever others did
abbrev pub OwnStaged : Run → ℕ → List Entry → Command → Stage → Type 0
OwnStaged c last h (Apply object mode) stage = Unit {0}
OwnStaged c last h (Invalid error) stage = Unit {0}
OwnStaged c last h (Delete target) stage = Unit {0}
OwnStaged c last h (Schedule pod attempts) stage = OwnTrying c last h pod stage
OwnStaged c last h (Release pod) stage = Unit {0}
OwnStaged c last h (Adopt claim status) stage = Unit {0}

-- ---- one turn

abbrev pub history : ℕ → List Entry → History
history limit entries = record { entries = entries; limit = limit }

-- the turn found this history, which begins with the pass's front, and did what is next
pub record TookTurn (number : ℕ) (old new : Known Entry) (w w' : Work) (r : Result Next LedgerError) : Type 0 where
  pub found : List Entry
  pub begins : IsPrefix old.front found
  pub pass : new ≡ left (entered old found) new.front
  pub job : w'.job ≡ w.job
  pub command : w'.command ≡ w.command
  pub ok : OnOk r (history number new.front ≡ moved (history number found) w.job (move_of found w))
  pub stage : OnOk r (w'.stage ≡ stage_after found w)
  pub answered : IfOk r (λ next. next ≡ answer (job_state_of new.front w.job) w'.stage)
  pub err : OnErr r (new.front ≡ found)
  pub full : (n : ℕ) → IsErrOf r (error.Full n) → (length found ≡ n) × (number ≤ n)
  pub running : (c : Run) → Running c found w → Running c new.front w'
  pub legal : Legal new.front

-- ---- many turns

-- the job's run, if nobody else works on the job
pub record IsOpen (c : Run) (h : List Entry) (w : Work) : Type 0 where
  pub running : Running c h w
  pub open_yet : is_ended (job_state_of h c.job) ≡ false

-- the pass with another front, and these indices more
abbrev pub with_added : Known Entry → List Entry → List ℕ → Known Entry
with_added began front added = record { table = began.table; front = front; own = began.own ++ added; share = began.share; number = began.number; turn = None }

-- What was done with a pass since it was `began`: it saw more of the history, and has these indices more
pub record Added (c : Run) (began now : Known Entry) (added : List ℕ) : Type 0 where
  pub is : now ≡ with_added began now.front added
  pub extends : IsPrefix began.front now.front
  pub made : AllMade c now.front 0 added

-- the work is on its way
pub record Going (c : Run) (began now : Known Entry) (w : Work) : Type 0 where
  pub added : List ℕ
  pub did : Added c began now added
  pub job : w.job ≡ c.job
  pub command : w.command ≡ c.command
  pub from : c.from ≤ length now.front
  pub staged : OwnStaged c (last_of 0 added) now.front c.command w.stage
  pub alone : AllIn c.job added now.front → IsOpen c now.front w

-- ---- how it ends

-- The job's end is in the history, and if the call made each entry of the job, they are its run
pub record EndedAt (c : Run) (h : List Entry) (added : List ℕ) (index : ℕ) : Type 0 where
  pub ended : job_state_of h c.job ≡ job_state.Ended index
  pub run : AllIn c.job added h → JobRun c h

-- the history has its limit of entries; if the call made each entry of the job, the job was begun
pub record FullAt (c : Run) (h : List Entry) (added : List ℕ) (number n : ℕ) : Type 0 where
  pub count : length h ≡ n
  pub limit : number ≤ n
  pub begun : AllIn c.job added h → JobBegun c h

abbrev pub EndsBy : Run → List Entry → List ℕ → ℕ → JobEnd → Type 0
EndsBy c h added number (job_end.Ended index) = EndedAt c h added index
EndsBy c h added number (job_end.Full n) = FullAt c h added number n
EndsBy c h added number job_end.Memory = AllIn c.job added h → JobBegun c h

-- how a job ends whose turn failed
abbrev pub end_for : LedgerError → JobEnd
end_for (error.Full n) = job_end.Full n
end_for error.Memory = job_end.Memory

-- What a call did for a job with a pass: the front grew, the entries at the added indices are the job's, and so it ended
pub record Worked (c : Run) (began now : Known Entry) (end : JobEnd) : Type 0 where
  pub added : List ℕ
  pub did : Added c began now added
  pub legal : Legal now.front
  pub ends : EndsBy c now.front added now.number end
