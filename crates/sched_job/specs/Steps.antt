-- Many works over one history, one step at a time.
use Rattle.std.specs.Prelude.{Some, IsSome, slice_get, slice_set, ◌+◌, ℕ, ◌≡◌, ◌<◌, true, false, List, [], ◌∷◌, ◌++◌, length, nat_eq}
use Rattle.std.specs.List.{list_any}
use Rattle.object_fields.specs.declared.key.Key.{Key}
use Rattle.cluster.specs.declared.entry.Entry.{Entry}
use Rattle.cluster.specs.declared.entry.JobState.TheVariants as job_state
use Rattle.cluster.specs.History.{job_state_of, state_of}
use Rattle.engine_ports.specs.declared.decision.Decision.{Decision}
use Rattle.engine_ports.specs.Decisions.{IsDecision}
use Rattle.plan_rules.specs.Idle.{is_idle_pod}
use Rattle.ledger_core.specs.Ledger.{History}
use Rattle.ledger_core.specs.Snapshot.{Seen as Snapshot}
use Rattle.commands.specs.declared.command.Command.{Command}
use Rattle.commands.specs.declared.command.Command.TheVariants.{Apply, Invalid, Delete, Schedule, Release, Adopt}
use Rattle.sched_job.specs.declared.work.Stage.{Stage}
use Rattle.sched_job.specs.declared.work.Stage.TheVariants.{Ready, Seen, Chosen}
use Rattle.sched_job.specs.declared.work.Work.{Work}
use Rattle.sched_job.specs.Moves.{Fits, moved, move_of, stage_after}
use Rattle.sched_job.specs.Runs.{Running}
use Rattle.histories.specs.JobRuns.{Run, JobRun, JobBegun, attempts_of, is_ended}

-- ---- the search between two turns

-- what was chosen is the decision on the pod in the snapshot's state, at its index
pub record IsDecided (seen : Snapshot) (pod : Key) (budget : ℕ) (made : Stage) : Type 0 where
  pub choice : Decision
  pub is : made ≡ Chosen choice
  pub by : IsDecision seen.state pod budget seen.at choice

-- where the pod is there and Idle in the snapshot's state, there is a decision; else the attempt begins anew
pub record IsSearched (seen : Snapshot) (pod : Key) (budget : ℕ) (made : Stage) : Type 0 where
  pub idle : is_idle_pod seen.state pod ≡ true → IsDecided seen pod budget made
  pub busy : is_idle_pod seen.state pod ≡ false → made ≡ Ready

abbrev pub ThoughtOf : ℕ → Key → Stage → Stage → Type 0
ThoughtOf budget pod Ready made = made ≡ Ready
ThoughtOf budget pod (Seen seen) made = IsSearched seen pod budget made
ThoughtOf budget pod (Chosen choice) made = made ≡ Chosen choice

-- what the search makes of what is kept between two turns of the command
abbrev pub Thought : ℕ → Command → Stage → Stage → Type 0
Thought budget (Apply object mode) stage made = made ≡ stage
Thought budget (Invalid error) stage made = made ≡ stage
Thought budget (Delete target) stage made = made ≡ stage
Thought budget (Schedule pod attempts) stage made = ThoughtOf budget pod stage made
Thought budget (Release pod) stage made = made ≡ stage
Thought budget (Adopt claim status) stage made = made ≡ stage

-- the snapshot is of the state after these entries
pub record IsNow (h : List Entry) (seen : Snapshot) : Type 0 where
  pub at : seen.at ≡ length h
  pub state : seen.state ≡ state_of h

-- so it is, if a search is next
abbrev pub IsPresent : List Entry → Stage → Type 0
IsPresent h Ready = Unit {0}
IsPresent h (Seen seen) = IsNow h seen
IsPresent h (Chosen choice) = Unit {0}

-- ---- steps

-- one turn of the work, and the search if one is next
pub record OneTurn (budget : ℕ) (H H' : History) (w w' : Work) : Type 0 where
  pub moves : H' ≡ moved H w.job (move_of H.entries w)
  pub job : w'.job ≡ w.job
  pub command : w'.command ≡ w.command
  pub stage : Thought budget w.command (stage_after H.entries w) w'.stage

-- a work whose job is ended is passed over, and another makes one turn
pub record Went (budget : ℕ) (H H' : History) (w w' : Work) (turns : ℕ) : Type 0 where
  pub over : is_ended (job_state_of H.entries w.job) ≡ true → (H' ≡ H) × (w' ≡ w) × (turns ≡ 0)
  pub turned : is_ended (job_state_of H.entries w.job) ≡ false → OneTurn budget H H' w w' × (turns ≡ 1)

-- the work at an index goes, and the others stay as they are
pub record WentAt (budget : ℕ) (H H' : History) (ws ws' : List Work) (at turns : ℕ) : Type 0 where
  pub from : Work
  pub to : Work
  pub there : slice_get ws at ≡ Some from
  pub went : Went budget H H' from to turns
  pub now : ws' ≡ slice_set ws at to

-- the works at these indexes go, in this order
abbrev pub Walk : ℕ → List ℕ → History → List Work → History → List Work → ℕ → Type 0
Walk budget [] H ws H' ws' turns = (H' ≡ H) × (ws' ≡ ws) × (turns ≡ 0)
Walk budget (i ∷ is) H ws H' ws' turns = (H1 : History) × (ws1 : List Work) × (a : ℕ) × (b : ℕ) × WentAt budget H H1 ws ws1 i a × Walk budget is H1 ws1 H' ws' b × (turns ≡ a + b)

-- a turn of one of the works appends an entry
pub record IsOneDue (h : List Entry) (ws : List Work) : Type 0 where
  pub at : ℕ
  pub work : Work
  pub there : slice_get ws at ≡ Some work
  pub due : IsSome (move_of h work)

-- ---- what all works have made

-- the run of a work that began where the history had so many entries
abbrev pub run_of : ℕ → ℕ → Work → Run
run_of from budget w = record { job = w.job; command = w.command; from = from; budget = budget }

abbrev pub jobs_of : List Work → List ℕ
jobs_of [] = []
jobs_of (w ∷ ws) = w.job ∷ jobs_of ws

-- no number comes twice
abbrev pub Differ : List ℕ → Type 0
Differ [] = Unit {0}
Differ (j ∷ js) = (list_any (nat_eq j) js ≡ false) × Differ js

-- each entry is of one of the jobs
abbrev pub AllOf : List ℕ → List Entry → Type 0
AllOf jobs [] = Unit {0}
AllOf jobs (e ∷ es) = (list_any (nat_eq e.job) jobs ≡ true) × AllOf jobs es

-- the history is the old one, followed by entries of the jobs
pub record Extends (jobs : List ℕ) (h h' : List Entry) : Type 0 where
  pub added : List Entry
  pub now : h' ≡ h ++ added
  pub of_jobs : AllOf jobs added

-- the jobs of the works have no entry yet, and at least one attempt
abbrev pub AllNew : List Entry → List Work → Type 0
AllNew h [] = Unit {0}
AllNew h (w ∷ ws) = (job_state_of h w.job ≡ job_state.Fresh) × (w.stage ≡ Ready) × (0 < attempts_of w.command) × AllNew h ws

abbrev pub AllFit : List Entry → List Work → Type 0
AllFit h [] = Unit {0}
AllFit h (w ∷ ws) = Fits h w × AllFit h ws

abbrev pub AllRunning : ℕ → ℕ → List Entry → List Work → Type 0
AllRunning from budget h [] = Unit {0}
AllRunning from budget h (w ∷ ws) = Running (run_of from budget w) h w × AllRunning from budget h ws

-- each job that is ended was run to its end, and each other one was begun
abbrev pub AllEnds : ℕ → ℕ → List Entry → List Work → Type 0
AllEnds from budget h [] = Unit {0}
AllEnds from budget h (w ∷ ws) = ((index : ℕ) → job_state_of h w.job ≡ job_state.Ended index → JobRun (run_of from budget w) h) × (is_ended (job_state_of h w.job) ≡ false → JobBegun (run_of from budget w) h) × AllEnds from budget h ws

-- What some steps did: the history extends the old one by entries of the jobs, and each work has made all of its job's.
pub record Ran (from budget : ℕ) (jobs : List ℕ) (h h' : List Entry) (ws : List Work) : Type 0 where
  pub extends : Extends jobs h h'
  pub jobs_are : jobs_of ws ≡ jobs
  pub running : AllRunning from budget h' ws
