-- How far a replay has come.
use Rattle.std.specs.Prelude.{ℕ, ◌≡◌, ◌+◌, ◌≤◌, ◌<◌, ◌^◌, Bool, List, ◌++◌, Option, None, length}
use Rattle.std.specs.Io.KnownBytes.{Appends, Consumes}
use Rattle.cluster.specs.declared.entry.JobState.TheVariants.{Fresh}
use Rattle.cluster.specs.History.{job_state_of}
use Rattle.histories.specs.Legal.{Legal}
use Rattle.sched_job.specs.Ledgers.{History}
use Rattle.pod_prepare.specs.Words.{TellsStill}
use Rattle.replay_core.specs.Kubelet.{IsShown, Node}
use Rattle.commands.specs.declared.given.Given.{Given}
use Rattle.replay_core.specs.declared.options.ReplayOptions.{ReplayOptions}
use Rattle.replay_core.specs.declared.work.Work.{Work}
use Rattle.replay_core.specs.Forms.{count_of, kubelet_count}
use Rattle.replay_core.specs.Script.{commands_of, most_input, prepend, script_from}
use Rattle.replay_core.specs.Replay.{IsRun}

-- No job after those of the commands done has an entry yet, and each of those has one, but for some commands of the
-- kubelet. A number of these more may be done.
pub record IsReady (work : Work) (more : ℕ) : Type 0 where
  pub fresh : (job : ℕ) → work.commands < job → job_state_of work.ledger.entries job ≡ Fresh
  pub without : ℕ
  pub few : work.commands ≤ length work.ledger.entries + without
  pub room : without + more ≤ most_input + 1
  pub sound : length work.ledger.entries ≤ work.ledger.limit
  pub small : work.ledger.limit < 2 ^ 48

-- the entries are legal, and no more than there may be
pub record IsSound (h : History) : Type 0 where
  pub legal : Legal h.entries
  pub within : length h.entries ≤ h.limit

-- these commands were done, with this node left of the one that was found, and what they show is printed
pub record Standing (options : ReplayOptions) (found left : Node) (before now : Option (List ℕ)) (done : List (ℕ × Given)) (work : Work) : Type 0 where
  pub run : IsRun options done work.ledger.entries
  pub text : List ℕ
  pub shown : IsShown options.node found left (commands_of done) work.ledger.entries text
  pub still : TellsStill found.content left.content
  pub untouched : left.table ≡ None → left.content ≡ found.content
  pub count_is : work.commands ≡ count_of (commands_of done)
  pub fresh : (job : ℕ) → work.commands < job → job_state_of work.ledger.entries job ≡ Fresh
  pub few : work.commands ≤ length work.ledger.entries + kubelet_count (commands_of done)
  pub small : work.ledger.limit < 2 ^ 48
  pub printed : Appends before now text
  pub limit_is : work.ledger.limit ≡ options.entries

-- What was taken of the input up to an offset, and what was done of it: whatever follows, the script
-- is the commands done and those of what follows. Each command of the kubelet is a document of its own.
pub record Progress (options : ReplayOptions) (found left : Node) (input input_now before now : Option (List ℕ)) (at : ℕ) (work : Work) : Type 0 where
  pub taken : List ℕ
  pub consumed : Consumes input input_now taken
  pub done : List (ℕ × Given)
  pub script : (ended : Bool) (more : List ℕ) → script_from options.attempts ended 0 (taken ++ more) ≡ prepend done (script_from options.attempts ended at more)
  pub standing : Standing options found left before now done work
  pub alone : kubelet_count (commands_of done) ≤ at
