-- Which status a replay has that no error of the input, the output or the disk ended: by its script, by the limit of its
-- history and by the bytes of the disk. And which jobs are ended in its history.
use Rattle.std.specs.Prelude.{ℕ, ◌≡◌, ◌⊎◌, ◌+◌, ◌<◌, ◌≤◌, true, false, List, [], ◌∷◌, ◌++◌, Option, None, Some}
use Rattle.dra_ports.specs.DiskContent.{Content}
use Rattle.cluster.specs.declared.entry.Entry.{Entry}
use Rattle.cluster.specs.declared.entry.JobState.TheVariants.{Fresh}
use Rattle.cluster.specs.History.{job_state_of}
use Rattle.commands.specs.declared.given.Given.{Given}
use Rattle.histories.specs.JobRuns.{is_ended}
use Rattle.pod_prepare.specs.Opening.{IsNoJournal}
use Rattle.replay_core.specs.declared.options.ReplayOptions.{ReplayOptions}
use Rattle.replay_core.specs.declared.status.Status.{Status}
use Rattle.replay_core.specs.declared.status.Status.TheVariants as status
use Rattle.replay_core.specs.Forms.{kubelet_count}
use Rattle.replay_core.specs.Replay.{HasNone, IsPart, IsRun}
use Rattle.replay_core.specs.Script.{Ending, Clean, Cut, Bad, Long, Script, commands_of, most_input, prepend, script_of}

-- ---- the script

-- the status if all commands of a script were done, by why there are no more
abbrev pub EndsBy : Ending → Status → Type 0
EndsBy Clean s = s ≡ status.Done
EndsBy Cut s = ⊥
EndsBy (Bad at why) s = s ≡ status.Document at why
EndsBy Long s = s ≡ status.Limit most_input

-- no error of the input, the output or the disk ended the replay
pub record IsFaultless (s : Status) : Type 0 where
  pub read : s ≡ status.Read → ⊥
  pub write : s ≡ status.Write → ⊥
  pub disk : s ≡ status.Disk → ⊥

-- ---- the limit of the history

-- The first commands of the script and a part of the one after them have a history, in some order of their turns, that
-- reaches the limit: it has as many entries as it may have, and one of the jobs isn't ended.
pub record ReachesLimit (options : ReplayOptions) (bytes : List ℕ) : Type 0 where
  pub done : List (ℕ × Given)
  pub at : ℕ
  pub command : Given
  pub rest : Script
  pub script : script_of options.attempts bytes ≡ prepend (done ++ (at, command) ∷ []) rest
  pub history : List Entry
  pub part : IsPart options done command history

-- the same before the first command of the kubelet
pub record ReachesFirst (options : ReplayOptions) (bytes : List ℕ) : Type 0 where
  pub reaches : ReachesLimit options bytes
  pub before : kubelet_count (commands_of reaches.done) ≡ 0

-- all commands of the script have no history within the limit
abbrev pub HasNoRoom : ReplayOptions → List ℕ → Type 0
HasNoRoom options bytes = (h : List Entry) → IsRun options (script_of options.attempts bytes).commands h → ⊥

-- ---- the disk

-- the disk exposes its content, which isn't empty, and is no journal from this offset on
abbrev pub HoldsNone : ℕ → Option Content → Type 0
HoldsNone at None = ⊥
HoldsNone at (Some c) = IsNoJournal at c.bytes

-- the disk exposes its content, which is empty or a journal
abbrev pub HoldsJournal : Option Content → Type 0
HoldsJournal None = ⊥
HoldsJournal (Some c) = (at : ℕ) → IsNoJournal at c.bytes → ⊥

-- a script without commands of the kubelet needs no disk, and another one a disk that is empty or a journal
abbrev pub MayOpen : ReplayOptions → List ℕ → Option Content → Type 0
MayOpen options bytes disk = HasNone options.attempts (Some bytes) ⊎ HoldsJournal disk

-- the script has a command of the kubelet, which finds a disk that isn't empty, and is no journal from this offset on
pub record FindsNone (options : ReplayOptions) (bytes : List ℕ) (at : ℕ) (disk : Option Content) : Type 0 where
  pub needs : HasNone options.attempts (Some bytes) → ⊥
  pub holds : HoldsNone at disk

-- ---- jobs

-- the job has no entry, or is ended
abbrev pub IsSettled : List Entry → ℕ → Type 0
IsSettled h job = (job_state_of h job ≡ Fresh) ⊎ (is_ended (job_state_of h job) ≡ true)

-- one of so many jobs, which are numbered on from n, isn't ended
pub record HasOpen (n count : ℕ) (h : List Entry) : Type 0 where
  pub job : ℕ
  pub after : n < job
  pub within : job ≤ n + count
  pub open_yet : is_ended (job_state_of h job) ≡ false
