-- Why a run has its status.
use Rattle.std.proofs.Common.{ℕ, ◌≡◌, ◌⊎◌, List, subst}
use Rattle.std.specs.Prelude.{Option, None, Some}
use Rattle.dra_ports.specs.Causes.{Rose}
use Rattle.dra_ports.specs.DiskContent.{Content}
use Rattle.prepare_core.specs.declared.driver.DriverCall.{DriverCall}
use Rattle.replay_core.specs.Causes.{EndsBy, FindsNone, HasNoRoom, IsFaultless, MayOpen, ReachesFirst, ReachesLimit}
use Rattle.replay_core.specs.Kubelet.{Node, node_with}
use Rattle.replay_core.specs.Replay.{Ends, EndsSo}
use Rattle.replay_core.specs.Script.{script_of}
use Rattle.replay_core.specs.declared.options.ReplayOptions.{ReplayOptions}
use Rattle.replay_core.specs.declared.status.Status.{Status}
use Rattle.replay_core.specs.declared.status.Status.TheVariants as status
use Rattle.dra_cli.specs.Causes.{IsQuiet}
use Rattle.dra_cli.specs.declared.task.Task.{Task}
use Rattle.dra_cli.specs.declared.task.Task.TheVariants.{Replay}
use Rattle.dra_cli.proofs.Tasks.{same_options}

abbrev CompleteLaw : Type 0
CompleteLaw = (options : ReplayOptions) (bytes : List ℕ) (left_now before after : Option (List ℕ)) (found now : Node) (s : Status)
    → Ends options (Some bytes) left_now before after found now s → IsFaultless s → (ReachesLimit options bytes → ⊥) → MayOpen options bytes found.content → EndsBy (script_of options.attempts bytes).ending s ⊎ (s ≡ status.Memory)

abbrev LimitLaw : Type 0
LimitLaw = (options : ReplayOptions) (bytes : List ℕ) (left_now before after : Option (List ℕ)) (found now : Node) (s : Status)
    → Ends options (Some bytes) left_now before after found now s → IsFaultless s → HasNoRoom options bytes → MayOpen options bytes found.content → (s ≡ status.Limit options.entries) ⊎ (s ≡ status.Memory)

abbrev CheckpointLaw : Type 0
CheckpointLaw = (options : ReplayOptions) (bytes : List ℕ) (left_now before after : Option (List ℕ)) (found now : Node) (s : Status) (at : ℕ)
    → Ends options (Some bytes) left_now before after found now s → IsFaultless s → FindsNone options bytes at found.content → (ReachesFirst options bytes → ⊥) → (s ≡ status.Checkpoint at) ⊎ (s ≡ status.Memory)

-- how a replay ended, and that each error that ended it was counted
pub record Ended (options : ReplayOptions) (left left_now before after : Option (List ℕ)) (disk disk_now : Option Content) (calls calls_now : Option (List DriverCall)) (faults faults_now : ℕ) (reads reads_now writes writes_now disks disks_now : ℕ) (s : Status) : Type 0 where
  pub ends : EndsSo options left left_now before after disk disk_now calls calls_now faults faults_now s
  pub of_read : s ≡ status.Read → Rose reads reads_now
  pub of_write : s ≡ status.Write → Rose writes writes_now
  pub of_disk : s ≡ status.Disk → Rose disks disks_now

module _ (asked read : Option Task) (task : Task) (options : ReplayOptions) (is : read ≡ asked) (some : read ≡ Some task) (replay : task ≡ Replay options)
    (left left_now before after : Option (List ℕ)) (disk disk_now : Option Content) (calls calls_now : Option (List DriverCall)) (faults faults_now reads reads_now writes writes_now disks disks_now : ℕ) (s : Status)
    (e : Ended options left left_now before after disk disk_now calls calls_now faults faults_now reads reads_now writes writes_now disks disks_now s) where
  ends : (o : ReplayOptions) (bytes : List ℕ) → asked ≡ Some (Replay o) → left ≡ Some bytes → Ends o (Some bytes) left_now before after (node_with None disk calls faults) (node_with e.ends.table disk_now calls_now faults_now) s
  ends o bytes asks input =
      subst (λ (x : Option (List ℕ)). Ends o x left_now before after (node_with None disk calls faults) (node_with e.ends.table disk_now calls_now faults_now) s) input
      (subst (λ (x : ReplayOptions). Ends x left left_now before after (node_with None disk calls faults) (node_with e.ends.table disk_now calls_now faults_now) s) (same_options asked read task options is some replay o asks) e.ends.ends)

  faultless : (bytes : List ℕ) → IsQuiet bytes left reads reads_now writes writes_now disks disks_now → IsFaultless s
  faultless bytes q = record { read = λ r. q.read (e.of_read r); write = λ r. q.write (e.of_write r); disk = λ r. q.disk (e.of_disk r) }

  pub complete_so : CompleteLaw → (o : ReplayOptions) (bytes : List ℕ) → asked ≡ Some (Replay o) → IsQuiet bytes left reads reads_now writes writes_now disks disks_now → (ReachesLimit o bytes → ⊥) → MayOpen o bytes disk → EndsBy (script_of o.attempts bytes).ending s ⊎ (s ≡ status.Memory)
  complete_so law o bytes asks q = law o bytes left_now before after (node_with None disk calls faults) (node_with e.ends.table disk_now calls_now faults_now) s (ends o bytes asks q.input) (faultless bytes q)

  pub limit_so : LimitLaw → (o : ReplayOptions) (bytes : List ℕ) → asked ≡ Some (Replay o) → IsQuiet bytes left reads reads_now writes writes_now disks disks_now → HasNoRoom o bytes → MayOpen o bytes disk → (s ≡ status.Limit o.entries) ⊎ (s ≡ status.Memory)
  limit_so law o bytes asks q = law o bytes left_now before after (node_with None disk calls faults) (node_with e.ends.table disk_now calls_now faults_now) s (ends o bytes asks q.input) (faultless bytes q)

  pub checkpoint_so : CheckpointLaw → (o : ReplayOptions) (bytes : List ℕ) (at : ℕ) → asked ≡ Some (Replay o) → IsQuiet bytes left reads reads_now writes writes_now disks disks_now → FindsNone o bytes at disk → (ReachesFirst o bytes → ⊥) → (s ≡ status.Checkpoint at) ⊎ (s ≡ status.Memory)
  checkpoint_so law o bytes at asks q = law o bytes left_now before after (node_with None disk calls faults) (node_with e.ends.table disk_now calls_now faults_now) s at (ends o bytes asks q.input) (faultless bytes q)
