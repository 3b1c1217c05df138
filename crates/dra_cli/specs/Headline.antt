-- What the journal that a run prints says.
use mathlib.Core.Logic.{inl, inr}
use Rattle.std.specs.Prelude.{ℕ, ◌≡◌, ◌+◌, ◌⊎◌, List, ◌∷◌, ◌++◌, Option, None, Contains}
use Rattle.object_fields.specs.declared.key.Key.{Key}
use Rattle.cluster.specs.declared.plan.Cause.TheVariants.{Budget}
use Rattle.cluster.specs.declared.plan.Passed.{Passed}
use Rattle.cluster.specs.declared.plan.Plan.{Plan}
use Rattle.cluster.specs.declared.plan.Reason.{Reason}
use Rattle.cluster.specs.declared.plan.Reason.TheVariants as reason
use Rattle.cluster.specs.declared.plan.Verdict.{Verdict}
use Rattle.cluster.specs.Held.{HeldOnce}
use Rattle.cluster.specs.declared.entry.Command.{Command}
use Rattle.cluster.specs.declared.entry.Refusal.{Refusal}
use Rattle.cluster.specs.declared.entry.Entry.{Entry}
use Rattle.cluster.specs.declared.entry.Event.TheVariants.{Reserved, Refused, VerdictGiven, Adopted, Denied}
use Rattle.histories.specs.Alone.{NeverSetBack}
use Rattle.histories.specs.Denied.{MayDeny}
use Rattle.histories.specs.Refused.{MayRefuse}
use Rattle.api_claim.specs.declared.types.ClaimStatus.{ClaimStatus}
use Rattle.cluster.specs.declared.failure.Failure.{Failure}
use Rattle.cluster.specs.History.{state_at, state_of}
use Rattle.histories.specs.Headline.{IsAdoptionOf, IsGrantOf, IsVerdictOf}
use Rattle.histories.specs.Limits.{ObjectsKept}
use Rattle.histories.specs.Users.{PodsUseClaims, UsersAreBusy}
use Rattle.commands.specs.declared.command.Command.TheVariants.{Schedule}
use Rattle.commands.specs.declared.given.Given.{Given}
use Rattle.commands.specs.declared.given.Given.TheVariants.{One}
use Rattle.replay_core.specs.declared.options.ReplayOptions.{ReplayOptions}
use Rattle.replay_core.specs.Complete.{Scheduled}
use Rattle.replay_core.specs.Forms.{count_of}
use Rattle.replay_core.specs.Kubelet.{Node, node_with}
use Rattle.replay_core.specs.Replay.{EndsAt, EndsAtCheckpoint, EndsAtKubelet, EndsDone, EndsFull, EndsRead, EndsShort, EndsShortAll, IsLines, IsPartLines, IsText}
use Rattle.replay_core.specs.Script.{Bad, Ending, Long, commands_of, most_input}
use Rattle.replay_core.specs.declared.status.Status.{Status}
use Rattle.replay_core.specs.declared.status.Status.TheVariants as status
use Rattle.dra_ports.specs.DiskContent.{Content}
use Rattle.pod_prepare.specs.Opening.{Table}
use Rattle.prepare_core.specs.declared.driver.DriverCall.{DriverCall}

-- each node whose cause is the budget was searched with this one
abbrev pub NamesBudget : ℕ → Reason → Type 0
NamesBudget budget (reason.Missing claim) = Unit {0}
NamesBudget budget (reason.Users claim) = Unit {0}
NamesBudget budget (reason.Nodes nodes) = (p : Passed) (steps : ℕ) → Contains nodes p → p.cause ≡ Budget steps → steps ≡ budget

-- Each reservation grants an allocation over the state before it, and so does each adoption; each refusal
-- carries the first failure of a plan that was true at its index. Each verdict is true at its index:
-- where it is `unsatisfiable`, no node has an allocation there, and where a node's cause is `budget`, the
-- first items of its walk, as many as the budget, are neither `Full` nor `Fault`, and there are
-- more. Each denial carries the first refusal of its command that holds in the state before it, and
-- none is because memory ran out. At no index does a device have two holders, and at each the objects
-- keep their limits, each user of a claim is a pod that is taken or bound, and such a pod uses each of
-- its claims.
pub record IsTrueHistory (budget : ℕ) (h : List Entry) : Type 0 where
  pub grants : (prefix back : List Entry) (job : ℕ) (pod : Key) (plan : Plan) → h ≡ prefix ++ record { job = job; event = Reserved pod plan } ∷ back → IsGrantOf prefix pod plan
  pub verdicts : (prefix back : List Entry) (job : ℕ) (pod : Key) (verdict : Verdict) → h ≡ prefix ++ record { job = job; event = VerdictGiven pod verdict } ∷ back → IsVerdictOf prefix pod verdict
  -- the steps of a `budget` are those of the option
  pub budgets : (prefix back : List Entry) (job : ℕ) (pod : Key) (verdict : Verdict) → h ≡ prefix ++ record { job = job; event = VerdictGiven pod verdict } ∷ back → NamesBudget budget verdict.reason
  pub refusals : (prefix back : List Entry) (job : ℕ) (pod : Key) (plan : Plan) (why : Failure) → h ≡ prefix ++ record { job = job; event = Refused pod plan why } ∷ back → MayRefuse prefix pod plan why
  pub adoptions : (prefix back : List Entry) (job : ℕ) (claim : Key) (status : ClaimStatus) → h ≡ prefix ++ record { job = job; event = Adopted claim status } ∷ back → IsAdoptionOf prefix claim status
  pub denials : (prefix back : List Entry) (job : ℕ) (command : Command) (refusal : Refusal) → h ≡ prefix ++ record { job = job; event = Denied command refusal } ∷ back → MayDeny (state_of prefix) command refusal
  pub holders : (place : ℕ) → HeldOnce (state_at h place)
  pub limits : (place : ℕ) → ObjectsKept (state_at h place)
  pub users : (place : ℕ) → UsersAreBusy (state_at h place)
  pub uses : (place : ℕ) → PodsUseClaims (state_at h place)

-- The commands were done, and their history is true. Each Schedule that is a single command is undisturbed, so none of its
-- entries is a refusal of its plan, a conflict or contended; and it is complete: if its pod is there and Idle after the
-- entries of the commands before it, the pod is bound to the first node by name that fits, or its one entry is the
-- verdict that says why not.
pub record IsTrueRun (options : ReplayOptions) (done : List (ℕ × Given)) (h : List Entry) : Type 0 where
  pub history : IsTrueHistory options.budget h
  pub schedules : (prefix back : List Given) (pod : Key) (attempts : ℕ) → commands_of done ≡ prefix ++ One (Schedule pod attempts) ∷ back → Scheduled options.budget prefix pod attempts h

-- The same of a history that ends with a part of one more command. If that is a single Schedule, it is undisturbed as far
-- as it came.
pub record IsTruePart (options : ReplayOptions) (done : List (ℕ × Given)) (c : Given) (h : List Entry) : Type 0 where
  pub run : IsTrueRun options done h
  pub undisturbed : (pod : Key) (attempts : ℕ) → c ≡ One (Schedule pod attempts) → NeverSetBack (count_of (commands_of done) + 1) h

-- ---- by status: what was printed, what the kubelet did, and that the history is true

-- all commands of the script were done, and what was written is the text of their history
pub record Replayed (options : ReplayOptions) (left before after : Option (List ℕ)) (found now : Node) : Type 0 where
  pub ends : EndsDone options left before after found now
  pub run : IsTrueRun options ends.done ends.history

-- all commands of a script that ends otherwise
pub record ReplayedTo (options : ReplayOptions) (ending : Ending) (left before after : Option (List ℕ)) (found now : Node) : Type 0 where
  pub ends : EndsAt options ending left before after found now
  pub run : IsTrueRun options ends.done ends.history

-- the commands of the documents that are whole in what was taken
pub record ReplayedRead (options : ReplayOptions) (left left_now before after : Option (List ℕ)) (found now : Node) : Type 0 where
  pub ends : EndsRead options left left_now before after found now
  pub run : IsTrueRun options ends.done ends.history

-- the commands before one of the kubelet, which the disk ended
pub record ReplayedToDisk (options : ReplayOptions) (left before after : Option (List ℕ)) (found now : Node) : Type 0 where
  pub ends : EndsAtKubelet options left before after found now
  pub run : IsTrueRun options ends.done ends.history

-- the commands before one that opened the kubelet, and found bytes that are no journal
pub record ReplayedToCheckpoint (options : ReplayOptions) (offset : ℕ) (left before after : Option (List ℕ)) (found now : Node) : Type 0 where
  pub ends : EndsAtCheckpoint options offset left before after found now
  pub run : IsTrueRun options ends.ends.done ends.ends.history

-- the commands before one that reached the limit, and a part of that one
pub record ReplayedFull (options : ReplayOptions) (count : ℕ) (left before after : Option (List ℕ)) (found now : Node) : Type 0 where
  pub ends : EndsFull options count left before after found now
  pub part : IsTruePart options ends.done ends.command ends.history

-- what a prefix was printed of
abbrev pub TrueDue : (options : ReplayOptions) (left : Option (List ℕ)) (found between : Node) (text : List ℕ) → IsLines options left found between text ⊎ (IsPartLines options left found between text ⊎ IsText options left found between text) → Type 0
TrueDue options left found between text (inl lines) = IsTrueRun options lines.done lines.history
TrueDue options left found between text (inr (inl part)) = IsTruePart options part.done part.command part.history
TrueDue options left found between text (inr (inr whole)) = IsTrueRun options whole.done whole.history

-- a prefix of such lines, or of the whole text
pub record ReplayedShort (options : ReplayOptions) (left before after : Option (List ℕ)) (found now : Node) : Type 0 where
  pub ends : EndsShort options left before after found now
  pub due : TrueDue options left found ends.between ends.text ends.due

-- the same, where all of the driver's calls are those of the commands
pub record ReplayedShortAll (options : ReplayOptions) (left before after : Option (List ℕ)) (found now : Node) : Type 0 where
  pub ends : EndsShortAll options left before after found now
  pub due : TrueDue options left found ends.ends.between ends.ends.text ends.ends.due

-- how a replay ends: what was done of the script, what was printed, what became of the node, and that the history is true
abbrev pub Replays : ReplayOptions → Option (List ℕ) → Option (List ℕ) → Option (List ℕ) → Option (List ℕ) → Node → Node → Status → Type 0
Replays options left left_now before after found now status.Done = Replayed options left before after found now
Replays options left left_now before after found now status.Usage = ⊥
Replays options left left_now before after found now (status.Document at why) = ReplayedTo options (Bad at why) left before after found now
Replays options left left_now before after found now status.Memory = ReplayedShort options left before after found now
Replays options left left_now before after found now status.Read = ReplayedRead options left left_now before after found now
Replays options left left_now before after found now status.Write = ReplayedShortAll options left before after found now
Replays options left left_now before after found now status.Disk = ReplayedToDisk options left before after found now
Replays options left left_now before after found now (status.Limit count) = ReplayedFull options count left before after found now ⊎ ((count ≡ most_input) × ReplayedTo options Long left before after found now)
Replays options left left_now before after found now (status.Checkpoint at) = ReplayedToCheckpoint options at left before after found now
Replays options left left_now before after found now status.Door = ⊥

-- The same of a disk and a driver: as they were found the kubelet isn't open, and it is open or not when the run ends.
pub record ReplaysSo (options : ReplayOptions) (left left_now before after : Option (List ℕ)) (disk disk_now : Option Content) (calls calls_now : Option (List DriverCall)) (faults faults_now : ℕ) (s : Status) : Type 0 where
  pub table : Option Table
  pub so : Replays options left left_now before after (node_with None disk calls faults) (node_with table disk_now calls_now faults_now) s
