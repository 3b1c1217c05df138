-- What doing one document does.
use Rattle.std.specs.Prelude.{ℕ, ◌≡◌, ◌⊎◌, List, [], ◌∷◌, ◌++◌, Option, Some}
use Rattle.std.specs.Io.KnownBytes.{Appends}
use Rattle.commands.specs.declared.given.Given.{Given}
use Rattle.commands.specs.Readings.{reading}
use Rattle.commands.specs.Readings as readings
use Rattle.replay_core.specs.declared.options.ReplayOptions.{ReplayOptions}
use Rattle.replay_core.specs.declared.status.Rejection.{Rejection}
use Rattle.replay_core.specs.declared.status.Status.{Status}
use Rattle.replay_core.specs.declared.status.Status.TheVariants as status
use Rattle.replay_core.specs.declared.work.Work.{Work}
use Rattle.replay_core.specs.Script.{at_each, rejection_of}
use Rattle.replay_core.specs.Kubelet.{Node}
use Rattle.replay_core.specs.Lines.{Stops}
use Rattle.replay_core.specs.Progress.{Standing}

-- these commands were done: whatever was done before them, they were done after it
pub record StandsOn (options : ReplayOptions) (commands : List (ℕ × Given)) (old new : Work) (x y : Node) (before after : Option (List ℕ)) : Type 0 where
  pub standing : (found : Node) (start : Option (List ℕ)) (done : List (ℕ × Given)) → Standing options found x start before done old → Standing options found y start after (done ++ commands) new

-- of the commands at an offset those before one were done, and why that one wasn't
pub record StoppedAmong (options : ReplayOptions) (at : ℕ) (commands : List Given) (old new : Work) (x y : Node) (before after : Option (List ℕ)) (s : Status) : Type 0 where
  pub prefix : List Given
  pub command : Given
  pub back : List Given
  pub are : commands ≡ prefix ++ command ∷ back
  pub work : Work
  pub node : Node
  pub between : Option (List ℕ)
  pub done : StandsOn options (at_each at prefix) old work x node before between
  pub stops : Stops options command work new node y between after s

-- all commands of a document were done
abbrev pub DocumentDid : ReplayOptions → ℕ → List ℕ → Work → Work → Node → Node → Option (List ℕ) → Option (List ℕ) → Type 0
DocumentDid o at document old new x y before after =
    (cs : List Given) × (reading o.attempts document ≡ readings.Asks cs) × StandsOn o (at_each at cs) old new x y before after

-- the document isn't commands
pub record IsRefused (attempts at index : ℕ) (why : Rejection) (document : List ℕ) (before after : Option (List ℕ)) : Type 0 where
  pub place_is : index ≡ at
  pub refused : rejection_of (reading attempts document) ≡ Some why
  pub printed : Appends before after []

-- why the commands of a document aren't known
abbrev pub Unread : ℕ → ℕ → List ℕ → Option (List ℕ) → Option (List ℕ) → Status → Type 0
Unread attempts at document before after status.Done = ⊥
Unread attempts at document before after status.Usage = ⊥
Unread attempts at document before after (status.Document index why) = IsRefused attempts at index why document before after
Unread attempts at document before after status.Memory = Appends before after []
Unread attempts at document before after status.Read = ⊥
Unread attempts at document before after status.Write = ⊥
Unread attempts at document before after status.Disk = ⊥
Unread attempts at document before after (status.Limit n) = ⊥
Unread attempts at document before after (status.Checkpoint index) = ⊥
Unread attempts at document before after status.Door = ⊥

-- why a document wasn't done
abbrev pub DocumentStops : ReplayOptions → ℕ → List ℕ → Work → Work → Node → Node → Option (List ℕ) → Option (List ℕ) → Status → Type 0
DocumentStops o at document old new x y before after s =
    ((y ≡ x) × (new ≡ old) × Unread o.attempts at document before after s)
    ⊎ ((cs : List Given) × (reading o.attempts document ≡ readings.Asks cs) × StoppedAmong o at cs old new x y before after s)
