-- What a replay promises.
use mathlib.Core.Logic.{inl, inr}
use Rattle.std.specs.Prelude.{ℕ, ◌≡◌, ◌≤◌, ◌⊎◌, true, List, [], ◌∷◌, ◌++◌, Option, None, Some, length}
use Rattle.std.specs.Io.KnownBytes.{Appends, Consumes}
use Rattle.dra_ports.specs.Prefixes.{AppendsPrefix}
use Rattle.cluster.specs.declared.entry.Entry.{Entry}
use Rattle.histories.specs.Legal.{Legal}
use Rattle.journal_text.specs.Journal.{lines_from, summary_of}
use Rattle.commands.specs.declared.given.Given.{Given}
use Rattle.replay_core.specs.declared.options.ReplayOptions.{ReplayOptions}
use Rattle.replay_core.specs.declared.status.Status.{Status}
use Rattle.replay_core.specs.declared.status.Status.TheVariants as status
use Rattle.replay_core.specs.Script.{Ending, Clean, Cut, Bad, Long, Script, commands_of, most_input, prepend, script_of, script_within}
use Rattle.replay_core.specs.Jobs.{RunOf, SegmentBegun}
use Rattle.replay_core.specs.Forms.{count_of, is_of_kubelet, kubelet_count}
use Rattle.replay_core.specs.Kubelet.{AskedOn, IsShown, Node, node_with}
use Rattle.dra_ports.specs.DiskContent.{Content}
use Rattle.prepare_core.specs.declared.driver.DriverCall.{DriverCall}
use Rattle.pod_prepare.specs.Commands.{RoseBy, failed}
use Rattle.pod_prepare.specs.Opening.{IsRefusedDisk, Table}
use Rattle.pod_prepare.specs.Words.{TellsStill}
use Rattle.commands.specs.declared.given.Given.TheVariants.{Reopen}

-- the history is legal, the run of the commands, and has at most so many entries
pub record IsRun (options : ReplayOptions) (done : List (ℕ × Given)) (h : List Entry) : Type 0 where
  pub within : length h ≤ options.entries
  pub legal : Legal h
  pub run : RunOf options.budget (commands_of done) h

-- The history is legal, and the run of the commands and then of a part of one more: of each of its jobs the whole run or a
-- part of it, and one of them isn't ended. It has exactly as many entries as it may have.
pub record IsPart (options : ReplayOptions) (done : List (ℕ × Given)) (c : Given) (h : List Entry) : Type 0 where
  pub before : List Entry
  pub segment : List Entry
  pub is : h ≡ before ++ segment
  pub legal : Legal h
  pub run : RunOf options.budget (commands_of done) before
  pub begun : SegmentBegun (count_of (commands_of done)) c options.budget before segment
  pub full : options.entries ≡ length h

-- what the script is, where the input exposes its contents
abbrev pub Tells : ReplayOptions → Option (List ℕ) → Script → Type 0
Tells options left script = (bytes : List ℕ) → left ≡ Some bytes → script_of options.attempts bytes ≡ script

-- what the script begins with, where the input exposes its contents
abbrev pub TellsFirst : ReplayOptions → Option (List ℕ) → List (ℕ × Given) → Type 0
TellsFirst options left done = (bytes : List ℕ) → left ≡ Some bytes → (rest : Script) × (script_of options.attempts bytes ≡ prepend done rest)

-- The commands were done, with this history, and what they show is this text: command by command the lines of its entries,
-- or those of the kubelet.
pub record IsDone (options : ReplayOptions) (found left : Node) (done : List (ℕ × Given)) (h : List Entry) (text : List ℕ) : Type 0 where
  pub run : IsRun options done h
  pub shown : IsShown options.node found left (commands_of done) h text

-- all commands of the script were done, and what was written is their whole text and the summary of their history
pub record EndsDone (options : ReplayOptions) (left before after : Option (List ℕ)) (found now : Node) : Type 0 where
  pub done : List (ℕ × Given)
  pub script : Tells options left (record { commands = done; ending = Clean })
  pub history : List Entry
  pub text : List ℕ
  pub so : IsDone options found now done history text
  pub written : Appends before after (text ++ summary_of history (count_of (commands_of done)))

-- all commands of the script were done, which ends otherwise, and their lines were written
pub record EndsAt (options : ReplayOptions) (ending : Ending) (left before after : Option (List ℕ)) (found now : Node) : Type 0 where
  pub done : List (ℕ × Given)
  pub script : Tells options left (record { commands = done; ending = ending })
  pub history : List Entry
  pub text : List ℕ
  pub so : IsDone options found now done history text
  pub written : Appends before after text

-- the commands before one of the kubelet were done, which the disk ended, and their lines were written
pub record EndsAtKubelet (options : ReplayOptions) (left before after : Option (List ℕ)) (found now : Node) : Type 0 where
  pub done : List (ℕ × Given)
  pub at : ℕ
  pub command : Given
  pub script : TellsFirst options left (done ++ (at, command) ∷ [])
  pub is : is_of_kubelet command ≡ true
  pub history : List Entry
  pub text : List ℕ
  -- what the node was left with before that command
  pub between : Node
  pub so : IsDone options found between done history text
  pub asked : AskedOn between now
  -- each failed call, after which a line that was written has the word DriverFault, is counted when the run ends
  pub counted : RoseBy (failed so.shown.calls) found.faults now.faults
  pub written : Appends before after text

-- the same, and that command, which opened the kubelet, or opened it again, found bytes that are no journal
pub record EndsAtCheckpoint (options : ReplayOptions) (offset : ℕ) (left before after : Option (List ℕ)) (found now : Node) : Type 0 where
  pub ends : EndsAtKubelet options left before after found now
  pub no_journal : IsRefusedDisk offset ends.between.table ends.between.content
  pub opens : (ends.between.table ≡ None) ⊎ (ends.command ≡ Reopen)
  -- the disk still exposes its content if it did, and is as it was found where the kubelet wasn't open
  pub still : TellsStill found.content ends.between.content
  pub as_found : ends.between.table ≡ None → ends.between.content ≡ found.content
  -- all calls of the driver are those of the commands before
  pub unasked : now.calls ≡ ends.between.calls

-- The commands before one that reached the limit were done, and a part of that one. Their lines were written, and after
-- them those of that part's entries.
pub record EndsFull (options : ReplayOptions) (count : ℕ) (left before after : Option (List ℕ)) (found now : Node) : Type 0 where
  pub done : List (ℕ × Given)
  pub at : ℕ
  pub command : Given
  pub script : TellsFirst options left (done ++ (at, command) ∷ [])
  pub history : List Entry
  pub part : IsPart options done command history
  pub text : List ℕ
  pub shown : IsShown options.node found now (commands_of done) part.before text
  pub count_is : count ≡ length history
  pub written : Appends before after (text ++ lines_from (length part.before) part.segment)

-- the commands of the documents that are whole in what was taken were done
pub record EndsRead (options : ReplayOptions) (left left_now before after : Option (List ℕ)) (found now : Node) : Type 0 where
  pub taken : List ℕ
  pub consumed : Consumes left left_now taken
  pub done : List (ℕ × Given)
  pub script : script_within options.attempts taken ≡ record { commands = done; ending = Cut }
  pub history : List Entry
  pub text : List ℕ
  pub so : IsDone options found now done history text
  pub written : Appends before after text

-- the lines of the first commands of the script
pub record IsLines (options : ReplayOptions) (left : Option (List ℕ)) (found now : Node) (text : List ℕ) : Type 0 where
  pub done : List (ℕ × Given)
  pub script : TellsFirst options left done
  pub history : List Entry
  pub so : IsDone options found now done history text

-- the same, with those of a part of the next command, which reached the limit
pub record IsPartLines (options : ReplayOptions) (left : Option (List ℕ)) (found now : Node) (text : List ℕ) : Type 0 where
  pub done : List (ℕ × Given)
  pub at : ℕ
  pub command : Given
  pub script : TellsFirst options left (done ++ (at, command) ∷ [])
  pub history : List Entry
  pub part : IsPart options done command history
  pub first : List ℕ
  pub shown : IsShown options.node found now (commands_of done) part.before first
  pub is : text ≡ first ++ lines_from (length part.before) part.segment

-- the whole text
pub record IsText (options : ReplayOptions) (left : Option (List ℕ)) (found now : Node) (text : List ℕ) : Type 0 where
  pub done : List (ℕ × Given)
  pub script : Tells options left (record { commands = done; ending = Clean })
  pub history : List Entry
  pub lines : List ℕ
  pub so : IsDone options found now done history lines
  pub is : text ≡ lines ++ summary_of history (count_of (commands_of done))

-- the driver's calls of the commands that such lines, or the whole text, are of
abbrev pub calls_of : (options : ReplayOptions) (left : Option (List ℕ)) (found now : Node) (text : List ℕ) → IsLines options left found now text ⊎ (IsPartLines options left found now text ⊎ IsText options left found now text) → List DriverCall
calls_of options left found now text (inl lines) = lines.so.shown.calls
calls_of options left found now text (inr (inl part)) = part.shown.calls
calls_of options left found now text (inr (inr whole)) = whole.so.shown.calls

-- What was written is a prefix of such lines, or of the whole text, as they were when the node was left like this. The
-- driver may have got more calls since, by a command of the kubelet that wasn't done.
pub record EndsShort (options : ReplayOptions) (left before after : Option (List ℕ)) (found now : Node) : Type 0 where
  pub text : List ℕ
  pub between : Node
  pub due : IsLines options left found between text ⊎ (IsPartLines options left found between text ⊎ IsText options left found between text)
  pub asked : AskedOn between now
  -- each failed call, after which a line of the text has the word DriverFault, is counted when the run ends
  pub counted : RoseBy (failed (calls_of options left found between text due)) found.faults now.faults
  pub written : AppendsPrefix before after text

-- the same, where all of the driver's calls are those of the commands
pub record EndsShortAll (options : ReplayOptions) (left before after : Option (List ℕ)) (found now : Node) : Type 0 where
  pub ends : EndsShort options left before after found now
  pub all : now.calls ≡ ends.between.calls

-- how a replay ends: what the script is, what was done of it, what was written, and what became of the node
abbrev pub Ends : ReplayOptions → Option (List ℕ) → Option (List ℕ) → Option (List ℕ) → Option (List ℕ) → Node → Node → Status → Type 0
Ends options left left_now before after found now status.Done = EndsDone options left before after found now
Ends options left left_now before after found now status.Usage = ⊥
Ends options left left_now before after found now (status.Document at why) = EndsAt options (Bad at why) left before after found now
Ends options left left_now before after found now status.Memory = EndsShort options left before after found now
Ends options left left_now before after found now status.Read = EndsRead options left left_now before after found now
Ends options left left_now before after found now status.Write = EndsShortAll options left before after found now
Ends options left left_now before after found now status.Disk = EndsAtKubelet options left before after found now
Ends options left left_now before after found now (status.Limit count) = EndsFull options count left before after found now ⊎ ((count ≡ most_input) × EndsAt options Long left before after found now)
Ends options left left_now before after found now (status.Checkpoint at) = EndsAtCheckpoint options at left before after found now
Ends options left left_now before after found now status.Door = ⊥

-- The same of a disk and a driver: as they were found the kubelet isn't open, and it is open or not when the run ends. The
-- text, the calls and the table are said together, whatever the table is.
pub record EndsSo (options : ReplayOptions) (left left_now before after : Option (List ℕ)) (disk disk_now : Option Content) (calls calls_now : Option (List DriverCall)) (faults faults_now : ℕ) (s : Status) : Type 0 where
  pub table : Option Table
  pub ends : Ends options left left_now before after (node_with None disk calls faults) (node_with table disk_now calls_now faults_now) s

-- the input exposes its contents, and they have no command of the kubelet
abbrev pub HasNone : ℕ → Option (List ℕ) → Type 0
HasNone attempts None = ⊥
HasNone attempts (Some bytes) = kubelet_count (commands_of (script_of attempts bytes).commands) ≡ 0
