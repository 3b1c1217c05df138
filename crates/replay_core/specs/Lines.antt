-- What doing one command does.
use Rattle.std.specs.Prelude.{ℕ, ◌≡◌, ◌+◌, ◌⊎◌, true, List, [], ◌++◌, Option, None, Some, IfSome, drop, length}
use Rattle.std.specs.Io.KnownBytes.{Appends}
use Rattle.dra_ports.specs.Prefixes.{AppendsPrefix}
use Rattle.dra_ports.specs.declared.error.PortError.{PortError}
use Rattle.dra_ports.specs.declared.error.PortError.TheVariants as port
use Rattle.doc_split.specs.declared.error.DocError.{DocError}
use Rattle.doc_split.specs.declared.error.DocError.TheVariants as doc
use Rattle.sched_job.specs.Ledgers.{History}
use Rattle.journal_text.specs.Journal.{lines_from, summary_of}
use Rattle.commands.specs.declared.given.Given.{Given}
use Rattle.replay_core.specs.declared.options.ReplayOptions.{ReplayOptions}
use Rattle.replay_core.specs.declared.status.Status.{Status}
use Rattle.replay_core.specs.declared.status.Status.TheVariants as status
use Rattle.replay_core.specs.declared.work.Work.{Work}
use Rattle.replay_core.specs.declared.status.Rejection.TheVariants as rejection
use Rattle.replay_core.specs.Forms.{is_of_kubelet, width}
use Rattle.replay_core.specs.Kubelet.{AskedOn, Node, Shows}
use Rattle.std.specs.Option.{option_map}
use Rattle.dra_ports.specs.DiskContent.{Content}
use Rattle.cluster.specs.declared.entry.Entry.{Entry}
use Rattle.commands.specs.declared.given.Given.TheVariants.{Reopen}
use Rattle.ckpt_journal.specs.Standing.{Keeps}
use Rattle.prepare_core.specs.declared.driver.DriverCall.{DriverCall}
use Rattle.pod_prepare.specs.Commands.{RoseBy, failed}
use Rattle.pod_prepare.specs.Opening.{BeginsWith, IsRefusedDisk, Table}
use Rattle.pod_prepare.specs.Words.{TellsStill, tells}
use Rattle.replay_core.specs.Script.{most_input}
use Rattle.replay_core.specs.Doing.{Ran, Met}

-- the status for an error of the output
abbrev pub output_status : PortError → Status
output_status port.Failed = status.Write
output_status port.Memory = status.Memory

-- the status where there is no next document
abbrev pub input_status : DocError → Status
input_status doc.ReadFault = status.Read
input_status (doc.Unclosed at) = status.Document at rejection.Unclosed
input_status (doc.Stray at) = status.Document at rejection.Stray
input_status (doc.TooLong at) = status.Document at rejection.TooLong
input_status doc.Memory = status.Memory
input_status doc.Input = status.Limit most_input

-- the lines of the entries that are new
abbrev pub new_lines : History → History → List ℕ
new_lines old new = lines_from (length old.entries) (drop (length old.entries) new.entries)

-- what is asked for was done as the next jobs
abbrev pub RanNext : ReplayOptions → Given → Work → Work → Type 0
RanNext o c old new = Ran old.commands c o.budget old.ledger new.ledger

-- it reached the limit
abbrev pub MetNext : ReplayOptions → Given → Work → Work → ℕ → Type 0
MetNext o c old new n = Met old.commands c o.budget old.ledger new.ledger n

-- the table with which a kubelet begins that is open after a command and wasn't before
abbrev pub BeginsHere : Option Table → Option Table → Option Content → Table → Type 0
BeginsHere None (Some t) found start = BeginsWith found start
BeginsHere old new found start = Unit {0}

-- What a command shows whose own entries are these, after those before it, the last of which has the number n; and what
-- became of the node.
pub record ShownBy (options : ReplayOptions) (n : ℕ) (before segment : List Entry) (c : Given) (x y : Node) (text : List ℕ) : Type 0 where
  pub start : Table
  pub calls : List DriverCall
  pub shows : Shows (record { told = tells x.content; node = options.node; start = start }) n before segment c x.table (record { text = text; table = y.table; calls = calls })
  -- a kubelet that is opened here begins with the table of the bytes that were found
  pub opened : BeginsHere x.table y.table x.content start
  pub asked : y.calls ≡ option_map (λ before. before ++ calls) x.calls
  pub counted : RoseBy (failed calls) x.faults y.faults
  pub still : TellsStill x.content y.content
  pub kept : IfSome y.table (λ t. IfSome y.content (Keeps t.rows))
  -- a node whose kubelet isn't open is the same
  pub untouched : y.table ≡ None → y.content ≡ x.content

-- what the next command shows
pub record ShownNext (options : ReplayOptions) (c : Given) (old new : Work) (x y : Node) (text : List ℕ) : Type 0 where
  pub segment : List Entry
  pub grown : new.ledger.entries ≡ old.ledger.entries ++ segment
  pub by : ShownBy options old.commands old.ledger.entries segment c x y text

-- it was done, and what it shows is printed
pub record Did (options : ReplayOptions) (c : Given) (old new : Work) (x y : Node) (before after : Option (List ℕ)) : Type 0 where
  pub ran : RanNext options c old new
  pub counted : new.commands ≡ old.commands + width c
  pub text : List ℕ
  pub shown : ShownNext options c old new x y text
  pub printed : Appends before after text

-- a command of the kubelet was ended by the disk or for want of memory, and nothing is printed
pub record Ended (c : Given) (old new : Work) (x y : Node) (before after : Option (List ℕ)) : Type 0 where
  pub same : new ≡ old
  pub asked : AskedOn x y
  pub printed : Appends before after []

pub record EndedByDisk (c : Given) (old new : Work) (x y : Node) (before after : Option (List ℕ)) : Type 0 where
  pub ended : Ended c old new x y before after
  pub is : is_of_kubelet c ≡ true

-- a command that opened the kubelet, or opened it again, found bytes that are no journal, and asked nobody
pub record FoundNone (offset : ℕ) (c : Given) (x y : Node) : Type 0 where
  pub no_journal : IsRefusedDisk offset x.table x.content
  pub opens : (x.table ≡ None) ⊎ (c ≡ Reopen)
  pub unasked : y.calls ≡ x.calls

pub record EndedByBytes (offset : ℕ) (c : Given) (old new : Work) (x y : Node) (before after : Option (List ℕ)) : Type 0 where
  pub ended : EndedByDisk c old new x y before after
  pub found : FoundNone offset c x y

-- the command reached the limit, its lines are printed, and the node is the same
pub record MetPrinted (options : ReplayOptions) (c : Given) (old new : Work) (x y : Node) (before after : Option (List ℕ)) (n : ℕ) : Type 0 where
  pub met : MetNext options c old new n
  pub same : y ≡ x
  pub printed : Appends before after (new_lines old.ledger new.ledger)

-- a prefix of the command's lines is printed
pub record RanShort (options : ReplayOptions) (c : Given) (old new : Work) (x y : Node) (before after : Option (List ℕ)) : Type 0 where
  pub ran : RanNext options c old new
  pub text : List ℕ
  pub shown : ShownNext options c old new x y text
  pub printed : AppendsPrefix before after text

pub record MetShort (options : ReplayOptions) (c : Given) (old new : Work) (x y : Node) (before after : Option (List ℕ)) : Type 0 where
  pub count : ℕ
  pub met : MetNext options c old new count
  pub same : y ≡ x
  pub printed : AppendsPrefix before after (new_lines old.ledger new.ledger)

abbrev pub PrintedShort : ReplayOptions → Given → Work → Work → Node → Node → Option (List ℕ) → Option (List ℕ) → Type 0
PrintedShort o c old new x y before after = RanShort o c old new x y before after ⊎ MetShort o c old new x y before after

-- ---- jobs alone, whatever the kubelet is

-- they were done, and the lines of their entries are printed
pub record RanPrinted (options : ReplayOptions) (c : Given) (old new : Work) (before after : Option (List ℕ)) : Type 0 where
  pub ran : RanNext options c old new
  pub counted : new.commands ≡ old.commands + width c
  pub printed : Appends before after (new_lines old.ledger new.ledger)

pub record RanPrintedShort (options : ReplayOptions) (c : Given) (old new : Work) (before after : Option (List ℕ)) : Type 0 where
  pub ran : RanNext options c old new
  pub printed : AppendsPrefix before after (new_lines old.ledger new.ledger)

pub record MetPrintedAll (options : ReplayOptions) (c : Given) (old new : Work) (before after : Option (List ℕ)) (n : ℕ) : Type 0 where
  pub met : MetNext options c old new n
  pub printed : Appends before after (new_lines old.ledger new.ledger)

pub record MetPrintedShort (options : ReplayOptions) (c : Given) (old new : Work) (before after : Option (List ℕ)) : Type 0 where
  pub count : ℕ
  pub met : MetNext options c old new count
  pub printed : AppendsPrefix before after (new_lines old.ledger new.ledger)

abbrev pub JobsShort : ReplayOptions → Given → Work → Work → Option (List ℕ) → Option (List ℕ) → Type 0
JobsShort o c old new before after = RanPrintedShort o c old new before after ⊎ MetPrintedShort o c old new before after

-- why they weren't done
abbrev pub JobsStop : ReplayOptions → Given → Work → Work → Option (List ℕ) → Option (List ℕ) → Status → Type 0
JobsStop o c old new before after status.Done = ⊥
JobsStop o c old new before after status.Usage = ⊥
JobsStop o c old new before after (status.Document index why) = ⊥
JobsStop o c old new before after status.Memory = Appends before after [] ⊎ JobsShort o c old new before after
JobsStop o c old new before after status.Read = ⊥
JobsStop o c old new before after status.Write = JobsShort o c old new before after
JobsStop o c old new before after status.Disk = ⊥
JobsStop o c old new before after (status.Limit n) = MetPrintedAll o c old new before after n
JobsStop o c old new before after (status.Checkpoint offset) = ⊥
JobsStop o c old new before after status.Door = ⊥

-- ---- a command

-- why a command wasn't done
abbrev pub Stops : ReplayOptions → Given → Work → Work → Node → Node → Option (List ℕ) → Option (List ℕ) → Status → Type 0
Stops o c old new x y before after status.Done = ⊥
Stops o c old new x y before after status.Usage = ⊥
Stops o c old new x y before after (status.Document index why) = ⊥
Stops o c old new x y before after status.Memory = ((Appends before after []) × AskedOn x y) ⊎ PrintedShort o c old new x y before after
Stops o c old new x y before after status.Read = ⊥
Stops o c old new x y before after status.Write = PrintedShort o c old new x y before after
Stops o c old new x y before after status.Disk = EndedByDisk c old new x y before after
Stops o c old new x y before after (status.Limit n) = MetPrinted o c old new x y before after n
Stops o c old new x y before after (status.Checkpoint offset) = EndedByBytes offset c old new x y before after
Stops o c old new x y before after status.Door = ⊥

-- how printing the summary ends
abbrev pub Summarized : Work → Option (List ℕ) → Option (List ℕ) → Status → Type 0
Summarized work before after status.Done = Appends before after (summary_of work.ledger.entries work.commands)
Summarized work before after status.Usage = ⊥
Summarized work before after (status.Document at why) = ⊥
Summarized work before after status.Memory = AppendsPrefix before after (summary_of work.ledger.entries work.commands)
Summarized work before after status.Read = ⊥
Summarized work before after status.Write = AppendsPrefix before after (summary_of work.ledger.entries work.commands)
Summarized work before after status.Disk = ⊥
Summarized work before after (status.Limit count) = ⊥
Summarized work before after (status.Checkpoint at) = ⊥
Summarized work before after status.Door = ⊥
