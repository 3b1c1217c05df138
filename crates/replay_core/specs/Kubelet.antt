-- What the kubelet does over a run of commands, and the lines of the run: command by command those of the entries of its
-- jobs, or those of the kubelet.
use Rattle.std.specs.Prelude.{ℕ, ◌≡◌, ◌+◌, Bool, List, [], ◌∷◌, ◌++◌, length, Option, None, Some, IfSome, is_some}
use Rattle.std.specs.Option.{option_map}
use Rattle.object_fields.specs.declared.key.Key.{Key}
use Rattle.dra_ports.specs.DiskContent.{Content}
use Rattle.cluster.specs.declared.entry.Entry.{Entry}
use Rattle.cluster.specs.declared.state.State.{State}
use Rattle.cluster.specs.History.{state_of}
use Rattle.commands.specs.declared.given.Given.{Given}
use Rattle.commands.specs.declared.given.Given.TheVariants as given
use Rattle.journal_text.specs.Journal.{kubelet_line, lines_from}
use Rattle.ckpt_journal.specs.Standing.{Keeps}
use Rattle.ckpt_journal.specs.declared.record.Row.{Row}
use Rattle.prepare_core.specs.declared.driver.DriverCall.{DriverCall}
use Rattle.pod_prepare.specs.Commands.{Asked, Done, Prepares, RoseBy, Unprepares, asked_of, failed}
use Rattle.pod_prepare.specs.Opening.{BeginsWith, HasReopened, Table}
use Rattle.pod_prepare.specs.Texts.{reopened_text}
use Rattle.pod_prepare.specs.Words.{tells}
use Rattle.replay_core.specs.Forms.{width}
use Rattle.replay_core.specs.Jobs.{AllOwn}

-- ---- one command

-- what the kubelet is about in a run: whether its disk exposes its content, its node, and the table that it has when it is
-- opened
pub record Setting : Type 0 where
  pub told : Bool
  pub node : List ℕ
  pub start : Table

-- what the kubelet has, which is opened here if it wasn't before
abbrev pub opened : Setting → Option Table → Table
opened x None = x.start
opened x (Some t) = t

-- what a command prints, what the kubelet has after it if it was opened, and the calls that the driver got
pub record Shown : Type 0 where
  pub text : List ℕ
  pub table : Option Table
  pub calls : List DriverCall

-- the claims of a pod are prepared or given up, as the entries before the command leave the state; the size of a half of
-- the checkpoint stays
pub record DoesPod (command : Asked → Key → List Row → Done → Type 0) (x : Setting) (job : ℕ) (pod : Key) (before : List Entry) (old : Table) (shown : Shown) : Type 0 where
  pub done : Done
  pub does : command (asked_of old.half x.node (state_of before) job) pod old.rows done
  pub text : shown.text ≡ done.text
  pub table : shown.table ≡ Some (record { half = old.half; rows = done.rows })
  pub calls : shown.calls ≡ done.calls

-- the kubelet is opened again, and asks nobody
pub record DoesReopen (x : Setting) (job : ℕ) (old : Table) (shown : Shown) : Type 0 where
  pub again : Table
  pub reopened : HasReopened x.told old again
  pub text : shown.text ≡ kubelet_line job (reopened_text (length again.rows))
  pub table : shown.table ≡ Some again
  pub calls : shown.calls ≡ []

-- the entries of jobs after those before them are printed, and the kubelet isn't asked
abbrev pub entries_shown : List Entry → List Entry → Option Table → Shown
entries_shown before segment table = record { text = lines_from (length before) segment; table = table; calls = [] }

-- what a command shows: its own entries come after those before it, and the last command before it has the number n
abbrev pub Shows : Setting → ℕ → List Entry → List Entry → Given → Option Table → Shown → Type 0
Shows x n before segment (given.One command) table shown = shown ≡ entries_shown before segment table
Shows x n before segment (given.Together commands) table shown = shown ≡ entries_shown before segment table
Shows x n before segment (given.Prepare pod) table shown = DoesPod Prepares x (n + 1) pod before (opened x table) shown
Shows x n before segment (given.Unprepare pod) table shown = DoesPod Unprepares x (n + 1) pod before (opened x table) shown
Shows x n before segment given.Reopen table shown = DoesReopen x (n + 1) (opened x table) shown

-- ---- a run of commands

-- one command shows this, and what follows it shows the rest
pub record FirstShows (x : Setting) (n : ℕ) (before : List Entry) (g : Given) (table : Option Table) (shown : Shown) (Rest : List Entry → Option Table → Shown → Type 0) : Type 0 where
  pub segment : List Entry
  pub own : AllOwn n (width g) segment
  pub first : Shown
  pub shows : Shows x n before segment g table first
  pub rest : Shown
  pub follows : Rest (before ++ segment) first.table rest
  pub is : shown ≡ record { text = first.text ++ rest.text; table = rest.table; calls = first.calls ++ rest.calls }

-- Commands, numbered on from n, lead from one history to the next, and show this. Each command's own entries are those of
-- its numbers, which come after those of the commands before it.
unfoldable pub ShowFrom : Setting → ℕ → List Entry → List Given → List Entry → Option Table → Shown → Type 0
ShowFrom x n before [] after table shown = (after ≡ before) × (shown ≡ record { text = []; table = table; calls = [] })
ShowFrom x n before (g ∷ gs) after table shown = FirstShows x n before g table shown (λ next t rest. ShowFrom x (n + width g) next gs after t rest)

-- what a kubelet and its driver are found with, or left with: the table if the kubelet is open, what the disk holds, the
-- calls that the driver got, and how often it failed
pub record Node : Type 0 where
  pub table : Option Table
  pub content : Option Content
  pub calls : Option (List DriverCall)
  pub faults : ℕ

abbrev pub node_with : Option Table → Option Content → Option (List DriverCall) → ℕ → Node
node_with table content calls faults = record { table = table; content = content; calls = calls; faults = faults }

-- The lines of the commands, and what their kubelet commands did, from the node as it was found to what is left of it.
-- Nothing of this but the texts is known of a disk or a driver that doesn't expose what it holds.
pub record IsShown (name : List ℕ) (found left : Node) (commands : List Given) (h : List Entry) (text : List ℕ) : Type 0 where
  pub start : Table
  pub calls : List DriverCall
  pub shows : ShowFrom (record { told = tells found.content; node = name; start = start }) 0 [] commands h None (record { text = text; table = left.table; calls = calls })
  -- a kubelet that was opened began with the table of the bytes that were found, or with a new one on an empty disk
  pub opened : IfSome left.table (λ _. BeginsWith found.content start)
  -- the driver's calls are those of the commands, each where the rule asks it, and there are no others
  pub asked : left.calls ≡ option_map (λ before. before ++ calls) found.calls
  -- each failed call, after which its claim's line has the word DriverFault, is counted
  pub counted : RoseBy (failed calls) found.faults left.faults
  -- a kubelet that is open has the table of its disk, whatever a crash leaves
  pub kept : IfSome left.table (λ t. IfSome left.content (Keeps t.rows))

-- the driver got some more calls, by a command that wasn't done, and its count of errors didn't fall
pub record AskedOn (old new : Node) : Type 0 where
  pub more : List DriverCall
  pub are : new.calls ≡ option_map (λ before. before ++ more) old.calls
  pub counted : RoseBy 0 old.faults new.faults
