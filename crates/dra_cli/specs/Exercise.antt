-- What an exercise promises.
use Rattle.std.specs.Prelude.{ℕ, ◌≡◌, ◌⊎◌, List, [], ◌++◌, Option}
use Rattle.std.specs.Io.KnownBytes.{Appends}
use Rattle.dra_ports.specs.Prefixes.{AppendsPrefix}
use Rattle.cluster.specs.declared.entry.Entry.{Entry}
use Rattle.histories.specs.Legal.{Legal}
use Rattle.journal_text.specs.Journal.{summary_of}
use Rattle.commands.specs.declared.given.Given.{Given}
use Rattle.script_gen.specs.Script.{script_of as generated}
use Rattle.replay_core.specs.declared.options.ReplayOptions.{ReplayOptions}
use Rattle.replay_core.specs.declared.status.Status.{Status}
use Rattle.replay_core.specs.declared.status.Status.TheVariants as status
use Rattle.replay_core.specs.Forms.{count_of}
use Rattle.replay_core.specs.Jobs.{RunOf}
use Rattle.replay_core.specs.Script.{commands_of, script_of}
use Rattle.dra_cli.specs.Lines.{EndsLine}

-- one worker, and else the options that a replay has if none is given; the history has at most 2,000,000 entries
abbrev pub exercise_options : ReplayOptions
exercise_options = record { workers = 1; budget = 100000; attempts = 32; entries = 2000000; node = [] }

-- what the generated script asks for
abbrev pub script_commands : ℕ → ℕ → List Given
script_commands from pods = commands_of (script_of exercise_options.attempts (generated from pods)).commands

-- the summary of a legal history that is the run of the script's commands
pub record IsSummary (from pods : ℕ) (text : List ℕ) : Type 0 where
  pub history : List Entry
  pub legal : Legal history
  pub run : RunOf exercise_options.budget (script_commands from pods) history
  pub is : text ≡ summary_of history (count_of (script_commands from pods))

-- lines, and then the summary
pub record IsText (from pods : ℕ) (text : List ℕ) : Type 0 where
  pub lines : List ℕ
  pub ended : EndsLine lines
  pub summary : List ℕ
  pub of_run : IsSummary from pods summary
  pub is : text ≡ lines ++ summary

-- such a summary was printed
pub record PrintsAll (from pods : ℕ) (old new : Option (List ℕ)) : Type 0 where
  pub text : List ℕ
  pub summary : IsSummary from pods text
  pub appended : Appends old new text

-- a prefix of such a summary was printed
pub record PrintsPrefix (from pods : ℕ) (old new : Option (List ℕ)) : Type 0 where
  pub text : List ℕ
  pub summary : IsSummary from pods text
  pub appended : AppendsPrefix old new text

-- what was printed, by the status; there are no other statuses
abbrev pub Prints : ℕ → ℕ → Option (List ℕ) → Option (List ℕ) → Status → Type 0
Prints from pods old new status.Done = PrintsAll from pods old new
Prints from pods old new status.Usage = ⊥
Prints from pods old new (status.Document at why) = ⊥
Prints from pods old new status.Memory = PrintsPrefix from pods old new ⊎ (new ≡ old)
Prints from pods old new status.Read = ⊥
Prints from pods old new status.Write = PrintsPrefix from pods old new
Prints from pods old new status.Disk = ⊥
Prints from pods old new (status.Limit count) = ⊥
Prints from pods old new (status.Checkpoint at) = ⊥
Prints from pods old new status.Door = ⊥
