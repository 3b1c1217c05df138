-- What the arguments of a call ask for.
use Rattle.std.specs.Prelude.{ℕ, ◌≤◌, List, Option, option_map}
use Rattle.cli_words.specs.Words.{command_of}
use Rattle.cli_words.specs.declared.command.Command.{Command}
use Rattle.cli_words.specs.declared.command.Command.TheVariants as command
use Rattle.cli_words.specs.declared.command.ReplayWords.{ReplayWords}
use Rattle.cli_words.specs.declared.command.ServeWords.{ServeWords}
use Rattle.replay_core.specs.declared.options.ReplayOptions.{ReplayOptions}
use Rattle.dra_cli.specs.declared.task.Task.{Task}
use Rattle.dra_cli.specs.declared.task.Task.TheVariants.{Replay, Serve, Exercise}

abbrev pub options_of : ReplayWords → ReplayOptions
options_of words = record {
  workers = words.options.workers;
  budget = words.options.budget;
  attempts = words.options.attempts;
  entries = words.options.entries;
  node = words.node;
}

-- the task of a command
abbrev pub task_of : Command → Task
task_of (command.Replay words) = Replay (options_of words)
task_of (command.Serve words) = Serve words
task_of (command.Exercise words) = Exercise words

-- what the arguments, each as its bytes, ask this program for
abbrev pub asked_of : List (List ℕ) → Option Task
asked_of words = option_map task_of (command_of words)

-- the options of a replay are in their ranges
pub record AreFit (o : ReplayOptions) : Type 0 where
  pub least_workers : 1 ≤ o.workers
  pub most_workers : o.workers ≤ 64
  pub least_budget : 1 ≤ o.budget
  pub most_budget : o.budget ≤ 10000000
  pub least_attempts : 1 ≤ o.attempts
  pub most_attempts : o.attempts ≤ 64
  pub least_entries : 1 ≤ o.entries
  pub most_entries : o.entries ≤ 1000000

-- the options of a server are in their ranges
pub record AreServed (w : ServeWords) : Type 0 where
  pub least_workers : 1 ≤ w.options.workers
  pub most_workers : w.options.workers ≤ 64
  pub least_budget : 1 ≤ w.options.budget
  pub most_budget : w.options.budget ≤ 10000000
  pub least_attempts : 1 ≤ w.options.attempts
  pub most_attempts : w.options.attempts ≤ 64
  pub least_entries : 1 ≤ w.options.entries
  pub most_entries : w.options.entries ≤ 1000000
  pub least_connections : 1 ≤ w.connections
  pub most_connections : w.connections ≤ 65535

-- the options of a task are in their ranges
abbrev pub Fits : Task → Type 0
Fits (Replay options) = AreFit options
Fits (Serve words) = AreServed words
Fits (Exercise words) = words.pods ≤ 100000
