-- What a server serves and prints.
use Rattle.std.specs.Prelude.{ℕ, ◌≡◌, ◌⊎◌, ◌+◌, ◌-◌, ◌^◌, List, Option, min}
use Rattle.dra_ports.specs.Prefixes.{AppendsPrefix}
use Rattle.cli_words.specs.declared.command.ServeWords.{ServeWords}
use Rattle.door_ports.specs.Visits.{Ended}
use Rattle.api_server.specs.Serving.{IsFullText, IsText, Prints}
use Rattle.api_server.specs.declared.options.ServeOptions.{ServeOptions}
use Rattle.api_server.specs.declared.options.ServeStatus.{ServeStatus}
use Rattle.api_server.specs.declared.options.ServeStatus.TheVariants as serve
use Rattle.replay_core.specs.declared.status.Status.{Status}
use Rattle.replay_core.specs.declared.status.Status.TheVariants as status
use Rattle.dra_cli.specs.Headline.{IsTrueHistory}

abbrev pub serve_options : ServeWords → ServeOptions
serve_options words = record {
  workers = words.options.workers;
  connections = words.connections;
  budget = words.options.budget;
  attempts = words.options.attempts;
  entries = words.options.entries;
}

-- the status of the program for that of a server
abbrev pub serve_status : ServeStatus → Status
serve_status serve.Done = status.Done
serve_status serve.Memory = status.Memory
serve_status serve.Write = status.Write
serve_status serve.Door = status.Door
serve_status (serve.Limit count) = status.Limit count

-- what is known of the doors: how many connections have ended at them, and those, if they are exposed
pub record Seen : Type 0 where
  pub served : ℕ
  pub ended : Option (List Ended)

abbrev pub seen_as : ℕ → Option (List Ended) → Seen
seen_as served ended = record { served = served; ended = ended }

-- ---- the text

-- the lines and the summary of a history that serving all connections made, which is true
pub record IsTrueText (o : ServeOptions) (x y : Seen) (text : List ℕ) : Type 0 where
  pub of_served : IsText o x.ended y.ended text
  pub history : IsTrueHistory o.budget of_served.history

-- the lines of a history that reached the limit, which is true
pub record IsTrueLines (o : ServeOptions) (x y : Seen) (text : List ℕ) : Type 0 where
  pub of_full : IsFullText o x.ended y.ended text
  pub history : IsTrueHistory o.budget of_full.history

-- a prefix of one of both was printed
pub record PrintsSome (o : ServeOptions) (x y : Seen) (before after : Option (List ℕ)) : Type 0 where
  pub text : List ℕ
  pub of_one : IsTrueText o x y text ⊎ IsTrueLines o x y text
  pub printed : AppendsPrefix before after text

-- how serving connections ends: what was printed, of what came of them; there are no other statuses
abbrev pub ServesSo : ServeOptions → Seen → Seen → Option (List ℕ) → Option (List ℕ) → Status → Type 0
ServesSo o x y before after status.Done = Prints (IsTrueText o x y) before after × (y.served ≡ min (x.served + o.connections) (2 ^ 64 - 1))
ServesSo o x y before after status.Usage = ⊥
ServesSo o x y before after (status.Document at why) = ⊥
ServesSo o x y before after status.Memory = PrintsSome o x y before after ⊎ (after ≡ before)
ServesSo o x y before after status.Read = ⊥
ServesSo o x y before after status.Write = PrintsSome o x y before after
ServesSo o x y before after status.Disk = ⊥
ServesSo o x y before after (status.Limit count) = Prints (IsTrueLines o x y) before after × (count ≡ o.entries)
ServesSo o x y before after (status.Checkpoint at) = ⊥
ServesSo o x y before after status.Door = after ≡ before
