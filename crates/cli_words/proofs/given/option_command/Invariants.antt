use Rattle.std.proofs.Common.{◌≡◌, map, take}
use Rattle.clap.specs.Words.{app_of}
use Rattle.cli_words.specs.Clap.{option_app}
use Rattle.cli_words.proofs.given.option_command.Given as goal

abbrev pub invariant-loop-name : goal.invariant-loop-name
invariant-loop-name l = app_of l.command ≡ option_app (map (λ n. n.now) (take l.name-index l.names))
