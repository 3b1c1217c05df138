-- How many attempts what a document asks for has.
use Rattle.std.specs.Prelude.{◌<◌, ◌≤◌, List, [], ◌∷◌, length}
use Rattle.commands.specs.declared.command.Command.{Command}
use Rattle.commands.specs.declared.given.Given.{Given}
use Rattle.commands.specs.Commands.{together_most}
use Rattle.histories.specs.JobRuns.{attempts_of}
use Rattle.replay_core.specs.Forms.{members}

-- each command has at least one
abbrev pub AllTry : List Command → Type 0
AllTry [] = Unit {0}
AllTry (c ∷ cs) = (0 < attempts_of c) × AllTry cs

-- each of its commands has at least one, and they are no more than a Together may have
abbrev pub MayTry : Given → Type 0
MayTry g = AllTry (members g) × (length (members g) ≤ together_most)

abbrev pub AllMayTry : List Given → Type 0
AllMayTry [] = Unit {0}
AllMayTry (g ∷ gs) = MayTry g × AllMayTry gs
