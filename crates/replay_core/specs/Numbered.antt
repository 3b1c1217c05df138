-- The commands of a script by their numbers.
use Rattle.std.specs.Prelude.{ℕ, ◌+◌, ◌==◌, nat_le, List, [], ◌∷◌, if◌then◌else◌}
use Rattle.commands.specs.declared.command.Command.{Command}
use Rattle.commands.specs.declared.command.Command.TheVariants.{Release}
use Rattle.commands.specs.declared.given.Given.{Given}
use Rattle.replay_core.specs.Forms.{members, width}

-- what stands for the command of a number that no job has
abbrev pub no_command : Command
no_command = Release (record { namespace = []; name = [] })

-- the command with this number, where these are numbered on from n
abbrev pub command_in : ℕ → List Command → ℕ → Command
command_in n [] number = no_command
command_in n (c ∷ cs) number = if number == n + 1 then c else command_in (n + 1) cs number

-- the same of what documents ask for
abbrev pub command_from : ℕ → List Given → ℕ → Command
command_from n [] number = no_command
command_from n (g ∷ gs) number = if nat_le number (n + width g) then command_in n (members g) number else command_from (n + width g) gs number

-- the command of a job
abbrev pub command_at : List Given → ℕ → Command
command_at gs = command_from 0 gs
