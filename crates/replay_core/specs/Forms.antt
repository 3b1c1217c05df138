-- How many commands what a document asks for is, and which of them are jobs.
use Rattle.std.specs.Prelude.{ℕ, ◌+◌, Bool, true, false, List, [], ◌∷◌, length, if◌then◌else◌}
use Rattle.commands.specs.declared.command.Command.{Command}
use Rattle.commands.specs.declared.given.Given.{Given}
use Rattle.commands.specs.declared.given.Given.TheVariants as given

-- the commands that it is, each of which a job does; one of the kubelet has no entries, and no job does it
abbrev pub members : Given → List Command
members (given.One command) = command ∷ []
members (given.Together commands) = commands
members (given.Prepare pod) = []
members (given.Unprepare pod) = []
members given.Reopen = []

-- it is a command of the kubelet
abbrev pub is_of_kubelet : Given → Bool
is_of_kubelet (given.One command) = false
is_of_kubelet (given.Together commands) = false
is_of_kubelet (given.Prepare pod) = true
is_of_kubelet (given.Unprepare pod) = true
is_of_kubelet given.Reopen = true

-- how many commands it is, each of which has a number; a Together is its members
abbrev pub width : Given → ℕ
width (given.One command) = 1
width (given.Together commands) = length commands
width (given.Prepare pod) = 1
width (given.Unprepare pod) = 1
width given.Reopen = 1

-- how many commands they are
abbrev pub count_of : List Given → ℕ
count_of [] = 0
count_of (g ∷ gs) = width g + count_of gs

-- how many of them are of the kubelet, and have no entries
abbrev pub kubelet_count : List Given → ℕ
kubelet_count [] = 0
kubelet_count (g ∷ gs) = (if is_of_kubelet g then 1 else 0) + kubelet_count gs
