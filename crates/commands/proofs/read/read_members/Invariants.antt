use Rattle.std.proofs.Common.{◌≡◌, ◌++◌, drop}
use Rattle.std.specs.Prelude.{List, option_map}
use Rattle.serde_json.specs.View.{items_view}
use Rattle.commands.specs.declared.command.Command.{Command}
use Rattle.commands.specs.Commands.{each_of, member}
use Rattle.commands.proofs.read.read_members.Given as goal

-- those made and those of the items that are left are all
abbrev pub invariant-loop-value : goal.invariant-loop-value
invariant-loop-value l =
    option_map (λ (all : List Command). l.all ++ all) (each_of (member l.attempts) (items_view (drop l.value-index l.commands))) ≡ each_of (member l.attempts) (items_view l.commands)
