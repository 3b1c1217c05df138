use Rattle.std.proofs.Common.{◌≡◌, ◌+◌, ◌++◌, length}
use Rattle.replay_core.specs.Doing.{works_from}
use Rattle.replay_core.proofs.jobs.works_of.Given as goal

-- the works made, and then those of the commands that are left, are those of all
abbrev pub invariant-loop-command : goal.invariant-loop-command
invariant-loop-command l = record {
  made : l.works.items ++ works_from l.job l.command-iterator.rest.items ≡ works_from l.before l.fn.commands.items;
  count : l.job + length l.command-iterator.rest.items ≡ l.before + length l.fn.commands.items;
}
