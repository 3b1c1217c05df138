-- The numbers that the program ends with.
use Rattle.std.specs.Prelude.{ℕ}
use Rattle.replay_core.specs.declared.status.Status.{Status}
use Rattle.replay_core.specs.declared.status.Status.TheVariants as status

-- the exit status of the program
abbrev pub exit_number : Status → ℕ
exit_number status.Done = 0
exit_number status.Usage = 2
exit_number (status.Document at why) = 3
exit_number status.Memory = 4
exit_number status.Read = 5
exit_number status.Write = 6
exit_number status.Disk = 7
exit_number (status.Limit count) = 8
exit_number (status.Checkpoint at) = 10
exit_number status.Door = 9
