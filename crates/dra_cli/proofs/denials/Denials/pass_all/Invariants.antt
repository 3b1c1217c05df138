use Rattle.std.proofs.Common.{length}
use Rattle.dra_cli.proofs.denials.Denials.pass_all.Given as goal

abbrev pub decreases-lines : goal.decreases-lines
decreases-lines l = length l.rest
