use Rattle.std.proofs.Common.{◌≡◌, length}
use Rattle.cel_parse.specs.Steps.{reduced}
use Rattle.cel_parse.proofs.step.reduce.Given as goal

abbrev pub invariant-bound : goal.invariant-bound
invariant-bound l = reduced 64 l.level l.part l.stack ≡ reduced 64 l.level l.initial.part l.initial.stack

abbrev pub decreases-bound : goal.decreases-bound
decreases-bound l = length l.stack
