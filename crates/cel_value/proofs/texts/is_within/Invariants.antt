use Rattle.std.proofs.Common.{◌≡◌, drop}
use Rattle.cel_value.specs.Functions.{contains}
use Rattle.cel_value.proofs.texts.is_within.Given as goal

abbrev pub invariant-loop-from : goal.invariant-loop-from
invariant-loop-from l = contains (drop l.from l.text) l.part ≡ contains l.text l.part
