use Rattle.std.proofs.Common.{◌-◌, length}
use Rattle.cel_lex.proofs.StringLaws.{EndAt}
use Rattle.cel_lex.proofs.part.string_end.Given as goal

abbrev pub invariant-loop-at : goal.invariant-loop-at
invariant-loop-at l = EndAt l.quotes l.from l.inside l.source l.at

abbrev pub decreases-loop-at : goal.decreases-loop-at
decreases-loop-at l = length l.source - l.at
