use Rattle.std.proofs.Common.{◌≡◌, drop}
use Rattle.ckpt_journal.specs.Plan.{size_from}
use Rattle.ckpt_journal.proofs.spelling.first_size.Given as goal

abbrev pub invariant-loop-size : goal.invariant-loop-size
invariant-loop-size l = size_from (drop l.size-index l.sizes) l.asked l.len ≡ size_from l.sizes l.asked l.len
