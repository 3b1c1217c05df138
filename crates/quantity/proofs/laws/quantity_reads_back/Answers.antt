use Rattle.std.proofs.Common.{subst}
use Rattle.quantity.specs.Range.{IsInRange}
use Rattle.quantity.proofs.ReadBackLemmas.{reads_back}
use Rattle.quantity.proofs.laws.quantity_reads_back.Goals as goal

pub returns : goal.returns
returns c = reads_back c.args.quantity.now (subst IsInRange c.nanos-nanos.ensures.value c.nanos-nanos.ensures.in_range)
