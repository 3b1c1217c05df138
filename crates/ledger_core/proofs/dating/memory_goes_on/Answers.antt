use Rattle.std.proofs.Common.{sym}
use Rattle.ledger_core.proofs.Remembering.{dated_more, known_more}
use Rattle.ledger_core.proofs.dating.memory_goes_on.Goals as goal

pub returns : goal.returns
returns c =
    let grow = c.dates_grow.ensures in
    record {
      none = record { objects = sym grow.start; freed = λ p. sym (grow.none_freed p) };
      dated = dated_more grow.objects grow.freed;
      known = known_more grow.objects_rise c.held_since_dates.ensures.objects c.lacking_goes_on.ensures;
    }
