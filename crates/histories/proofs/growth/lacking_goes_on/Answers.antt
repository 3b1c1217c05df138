use Rattle.histories.proofs.GrowthDates.{lacking_later}
use Rattle.histories.proofs.growth.lacking_goes_on.Goals as goal

pub returns : goal.returns
returns c =
    let dates = c.dates_grow.ensures in
    lacking_later dates.objects_rise dates.freed_rise c.held_since_dates.ensures.objects c.nodes_stay_without_allocation.ensures.grown c.unsat_goes_on.ensures.claims
