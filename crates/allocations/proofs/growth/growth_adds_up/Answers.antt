use Rattle.pool_view.specs.Usable.{usable_slices}
use Rattle.allocations.proofs.Growths.{grown_both, grown_held, grown_none, grown_pools}
use Rattle.allocations.proofs.growth.growth_adds_up.Goals as goal

pub returns-clause-none : goal.returns-clause-none
returns-clause-none c = grown_none

pub returns-clause-both : goal.returns-clause-both
returns-clause-both c = grown_both

pub returns-clause-pools : goal.returns-clause-pools
returns-clause-pools c = grown_pools c.more_held_draw_more.ensures.own (λ i old now k h. c.more_held_draw_more.ensures.more (usable_slices i) old now k h)

pub returns-clause-held : goal.returns-clause-held
returns-clause-held c = grown_held c.more_held_draw_more.ensures.own (λ i old now k h. c.more_held_draw_more.ensures.more (usable_slices i) old now k h)
