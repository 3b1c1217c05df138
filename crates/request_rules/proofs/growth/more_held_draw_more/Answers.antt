use Rattle.request_rules.proofs.GrowthDrawn.{drawn_grows, own_draws}
use Rattle.request_rules.proofs.growth.more_held_draw_more.Goals as goal

pub returns-clause-own : goal.returns-clause-own
returns-clause-own c = own_draws

pub returns-clause-more : goal.returns-clause-more
returns-clause-more c = drawn_grows
