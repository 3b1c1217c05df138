use Rattle.histories.proofs.GrowthDates.{freed_at-empty, freed_at-more, freed_rise, freed_within, objects_at-empty, objects_at-more, objects_rise, objects_within}
use Rattle.histories.proofs.growth.dates_grow.Goals as goal

pub returns-clause-start : goal.returns-clause-start
returns-clause-start c = objects_at-empty

pub returns-clause-objects : goal.returns-clause-objects
returns-clause-objects c = objects_at-more

pub returns-clause-none_freed : goal.returns-clause-none_freed
returns-clause-none_freed c = freed_at-empty

pub returns-clause-freed : goal.returns-clause-freed
returns-clause-freed c = freed_at-more

pub returns-clause-objects_within : goal.returns-clause-objects_within
returns-clause-objects_within c = objects_within

pub returns-clause-freed_within : goal.returns-clause-freed_within
returns-clause-freed_within c = freed_within

pub returns-clause-objects_rise : goal.returns-clause-objects_rise
returns-clause-objects_rise c = objects_rise

pub returns-clause-freed_rise : goal.returns-clause-freed_rise
returns-clause-freed_rise c = freed_rise
