use Rattle.std.proofs.Common.{◌∙◌, [], ap, sym}
use Rattle.object_fields.specs.declared.kind.FieldErrorKind.TheVariants.{Doubled}
use Rattle.std.specs.Result.{is_ok}
use Rattle.api_slice.specs.Capacity.{value_without_policy}
use Rattle.slice_laws.proofs.CountedSets.{not_doubled}
use Rattle.slice_laws.proofs.Renamed as renamed
use Rattle.slice_laws.proofs.Valued.{capacities_are, never_capacity, over_together}
use Rattle.slice_laws.proofs.keys.capacity_names_are_new.Goals as goal

pub returns-clause-new : goal.returns-clause-new
returns-clause-new c = λ driver path ms names h n. ap is_ok (capacities_are driver path [] ms) ∙ renamed.new value_without_policy driver path ms names h n

pub returns-clause-doubled : goal.returns-clause-doubled
returns-clause-doubled c = λ driver path ms before behind name key h n old is. capacities_are driver path [] ms ∙ renamed.doubled value_without_policy driver path ms before behind name key h n old is

pub returns-clause-only : goal.returns-clause-only
returns-clause-only c = λ driver path ms e h k. renamed.only value_without_policy (λ p d. never_capacity Doubled not_doubled p d) driver path ms e (sym (capacities_are driver path [] ms) ∙ h) k

pub returns-clause-only_many : goal.returns-clause-only_many
returns-clause-only_many c = λ driver path d e h k. over_together driver path d e h k
