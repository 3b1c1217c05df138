use Rattle.std.proofs.Common.{◌∙◌, [], ap, sym}
use Rattle.object_fields.specs.declared.kind.FieldErrorKind.TheVariants.{Doubled}
use Rattle.std.specs.Result.{is_ok}
use Rattle.api_slice.specs.Attributes.{attribute_of}
use Rattle.slice_laws.proofs.CountedSets.{not_doubled}
use Rattle.slice_laws.proofs.Renamed as renamed
use Rattle.slice_laws.proofs.Valued.{attributes_are, never_attribute}
use Rattle.slice_laws.proofs.keys.attribute_names_are_new.Goals as goal

pub returns-clause-new : goal.returns-clause-new
returns-clause-new c = λ driver path ms names h n. ap is_ok (attributes_are driver path [] ms) ∙ renamed.new attribute_of driver path ms names h n

pub returns-clause-doubled : goal.returns-clause-doubled
returns-clause-doubled c = λ driver path ms before behind name key h n old is. attributes_are driver path [] ms ∙ renamed.doubled attribute_of driver path ms before behind name key h n old is

pub returns-clause-only : goal.returns-clause-only
returns-clause-only c = λ driver path ms e h k. renamed.only attribute_of (λ p d. never_attribute Doubled not_doubled p d) driver path ms e (sym (attributes_are driver path [] ms) ∙ h) k
