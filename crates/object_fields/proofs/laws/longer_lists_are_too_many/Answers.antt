use Rattle.object_fields.proofs.Fresh.{only_over, over}
use Rattle.object_fields.proofs.laws.longer_lists_are_too_many.Goals as goal

pub returns-clause-many : goal.returns-clause-many
returns-clause-many c = over

pub returns-clause-only : goal.returns-clause-only
returns-clause-only c = only_over
