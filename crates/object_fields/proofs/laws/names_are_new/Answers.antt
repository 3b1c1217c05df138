use Rattle.object_fields.proofs.Fresh.{doubled, given_names, new_names, old_name}
use Rattle.object_fields.proofs.laws.names_are_new.Goals as goal

pub returns-clause-same : goal.returns-clause-same
returns-clause-same c = given_names

pub returns-clause-new : goal.returns-clause-new
returns-clause-new c = new_names

pub returns-clause-doubled : goal.returns-clause-doubled
returns-clause-doubled c = old_name

pub returns-clause-only : goal.returns-clause-only
returns-clause-only c = doubled
