use Rattle.pool_view.proofs.Differ.{usable_ids, usable_names, usable_one, usable_order, usable_stored}
use Rattle.pool_view.proofs.laws.usable_slices_differ.Goals as goal

pub returns-clause-in_order : goal.returns-clause-in_order
returns-clause-in_order c = usable_order

pub returns-clause-stored : goal.returns-clause-stored
returns-clause-stored c = usable_stored

pub returns-clause-names : goal.returns-clause-names
returns-clause-names c = usable_names

pub returns-clause-ids : goal.returns-clause-ids
returns-clause-ids c = usable_ids

pub returns-clause-devices : goal.returns-clause-devices
returns-clause-devices c = usable_one
