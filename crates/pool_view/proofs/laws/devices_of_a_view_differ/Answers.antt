use Rattle.pool_view.proofs.Differ.{view_device, view_ids, view_names, view_slice}
use Rattle.pool_view.proofs.laws.devices_of_a_view_differ.Goals as goal

pub returns-clause-ids : goal.returns-clause-ids
returns-clause-ids c = view_ids

pub returns-clause-slices : goal.returns-clause-slices
returns-clause-slices c = view_names

pub returns-clause-usable : goal.returns-clause-usable
returns-clause-usable c = view_slice

pub returns-clause-listed : goal.returns-clause-listed
returns-clause-listed c = view_device
