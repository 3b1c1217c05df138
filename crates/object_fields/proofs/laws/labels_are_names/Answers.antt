use Rattle.object_fields.proofs.Fresh.{label_is_name, labels_once, object_is, objects_once}
use Rattle.object_fields.proofs.laws.labels_are_names.Goals as goal

pub returns-clause-name : goal.returns-clause-name
returns-clause-name c = label_is_name

pub returns-clause-object : goal.returns-clause-object
returns-clause-object c = object_is

pub returns-clause-label_once : goal.returns-clause-label_once
returns-clause-label_once c = labels_once

pub returns-clause-object_once : goal.returns-clause-object_once
returns-clause-object_once c = objects_once
