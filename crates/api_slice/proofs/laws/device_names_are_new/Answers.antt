use Rattle.object_fields.specs.NewNames.{label_of}
use Rattle.api_slice.specs.Devices.{new_device_name}
use Rattle.api_slice.proofs.Listed.{Labels, device_reading}
use Rattle.api_slice.proofs.laws.device_names_are_new.Goals as goal

pub returns-clause-new : goal.returns-clause-new
returns-clause-new c = λ path ds names h n.
    let law = c.labels_are_names.ensures in
    let labels : Labels = record { name = law.name; object_ = law.object; label_once = law.label_once; object_once = law.object_once } in
    c.names_are_new.ensures.new label_of new_device_name (device_reading labels) path ds names h n

pub returns-clause-doubled : goal.returns-clause-doubled
returns-clause-doubled c = λ path ds before behind name h n old.
    let law = c.labels_are_names.ensures in
    let labels : Labels = record { name = law.name; object_ = law.object; label_once = law.label_once; object_once = law.object_once } in
    c.names_are_new.ensures.doubled label_of new_device_name (device_reading labels) path ds before behind name h n old

pub returns-clause-only : goal.returns-clause-only
returns-clause-only c = λ path ds e h k.
    let law = c.labels_are_names.ensures in
    let labels : Labels = record { name = law.name; object_ = law.object; label_once = law.label_once; object_once = law.object_once } in
    c.names_are_new.ensures.only label_of new_device_name (device_reading labels) path ds e h k
