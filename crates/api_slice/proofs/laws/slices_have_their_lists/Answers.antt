use Rattle.object_fields.specs.NewNames.{label_of}
use Rattle.api_slice.specs.Devices.{new_device_name}
use Rattle.api_slice.proofs.Listed.{Labels, device_reading, slice_names}
use Rattle.api_slice.proofs.laws.slices_have_their_lists.Goals as goal

pub returns-clause-devices : goal.returns-clause-devices
returns-clause-devices c = λ d s h.
    let law = c.labels_are_names.ensures in
    let labels : Labels = record { name = law.name; object_ = law.object; label_once = law.label_once; object_once = law.object_once } in
    (slice_names (c.names_are_new.ensures.same label_of new_device_name (device_reading labels)) labels d s h).devices

pub returns-clause-sets : goal.returns-clause-sets
returns-clause-sets c = λ d s h.
    let law = c.labels_are_names.ensures in
    let labels : Labels = record { name = law.name; object_ = law.object; label_once = law.label_once; object_once = law.object_once } in
    (slice_names (c.names_are_new.ensures.same label_of new_device_name (device_reading labels)) labels d s h).sets
