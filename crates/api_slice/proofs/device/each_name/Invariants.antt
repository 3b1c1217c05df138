use Rattle.std.proofs.Common.{◌≡◌, drop}
use Rattle.serde_json.specs.View.{items_view}
use Rattle.object_fields.specs.Lists.{each_beside, each_from}
use Rattle.api_slice.specs.Devices.{new_device_name}
use Rattle.api_slice.proofs.device.each_name.Given as goal

-- the names that are left, after those read, are all names
abbrev pub invariant-loop-place : goal.invariant-loop-place
invariant-loop-place l =
    each_from new_device_name l.path l.place l.names (items_view (drop l.place l.values)) ≡ each_beside new_device_name l.path (items_view l.values)
