use Rattle.std.proofs.Common.{◌≡◌, drop}
use Rattle.serde_json.specs.View.{items_view}
use Rattle.api_slice.specs.Devices.{nothing_more_from}
use Rattle.api_slice.proofs.device.each_nothing_more.Given as goal

-- the devices that are left decide
abbrev pub invariant-loop-place : goal.invariant-loop-place
invariant-loop-place l =
    nothing_more_from l.path l.place (items_view (drop l.place l.values)) ≡ nothing_more_from l.path 0 (items_view l.values)
