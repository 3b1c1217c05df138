use Rattle.std.proofs.Common.{◌≡◌, drop}
use Rattle.std.specs.List.{list_any}
use Rattle.request_rows.specs.Taints.{is_tainted}
use Rattle.request_rows.proofs.taints.any_tainted.Given as goal

abbrev pub invariant-loop-device : goal.invariant-loop-device
invariant-loop-device l = list_any is_tainted (drop l.device-index l.devices) ≡ list_any is_tainted l.devices
