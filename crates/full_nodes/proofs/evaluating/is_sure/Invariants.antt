use Rattle.std.proofs.Common.{◌≡◌, ◌++◌, drop}
use Rattle.std.specs.List.{list_all}
use Rattle.pool_view.specs.Known.{is_sure_of}
use Rattle.full_nodes.proofs.evaluating.is_sure.Given as goal

abbrev pub invariant-loop-device : goal.invariant-loop-device
invariant-loop-device l = list_all (is_sure_of (l.class ++ l.own) l.slice.driver) (drop l.device-index l.slice.devices) ≡ list_all (is_sure_of (l.class ++ l.own) l.slice.driver) l.slice.devices
