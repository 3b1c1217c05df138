use Rattle.std.proofs.Common.{◌≡◌, take, map}
use Rattle.pod_prepare.specs.ForNode.{device_of}
use Rattle.pod_prepare.proofs.claim.devices_of.Given as goal

-- the devices of the results so far
abbrev pub invariant-loop-picked : goal.invariant-loop-picked
invariant-loop-picked l = l.devices ≡ map device_of (take l.picked-index l.results)
