use Rattle.std.proofs.Common.{◌≡◌, drop}
use Rattle.plan_rules.specs.Standing.{device_gone}
use Rattle.alloc_rules.proofs.results.device_gone.Given as goal

abbrev pub invariant-loop-grant : goal.invariant-loop-grant
invariant-loop-grant l = device_gone l.view.devices (drop l.grant-index l.grants) ≡ device_gone l.view.devices l.grants
