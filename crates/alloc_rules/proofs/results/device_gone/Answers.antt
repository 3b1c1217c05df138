use Rattle.std.proofs.Common.{rules, ◌∙◌, Some, find, sym, ap}
use Rattle.std.specs.Option.{option_copied}
use Rattle.object_fields.specs.declared.key.DeviceId.{DeviceId}
use Rattle.plan_rules.specs.Standing.{is_off}
use Rattle.cluster.specs.declared.failure.Failure.TheVariants.{DeviceGone}
use Rattle.alloc_rules.proofs.Lists.{gone_here, gone_later}
use Rattle.alloc_rules.proofs.results.device_gone.Goals as goal

pub returns-in-Some : goal.returns-in-Some
returns-in-Some c =
    ap (λ (d : DeviceId). Some (DeviceGone d)) c.in_ok-copy.ensures
    ∙ gone_here c.args.view.now.devices c.args.grants.now c.loop-grant.grant-index c.grant-item.result c.in-Some.found.now _ c.loop-grant-test.true c.grant-item.is
    (ap (find (is_off c.args.view.now.devices)) (sym c.as_slice.ensures) ∙ sym c.first_gone.ensures ∙ ap option_copied c.in-Some.is) c.loop-grant.invariant

pub loop-grant-preserved : goal.loop-grant-preserved
loop-grant-preserved c =
    gone_later c.args.view.now.devices c.args.grants.now c.loop-grant.grant-index c.grant-item.result _ c.loop-grant-test.true c.grant-item.is
    (search rules) c.loop-grant.invariant
