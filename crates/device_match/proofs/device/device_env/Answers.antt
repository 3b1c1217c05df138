use Rattle.std.proofs.Common.{◌∙◌}
use Rattle.device_match.proofs.Valued.{within}
use Rattle.device_match.proofs.device.device_env.Goals as goal

pub new-requires : goal.new-requires
new-requires c =
    within c.in_ok-driver.driver c.args.driver.now c.args.properties.now c.in_ok-attributes.attributes c.in_ok-capacity.capacity
    (c.in_ok-driver.ensures ∙ c.as_text.ensures.value) c.as_text.ensures.limits c.capacity.ensures.limits c.in_ok-attributes.ensures.value (c.in_ok-capacity.ensures ∙ c.capacity.ensures.value) c.in_ok-attributes.ensures.short
