use Rattle.std.proofs.Common.{refl, ap, ◌∙◌}
use Rattle.cel_cost.proofs.Capping.{made}
use Rattle.cel_tree.specs.Estimate.{typed, device_bounds}
use Rattle.cel_tree.specs.Typing.{device_type}
use Rattle.cel_cost.proofs.bounds.device_bounds.Goals as goal

pub returns : goal.returns
unfolding device_bounds
returns c =
    made _ c.typed.result (typed (device_type c.args.span c.args.name.now)) 64 0 2 64 0 2 c.new.ensures
    (c.typed.ensures ∙ ap typed c.device_type.ensures) refl refl refl
