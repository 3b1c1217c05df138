use Rattle.std.proofs.Common.{ap, sym, ◌∙◌}
use Rattle.std.specs.Prelude.{option_map}
use Rattle.cel_value.specs.declared.value.Single.TheVariants as single
use Rattle.cel_value.proofs.device.DeviceEnv.find.Goals as goal

pub returns-in-Capacities : goal.returns-in-Capacities
returns-in-Capacities c =
    rw (c.in-Capacities.is, sym c.self.view_is) (c.amount.ensures ∙ ap (option_map single.Quantity) c.get-in-Capacities.ensures)
