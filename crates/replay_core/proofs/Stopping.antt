-- Why jobs weren't done.
use Rattle.std.proofs.Common.{ℕ, ◌≡◌, List, subst, sym, inr}
use Rattle.std.specs.Prelude.{Option}
use Rattle.dra_ports.specs.declared.error.PortError.{PortError}
use Rattle.dra_ports.specs.declared.error.PortError.TheVariants as port
use Rattle.commands.specs.declared.given.Given.{Given}
use Rattle.replay_core.specs.declared.options.ReplayOptions.{ReplayOptions}
use Rattle.replay_core.specs.declared.status.Status.{Status}
use Rattle.replay_core.specs.declared.work.Work.{Work}
use Rattle.replay_core.specs.Lines.{JobsStop, MetPrintedShort, output_status}

stops_by : (options : ReplayOptions) (c : Given) (old new : Work) (before after : Option (List ℕ)) (e : PortError) → MetPrintedShort options c old new before after → JobsStop options c old new before after (output_status e)
stops_by options c old new before after port.Failed m = inr m
stops_by options c old new before after port.Memory m = inr (inr m)

-- jobs that reached the limit, with a prefix of their lines printed
pub stops_met : (options : ReplayOptions) (c : Given) (old new : Work) (before after : Option (List ℕ)) (e : PortError) (s : Status) → s ≡ output_status e → MetPrintedShort options c old new before after → JobsStop options c old new before after s
stops_met options c old new before after e s is m = subst (λ (t : Status). JobsStop options c old new before after t) (sym is) (stops_by options c old new before after e m)
