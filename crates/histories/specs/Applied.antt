-- When an object may be created or updated.
use Rattle.std.specs.Prelude.{◌≡◌, Option, None, Some}
use Rattle.cluster.specs.declared.entry.Command.TheVariants.{Apply}
use Rattle.cluster.specs.declared.entry.Event.{Event}
use Rattle.cluster.specs.declared.entry.Event.TheVariants.{Applied, Denied}
use Rattle.cluster.specs.declared.entry.Mode.{Mode}
use Rattle.cluster.specs.declared.entry.Refusal.{Refusal}
use Rattle.cluster.specs.declared.object.Object.{Object}
use Rattle.cluster.specs.declared.state.State.{State}
use Rattle.cluster.specs.Denied.{first_refusal}
use Rattle.cluster.specs.Ready.{IsReady}

-- the object keeps its limits, its selectors compile, and no refusal holds
pub record MayApply (s : State) (object : Object) (mode : Mode) : Type 0 where
  pub valid : IsReady object
  pub unrefused : first_refusal s (Apply object mode) ≡ None

abbrev pub application_by : Object → Mode → Option Refusal → Event
application_by x m None = Applied x m
application_by x m (Some refusal) = Denied (Apply x m) refusal

-- what a command makes that applies an object: the object, or a denial by the first refusal that holds
abbrev pub application : State → Object → Mode → Event
application s x m = application_by x m (first_refusal s (Apply x m))
