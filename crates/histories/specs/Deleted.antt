-- When an object may be taken away.
use Rattle.std.specs.Prelude.{◌≡◌, Option, None, Some}
use Rattle.cluster.specs.declared.entry.Command.TheVariants.{Delete}
use Rattle.cluster.specs.declared.entry.Event.{Event}
use Rattle.cluster.specs.declared.entry.Event.TheVariants.{Deleted, Denied}
use Rattle.cluster.specs.declared.entry.Refusal.{Refusal}
use Rattle.cluster.specs.declared.object.Target.{Target}
use Rattle.cluster.specs.declared.state.State.{State}
use Rattle.cluster.specs.Denied.{first_refusal}

-- no refusal holds
pub record MayDelete (s : State) (target : Target) : Type 0 where
  pub unrefused : first_refusal s (Delete target) ≡ None

abbrev pub deletion_by : Target → Option Refusal → Event
deletion_by t None = Deleted t
deletion_by t (Some refusal) = Denied (Delete t) refusal

-- what a command makes that takes an object away: that, or a denial by the first refusal that holds
abbrev pub deletion : State → Target → Event
deletion s t = deletion_by t (first_refusal s (Delete t))
