-- When a pod may be released.
use Rattle.std.specs.Prelude.{◌≡◌, Option, None, Some}
use Rattle.object_fields.specs.declared.key.Key.{Key}
use Rattle.cluster.specs.declared.entry.Command.TheVariants.{Release}
use Rattle.cluster.specs.declared.entry.Event.{Event}
use Rattle.cluster.specs.declared.entry.Event.TheVariants.{Released, Denied}
use Rattle.cluster.specs.declared.entry.Refusal.{Refusal}
use Rattle.cluster.specs.declared.state.State.{State}
use Rattle.cluster.specs.Denied.{first_refusal}

-- no refusal holds, so the pod is bound
pub record MayRelease (s : State) (pod : Key) : Type 0 where
  pub unrefused : first_refusal s (Release pod) ≡ None

abbrev pub release_by : Key → Option Refusal → Event
release_by pod None = Released pod
release_by pod (Some refusal) = Denied (Release pod) refusal

-- what a command makes that releases a pod: that, or a denial by the first refusal that holds
abbrev pub release_of : State → Key → Event
release_of s pod = release_by pod (first_refusal s (Release pod))
