-- When a claim may be granted what a status write says.
use Rattle.std.specs.Prelude.{◌≡◌, Option, None, Some}
use Rattle.object_fields.specs.declared.key.Key.{Key}
use Rattle.api_claim.specs.declared.types.ClaimStatus.{ClaimStatus}
use Rattle.cluster.specs.declared.entry.Command.TheVariants.{Adopt}
use Rattle.cluster.specs.declared.entry.Event.{Event}
use Rattle.cluster.specs.declared.entry.Event.TheVariants.{Adopted, Denied}
use Rattle.cluster.specs.declared.entry.Refusal.{Refusal}
use Rattle.cluster.specs.declared.state.State.{State}
use Rattle.histories.specs.Denied.{refusal_of}

-- no refusal holds, so the claim is there without a grant, and the status is an allocation of it
pub record MayAdopt (s : State) (claim : Key) (status : ClaimStatus) : Type 0 where
  pub unrefused : refusal_of s (Adopt claim status) ≡ None

abbrev pub adoption_by : Key → ClaimStatus → Option Refusal → Event
adoption_by claim status None = Adopted claim status
adoption_by claim status (Some refusal) = Denied (Adopt claim status) refusal

-- what a status write makes: the grant, or a denial by the first refusal that holds
abbrev pub adoption : State → Key → ClaimStatus → Event
adoption s claim status = adoption_by claim status (refusal_of s (Adopt claim status))
