-- An answer shows of a state the object that its event is about, and nothing else.
use Rattle.std.proofs.Common.{ℕ, ◌≡◌, ◌∙◌, Option, refl, ap}
use Rattle.serde_json.specs.Data.{Data}
use Rattle.cluster.specs.declared.entry.Entry.{Entry}
use Rattle.cluster.specs.declared.entry.Event.{Event}
use Rattle.cluster.specs.declared.entry.Event.TheVariants.{Applied, Deleted, Reserved, Refused, Wrote, Conflict, Unreserved, Bound, VerdictGiven, Contended, Released, Adopted, Denied}
use Rattle.cluster.specs.declared.state.State.{State}
use Rattle.api_replies.specs.Answers.{ended_by, ended_with, json_after}

same : (s : State) (place : ℕ) (e : Entry) (event : Event) → ended_with (json_after s event) place e event ≡ ended_by s place e event
same s place e (Applied made mode) = refl
same s place e (Deleted t) = refl
same s place e (Reserved pod plan) = refl
same s place e (Refused pod plan why) = refl
same s place e (Wrote pod claim seen) = refl
same s place e (Conflict pod claim had now) = refl
same s place e (Unreserved pod) = refl
same s place e (Bound pod node) = refl
same s place e (VerdictGiven pod verdict) = refl
same s place e (Contended pod attempts) = refl
same s place e (Released pod) = refl
same s place e (Adopted claim status) = refl
same s place e (Denied command refusal) = refl

pub ended_is : (s : State) (place : ℕ) (e : Entry) (shown : Option Data) → shown ≡ json_after s e.event → ended_with shown place e e.event ≡ ended_by s place e e.event
ended_is s place e shown is = ap (λ (d : Option Data). ended_with d place e e.event) is ∙ same s place e e.event
