-- Each adoption of a legal history grants an allocation of its claim.
use Rattle.std.proofs.Common.{ℕ, ◌≡◌, List, [], ◌∷◌, ◌++◌, false, Option, None, Some, is_some, refl}
use Rattle.std.specs.Prelude.{option_map}
use Rattle.object_fields.specs.declared.key.Key.{Key}
use Rattle.api_claim.specs.declared.types.ClaimStatus.{ClaimStatus}
use Rattle.pool_view.specs.Names.{at_key}
use Rattle.cluster.specs.declared.entry.Entry.{Entry}
use Rattle.cluster.specs.declared.entry.Event.TheVariants.{Adopted}
use Rattle.cluster.specs.declared.entry.Refusal.{Refusal}
use Rattle.cluster.specs.declared.entry.Refusal.TheVariants as refusal
use Rattle.cluster.specs.declared.failure.Failure.{Failure}
use Rattle.cluster.specs.declared.state.ClaimState.{ClaimState}
use Rattle.cluster.specs.declared.state.Granted.{Granted}
use Rattle.cluster.specs.declared.state.State.{State}
use Rattle.cluster.specs.Denied.{conflict_of, status_refusal, when}
use Rattle.cluster.specs.History.{state_of}
use Rattle.allocations.specs.Allocation.{IsAllocation}
use Rattle.plan_rules.specs.Failing.{failing_status, granted_by}
use Rattle.histories.specs.Adopted.{MayAdopt}
use Rattle.histories.specs.Headline.{IsAdoptionOf}
use Rattle.histories.specs.Legal.{Legal}
use Rattle.histories.proofs.Applying.{first_none, when_none}
use Rattle.histories.proofs.Claiming.{later_none}
use Rattle.histories.proofs.Headlines.{step_at}

-- a status write that nothing refuses grants an allocation of the one claim
abbrev pub StatusLaw : Type 0
StatusLaw = (s : State) (claim : Key) (status : ClaimStatus) (c : ClaimState) → at_key s.claims claim ≡ Some c → failing_status s claim status ≡ None
    → (choice : List ℕ) × IsAllocation s (record c.claim.object { key = claim } ∷ []) status.node choice (granted_by claim status ∷ [])

no_failure : (o : Option Failure) → option_map refusal.Failure o ≡ None → o ≡ None
no_failure None e = refl
no_failure (Some f) e = absurd (cc)

no_grant : (g : Option Granted) → is_some g ≡ false → g ≡ None
no_grant None e = refl
no_grant (Some g) e = absurd (cc)

-- a claim that may be adopted is there, and has no grant
free_claim : (status : ClaimStatus) (o : Option ClaimState) → status_refusal status o ≡ None → (c : ClaimState) × (o ≡ Some c) × (c.grant ≡ None)
free_claim status None e = absurd (cc)
free_claim status (Some c) e =
    (c, refl, no_grant c.grant (when_none (is_some c.grant) refusal.Exists (later_none (conflict_of status.version (Some c.claim.version)) (when (is_some c.grant) refusal.Exists) e)))

-- and so is one that a status write is for
pub adopted_free : (s : State) (claim : Key) (status : ClaimStatus) → MayAdopt s claim status → (c : ClaimState) × (at_key s.claims claim ≡ Some c) × (c.grant ≡ None)
adopted_free s claim status may =
    free_claim status (at_key s.claims claim)
    (first_none (status_refusal status (at_key s.claims claim)) (option_map refusal.Failure (failing_status s claim status)) may.unrefused)

pub adoption_of : StatusLaw → (h : List Entry) (claim : Key) (status : ClaimStatus) → MayAdopt (state_of h) claim status → IsAdoptionOf h claim status
adoption_of law h claim status may =
    let s : State = state_of h in
    let failure : Option Refusal = option_map refusal.Failure (failing_status s claim status) in
    let free = adopted_free s claim status may in
    let sound = no_failure (failing_status s claim status) (later_none (status_refusal status (at_key s.claims claim)) failure may.unrefused) in
    let a = law s claim status free.0 free.1 sound in
    record { state = free.0; there = free.1; free = free.2; choice = a.0; allocation = a.1 }

pub adoption_at : StatusLaw → (prefix back : List Entry) (job : ℕ) (claim : Key) (status : ClaimStatus) → Legal (prefix ++ record { job = job; event = Adopted claim status } ∷ back) → IsAdoptionOf prefix claim status
adoption_at law prefix back job claim status legal =
    adoption_of law prefix claim status (step_at prefix (record { job = job; event = Adopted claim status }) back legal).follows
