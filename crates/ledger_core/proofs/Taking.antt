-- What is so of the devices that claims hold where a plan is reserved, and where a status write is adopted.
use Rattle.std.proofs.Common.{ℕ, ◌+◌, ◌≡◌, List, Option, None, Some, is_some, map, length, refl, sym, subst}
use Rattle.object_fields.specs.declared.key.Key.{Key}
use Rattle.api_claim.specs.declared.types.ClaimStatus.{ClaimStatus}
use Rattle.counter_sets.specs.Holding.{Holders}
use Rattle.counter_sets.specs.Totals.{KeptCounters}
use Rattle.pool_view.specs.Names.{at_key}
use Rattle.cluster.specs.declared.entry.Command.TheVariants.{Adopt}
use Rattle.cluster.specs.declared.entry.Entry.{Entry}
use Rattle.cluster.specs.declared.entry.Event.TheVariants.{Adopted, Reserved}
use Rattle.cluster.specs.declared.entry.Refusal.{Refusal}
use Rattle.cluster.specs.declared.entry.Refusal.TheVariants as refusal
use Rattle.cluster.specs.declared.entry.JobState.{JobState}
use Rattle.cluster.specs.declared.plan.Plan.{Plan}
use Rattle.cluster.specs.declared.state.ClaimState.{ClaimState}
use Rattle.cluster.specs.declared.state.Granted.{Granted}
use Rattle.cluster.specs.declared.state.State.{State}
use Rattle.cluster.specs.Adopted.{result_of, with_adopted}
use Rattle.cluster.specs.Denied.{conflict_of, first_refusal, or_else, status_refusal, when}
use Rattle.cluster.specs.History.{state_of}
use Rattle.cluster.specs.Reserved.{with_reserved}
use Rattle.histories.specs.Denied.{grant_refusal}
use Rattle.ledger_core.specs.Ledger.{IsKept}
use Rattle.histories.specs.Legal.{Step}
use Rattle.ledger_core.proofs.Giving.{Adopts, Reserves, adopts, reserves}
use Rattle.ledger_core.proofs.Keeping.{OneHolder, once_after}
use Rattle.ledger_core.proofs.Opening.{Grantable, Open, allocation_opens}

pub taking : OneHolder → (es : List Entry) (s : State) (hs : Holders) (ts : KeptCounters) (job_states : List (ℕ × JobState)) (limit : ℕ) → IsKept es s hs ts job_states limit → (job : ℕ) (pod : Key) (plan : Plan)
    → Step es (record { job = job; event = Reserved pod plan }) → Reserves s (with_reserved job pod plan s) plan.grants
taking law es s hs ts job_states limit kept job pod plan step =
    let holds = step.follows.holds_now in
    let able = allocation_opens (state_of es) holds.state.pod.object plan.node holds.choice plan.grants holds.allocation in
    reserves s job pod plan (subst (λ (t : State). Grantable t.claims plan.grants) (sym kept.state_is) able)
    (once_after law es (record { job = job; event = Reserved pod plan }) s hs ts job_states limit kept step)

first_none : (a b : Option Refusal) → or_else a b ≡ None → a ≡ None
first_none None b e = refl
first_none (Some r) b e = absurd (cc)

later_none : (a b : Option Refusal) → or_else a b ≡ None → b ≡ None
later_none None b e = e
later_none (Some r) b e = absurd (cc)

ungranted : (g : Option Granted) → when (is_some g) refusal.Exists ≡ None → g ≡ None
ungranted None e = refl
ungranted (Some g) e = absurd (cc)

open_by : (s : State) (claim : Key) (status : ClaimStatus) (o : Option ClaimState) → at_key s.claims claim ≡ o → status_refusal status o ≡ None → Open s.claims claim
open_by s claim status None is e = absurd (cc)
open_by s claim status (Some c) is e =
    record { claim = c; there = is; none = ungranted c.grant (later_none (conflict_of status.version (Some c.claim.version)) (when (is_some c.grant) refusal.Exists) e) }

-- a claim to which nothing refuses a status write is there without a grant
pub open_claim : (s : State) (claim : Key) (status : ClaimStatus) → first_refusal s (Adopt claim status) ≡ None → Open s.claims claim
open_claim s claim status e = open_by s claim status (at_key s.claims claim) refl e

pub adopting : OneHolder → (es : List Entry) (s : State) (hs : Holders) (ts : KeptCounters) (job_states : List (ℕ × JobState)) (limit : ℕ) → IsKept es s hs ts job_states limit → (job : ℕ) (claim : Key) (status : ClaimStatus)
    → Step es (record { job = job; event = Adopted claim status }) → Adopts s (with_adopted (length es + 1) claim status s) claim (map result_of status.results)
adopting law es s hs ts job_states limit kept job claim status step =
    let now = state_of es in
    let unrefused = first_none (first_refusal now (Adopt claim status)) (grant_refusal now (Adopt claim status)) step.follows.unrefused in
    adopts s (length es + 1) claim status (subst (λ (t : State). Open t.claims claim) (sym kept.state_is) (open_claim now claim status unrefused))
    (once_after law es (record { job = job; event = Adopted claim status }) s hs ts job_states limit kept step)
