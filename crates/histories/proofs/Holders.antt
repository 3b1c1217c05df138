-- Each device has one holder in each state of a legal history.
use Rattle.std.proofs.Common.{ℕ, ◌+◌, ◌≡◌, List, [], ◌∷◌, None, Some, length}
use Rattle.object_fields.specs.declared.key.Key.{Key}
use Rattle.api_claim.specs.declared.types.ClaimStatus.{ClaimStatus}
use Rattle.pool_view.specs.Names.{at_key}
use Rattle.cluster.specs.declared.object.Object.{Object}
use Rattle.cluster.specs.declared.object.Target.{Target}
use Rattle.cluster.specs.declared.plan.Plan.{Plan}
use Rattle.cluster.specs.declared.state.ClaimState.{ClaimState}
use Rattle.cluster.specs.declared.state.State.{State}
use Rattle.cluster.specs.State.{empty_state}
use Rattle.cluster.specs.Adopted.{with_adopted}
use Rattle.cluster.specs.Bound.{with_bound}
use Rattle.cluster.specs.Applied.{with_object}
use Rattle.cluster.specs.Deleted.{without_object}
use Rattle.cluster.specs.Held.{HeldOnce}
use Rattle.cluster.specs.Released.{with_released}
use Rattle.cluster.specs.Reserved.{with_reserved}
use Rattle.cluster.specs.Unreserved.{with_unreserved}
use Rattle.cluster.specs.Wrote.{with_written}
use Rattle.cluster.specs.declared.entry.Entry.{Entry}
use Rattle.cluster.specs.declared.entry.Event.{Event}
use Rattle.cluster.specs.declared.entry.Event.TheVariants.{Applied, Deleted, Reserved, Refused, Wrote, Conflict, Unreserved, Bound, VerdictGiven, Contended, Released, Adopted, Denied}
use Rattle.cluster.specs.Events.{after}
use Rattle.cluster.specs.History.{state_of, state_at}
use Rattle.allocations.specs.Allocation.{IsAllocation}
use Rattle.plan_rules.specs.Plans.{Holds}
use Rattle.plan_rules.specs.Failing.{granted_by}
use Rattle.histories.specs.Legal.{Legal, MayFollow}
use Rattle.histories.proofs.Adopting.{StatusLaw, adoption_of}
use Rattle.histories.proofs.Headlines.{at_places}
use Rattle.histories.proofs.Always.{always_state}

-- adopting a claim without a grant, of which the status is an allocation
abbrev pub AdoptedLaw : Type 0
AdoptedLaw = (s : State) (index : ℕ) (claim : Key) (status : ClaimStatus) (c : ClaimState) (choice : List ℕ) → at_key s.claims claim ≡ Some c → c.grant ≡ None
    → IsAllocation s (record c.claim.object { key = claim } ∷ []) status.node choice (granted_by claim status ∷ []) → HeldOnce s → HeldOnce (with_adopted index claim status s)

module _ (empty : HeldOnce empty_state)
    (created : (index : ℕ) (object : Object) (s : State) → HeldOnce s → HeldOnce (with_object index object s))
    (deleted : (target : Target) (s : State) → HeldOnce s → HeldOnce (without_object target s))
    (reserved : (s : State) (job : ℕ) (pod : Key) (plan : Plan) → Holds s pod plan → HeldOnce s → HeldOnce (with_reserved job pod plan s))
    (written : (index : ℕ) (pod claim : Key) (s : State) → HeldOnce s → HeldOnce (with_written index pod claim s))
    (bound : (pod : Key) (node : List ℕ) (s : State) → HeldOnce s → HeldOnce (with_bound pod node s))
    (unreserved : (index : ℕ) (pod : Key) (s : State) → HeldOnce s → HeldOnce (with_unreserved index pod s))
    (released : (index : ℕ) (pod : Key) (s : State) → HeldOnce s → HeldOnce (with_released index pod s))
    (adopted : AdoptedLaw) (status_law : StatusLaw) where
  -- an entry that may be appended keeps it
  once_after : (before : List Entry) (index job : ℕ) (event : Event) → MayFollow before job event → HeldOnce (state_of before) → HeldOnce (after index job event (state_of before))
  once_after before index job (Applied object mode) may h = created index object (state_of before) h
  once_after before index job (Deleted target) may h = deleted target (state_of before) h
  once_after before index job (Reserved pod plan) may h = reserved (state_of before) job pod plan may.holds_now h
  once_after before index job (Refused pod plan why) may h = h
  once_after before index job (Wrote pod claim seen) may h = written index pod claim (state_of before) h
  once_after before index job (Conflict pod claim had now) may h = h
  once_after before index job (Unreserved pod) may h = unreserved index pod (state_of before) h
  once_after before index job (Bound pod node) may h = bound pod node (state_of before) h
  once_after before index job (VerdictGiven pod verdict) may h = h
  once_after before index job (Contended pod attempts) may h = h
  once_after before index job (Released pod) may h = released index pod (state_of before) h
  once_after before index job (Adopted claim status) may h =
      let a = adoption_of status_law before claim status may in
      adopted (state_of before) index claim status a.state a.choice a.there a.free a.allocation h
  once_after before index job (Denied command refusal) may h = h

  pub once_now : (h : List Entry) → Legal h → HeldOnce (state_of h)
  once_now h legal = always_state HeldOnce empty (λ g e l s p. once_after g (length g + 1) e.job e.event s.follows p) h legal

  pub once_at : (h : List Entry) (index : ℕ) → Legal h → HeldOnce (state_at h index)
  once_at h index legal = at_places HeldOnce once_now h index legal
