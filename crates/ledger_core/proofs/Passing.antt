-- A true plan has no failure at the state that it was made for.
use Rattle.std.proofs.Common.{ℕ, ◌≡◌, List, [], ◌∷◌, Bool, true, false, cond, Option, None, Some, subst}
use Rattle.std.specs.BTreeMap.{is_at}
use Rattle.object_fields.specs.declared.key.Key.{Key}
use Rattle.api_claim.specs.Limits.{ClaimKept, EachOf}
use Rattle.pool_view.specs.Names.{at_key, key_cmp}
use Rattle.cluster.specs.declared.entry.Entry.{Entry}
use Rattle.cluster.specs.declared.plan.Plan.{Plan}
use Rattle.cluster.specs.declared.state.ClaimState.{ClaimState}
use Rattle.cluster.specs.declared.state.PodState.{PodState}
use Rattle.cluster.specs.declared.state.State.{State}
use Rattle.cluster.specs.History.{state_of}
use Rattle.allocations.specs.Allocation.{IsAllocation}
use Rattle.allocations.specs.Claims.{wanted}
use Rattle.plan_rules.specs.Plans.{Holds, PlanTrue}
use Rattle.plan_rules.specs.Failing.{failing}
use Rattle.plan_rules.specs.Fits.{FitsPod, IsOfPod}
use Rattle.plan_rules.specs.Meant.{KeepLimits, KnewItsPod}
use Rattle.histories.specs.Legal.{Legal}
use Rattle.histories.specs.Limits.{ObjectsKept}

-- what is used of the lower crates
pub record Checks : Type 0 where
  pub holds : (s : State) (pod : Key) (plan : Plan) → PlanTrue s pod plan → Holds s pod plan
  pub fits : (s : State) (pod : Key) (p : PodState) (plan : Plan) → IsOfPod s pod p plan → KnewItsPod p plan × FitsPod s pod p plan
  pub passes : (s : State) (pod : Key) (plan : Plan) (p : PodState) (choice : List ℕ) → KeepLimits s → FitsPod s pod p plan → IsAllocation s (wanted s p.pod.object) plan.node choice plan.grants → failing s pod plan ≡ None
  pub limits : (h : List Entry) → Legal h → ObjectsKept (state_of h)

abbrev Claims : Type 0
Claims = List (Key × ClaimState)

here_by : (b : Bool) (v w : ClaimState) (o : Option ClaimState) → cond b (Some v) o ≡ Some w → ClaimKept v.claim.object → (o ≡ Some w → ClaimKept w.claim.object) → ClaimKept w.claim.object
here_by true v w o e here later = let same : v ≡ w = cc in subst (λ (x : ClaimState). ClaimKept x.claim.object) same here
here_by false v w o e here later = later e

-- what is said of each claim of a table is said of the one at a key
kept_at : (claims : Claims) (k : Key) (c : ClaimState) → EachOf (λ e. ClaimKept e.1.claim.object) claims → at_key claims k ≡ Some c → ClaimKept c.claim.object
kept_at [] k c each there = absurd cc
kept_at (e ∷ es) k c each there = here_by (is_at (key_cmp k) e.0) e.1 c (at_key es k) there each.0 (λ later. kept_at es k c each.1 later)

pub unfailing : Checks → (h : List Entry) (pod : Key) (plan : Plan) → Legal h → PlanTrue (state_of h) pod plan → failing (state_of h) pod plan ≡ None
unfailing laws h pod plan legal plan_true =
    let s : State = state_of h in
    let hold : Holds s pod plan = laws.holds s pod plan plan_true in
    let of_pod : IsOfPod s pod hold.state plan = record { there = hold.idle.there; known = hold.known; claims = hold.there; users = hold.users; here = hold.here; joins = hold.joins } in
    let kept = (laws.limits h legal).claims in
    laws.passes s pod plan hold.state hold.choice (record { claims = λ k c there. kept_at s.claims k c kept there }) (laws.fits s pod hold.state plan of_pod).1 hold.allocation
