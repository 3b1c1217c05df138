-- A claim that is adopted keeps one holder for each device.
use Rattle.std.proofs.Common.{ℕ, ◌≡◌, ◌∙◌, List, [], ◌∷◌, ◌++◌, Bool, true, false, cond, Option, None, Some, map, refl, sym, ap, subst}
use Rattle.std.specs.List.{flat_map, slice_get}
use Rattle.std.specs.Map.{set_value}
use Rattle.std.specs.Option.{option_map_or}
use Rattle.std.specs.BTreeMap.{is_at}
use Rattle.object_fields.specs.declared.key.DeviceId.{DeviceId}
use Rattle.object_fields.specs.declared.key.Key.{Key}
use Rattle.api_claim.specs.declared.types.ClaimStatus.{ClaimStatus}
use Rattle.api_cluster.specs.declared.types.Pod.{Pod}
use Rattle.pool_view.specs.Names.{at_key, key_cmp}
use Rattle.cluster.specs.declared.plan.Plan.{Plan}
use Rattle.cluster.specs.declared.state.ClaimState.{ClaimState}
use Rattle.cluster.specs.declared.state.State.{State}
use Rattle.cluster.specs.Adopted.{adopted_by, with_adopted}
use Rattle.cluster.specs.Held.{HeldOnce, held, held_by}
use Rattle.cluster.specs.Reserved.{with_reserved}
use Rattle.allocations.specs.Allocation.{IsAllocation}
use Rattle.allocations.specs.Claims.{add_ungranted, add_wanted, wanted}
use Rattle.plan_rules.specs.Failing.{granted_by}

abbrev Claims : Type 0
Claims = List (Key × ClaimState)

-- the devices of claims, each with the claim's key
abbrev held_at : Key → ClaimState → List (DeviceId × Key)
held_at k c = map (λ d. (d, k)) (held_by c.grant)

abbrev held_in : Claims → List (DeviceId × Key)
held_in claims = flat_map (λ e. held_at e.0 e.1) claims

-- where the same devices are held
once_same : (s t : State) → held_in t.claims ≡ held_in s.claims → HeldOnce s → HeldOnce t
unfolding held
once_same s t same h = record { apart = λ i j p q lt f g. h.apart i j p q lt (ap (λ ps. slice_get ps i) (sym same) ∙ f) (ap (λ ps. slice_get ps j) (sym same) ∙ g) }

set_by : (b : Bool) (e : Key × ClaimState) (es more others : Claims) (v w : ClaimState) → held_by v.grant ≡ held_by w.grant → held_in more ≡ held_in others
    → held_in (cond b ((e.0, v) ∷ es) (e ∷ more)) ≡ held_in (cond b ((e.0, w) ∷ es) (e ∷ others))
set_by true e es more others v w same later = ap (λ ds. map (λ d. (d, e.0)) ds ++ held_in es) same
set_by false e es more others v w same later = ap (λ ps. held_at e.0 e.1 ++ ps) later

-- two values that hold the same
set_same : (test : Key → Bool) (es : Claims) (v w : ClaimState) → held_by v.grant ≡ held_by w.grant → held_in (set_value test es v) ≡ held_in (set_value test es w)
set_same test [] v w same = refl
set_same test (e ∷ es) v w same = set_by (test e.0) e es (set_value test es v) (set_value test es w) v w same (set_same test es v w same)

-- a pod that names the claim alone
abbrev pod_for : Key → Pod
pod_for claim = record { key = claim; version = None; claims = record { name = []; claim = claim.name } ∷ [] }

-- a plan of the grant alone
abbrev plan_for : Key → ClaimStatus → Plan
plan_for claim status = record { at = 0; node = status.node; passed = []; grants = granted_by claim status ∷ []; joins = []; known = record { pod = 0; claims = [] } }

one_wanted : (s : State) (claim : Key) (c : ClaimState) → at_key s.claims claim ≡ Some c → c.grant ≡ None → wanted s (pod_for claim) ≡ record c.claim.object { key = claim } ∷ []
unfolding wanted
one_wanted s claim c there none = ap (λ o. add_wanted claim o []) there ∙ ap (λ g. add_ungranted claim c g []) none

-- the grant holds what it would if a pod that names the claim alone had it
adopted_same : (s : State) (index : ℕ) (claim : Key) (status : ClaimStatus) (o : Option ClaimState) → at_key s.claims claim ≡ o
    → held_in (with_adopted index claim status s).claims ≡ held_in (with_reserved 0 claim (plan_for claim status) s).claims
adopted_same s index claim status None is =
    let first : (with_adopted index claim status s).claims ≡ s.claims = ap (λ o. option_map_or (λ c. set_value (is_at (key_cmp claim)) s.claims (adopted_by index status c)) o s.claims) is in
    let second : (with_reserved 0 claim (plan_for claim status) s).claims ≡ s.claims = rw is refl in
    ap held_in (first ∙ sym second)
adopted_same s index claim status (Some c) is = rw is (set_same (is_at (key_cmp claim)) s.claims _ _ refl)

abbrev pub GrantsLaw : Type 0
GrantsLaw = (s : State) (job : ℕ) (pod : Key) (p : Pod) (plan : Plan) (choice : List ℕ) → IsAllocation s (wanted s p) plan.node choice plan.grants → HeldOnce s → HeldOnce (with_reserved job pod plan s)

pub adopted_once : GrantsLaw → (s : State) (index : ℕ) (claim : Key) (status : ClaimStatus) (c : ClaimState) (choice : List ℕ) → at_key s.claims claim ≡ Some c → c.grant ≡ None
    → IsAllocation s (record c.claim.object { key = claim } ∷ []) status.node choice (granted_by claim status ∷ []) → HeldOnce s → HeldOnce (with_adopted index claim status s)
adopted_once law s index claim status c choice there free a once =
    let meant : IsAllocation s (wanted s (pod_for claim)) status.node choice (granted_by claim status ∷ []) =
    subst (λ cs. IsAllocation s cs status.node choice (granted_by claim status ∷ [])) (sym (one_wanted s claim c there free)) a in
    once_same (with_reserved 0 claim (plan_for claim status) s) (with_adopted index claim status s) (adopted_same s index claim status (at_key s.claims claim) refl)
    (law s 0 claim (pod_for claim) (plan_for claim status) choice meant once)
