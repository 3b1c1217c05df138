-- The first failure of a plan against a state, and of a status write.
use Rattle.std.specs.Prelude.{ℕ, List, [], ◌∷◌, Option, None, Some, is_none, map, if◌then◌else◌}
use Rattle.object_fields.specs.declared.key.Key.{Key}
use Rattle.api_claim.specs.declared.types.ClaimStatus.{ClaimStatus}
use Rattle.api_claim.specs.declared.types.ResourceClaim.{ResourceClaim}
use Rattle.api_claim.specs.declared.types.StatusResult.{StatusResult}
use Rattle.pool_view.specs.Names.{at_key, at_name}
use Rattle.cluster.specs.declared.plan.DeviceResult.{DeviceResult}
use Rattle.cluster.specs.declared.plan.Grant.{Grant}
use Rattle.cluster.specs.declared.plan.Plan.{Plan}
use Rattle.cluster.specs.declared.state.ClaimState.{ClaimState}
use Rattle.cluster.specs.declared.state.PodState.{PodState}
use Rattle.cluster.specs.declared.state.State.{State}
use Rattle.allocations.specs.Claims.{wanted}
use Rattle.allocations.specs.Input.{input_of}
use Rattle.request_rules.specs.Input.{SearchInput}
use Rattle.request_rules.specs.Lists.{or_else}
use Rattle.plan_rules.specs.Chosen.{Due, choice_of, dues, pick_of}
use Rattle.plan_rules.specs.Known.{changed, claim_full, claim_gone}
use Rattle.plan_rules.specs.Shaped.{misshapen}
use Rattle.plan_rules.specs.Standing.{constraint_broken, counter_short, device_gone, held, selector_fault, selector_no, tainted}
use Rattle.cluster.specs.declared.failure.Failure.{Failure}
use Rattle.cluster.specs.declared.failure.Failure.TheVariants.{ClaimChanged, NodeGone}

-- the first failure of results that meet their requests, which tolerate their devices' taints
abbrev pub failing_standing : SearchInput → List Due → Option Failure
failing_standing w ds =
    or_else (held w.held ds)
    (or_else (counter_short w (map (pick_of w) ds)) (constraint_broken w (map (pick_of w) ds)))

-- the first failure of results that meet their requests
abbrev pub failing_tolerated : SearchInput → List Due → Option Failure
failing_tolerated w ds = or_else (tainted w ds) (failing_standing w ds)

-- the first failure of results of the right shape, whose devices are the node's
abbrev pub failing_shaped : SearchInput → List ℕ → List Due → Option Failure
failing_shaped w choice ds = or_else (selector_no w ds) (or_else (selector_fault w choice) (failing_tolerated w ds))

-- the first failure of the grants on a node that exists
unfoldable pub failing_in : SearchInput → List Grant → Option Failure
failing_in w grants =
    or_else (device_gone w.devices grants)
    (or_else (misshapen w grants)
    (failing_shaped w (choice_of w grants) (dues w grants)))

-- the node doesn't exist
abbrev pub node_gone : State → List ℕ → Option Failure
node_gone s node = if is_none (at_name s.inventory.nodes node) then Some (NodeGone node) else None

-- the first failure of grants of these claims on a node
unfoldable pub failing_at : State → List ResourceClaim → List ℕ → List Grant → Option Failure
failing_at s claims node grants = or_else (node_gone s node) (failing_in (input_of s claims node) grants)

-- the first failure of the plan for a pod that exists, whose claims all exist
abbrev pub failing_pod : State → Key → PodState → Plan → Option Failure
failing_pod s pod p plan =
    or_else (changed s pod p plan)
    (or_else (claim_full s pod plan.known.claims)
    (failing_at s (wanted s p.pod.object) plan.node plan.grants))

-- A pod that doesn't exist doesn't have the uid that the plan knew.
abbrev pub failing_for : State → Key → Option PodState → Plan → Option Failure
failing_for s pod None plan = Some (ClaimChanged pod)
failing_for s pod (Some p) plan = failing_pod s pod p plan

-- the first failure of the plan, or none
unfoldable pub failing : State → Key → Plan → Option Failure
failing s pod plan = or_else (claim_gone s plan.known.claims) (failing_for s pod (at_key s.pods pod) plan)

-- ---- a status write

abbrev pub result_of : StatusResult → DeviceResult
result_of r = record { name = r.request; device = r.device; admin = r.admin }

-- the results as what is granted to the claim
abbrev pub granted_by : Key → ClaimStatus → Grant
granted_by claim status = record { claim = claim; results = map result_of status.results }

-- the first failure of a status write to this claim, whose results are what is granted to it on their node
abbrev pub failing_results : State → Key → ResourceClaim → ClaimStatus → Option Failure
failing_results s key c status = failing_at s (record c { key = key } ∷ []) status.node (granted_by key status ∷ [])

abbrev pub failing_write : State → Key → ClaimStatus → Option ClaimState → Option Failure
failing_write s claim status None = None
failing_write s claim status (Some c) = failing_results s claim c.claim.object status

-- the first failure of a status write to a claim that exists, or none
unfoldable pub failing_status : State → Key → ClaimStatus → Option Failure
failing_status s claim status = failing_write s claim status (at_key s.claims claim)
