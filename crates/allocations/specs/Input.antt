-- The input of a search of a node, in a state, and what the search returns.
use Rattle.std.specs.Prelude.{ℕ, List, map}
use Rattle.api_claim.specs.declared.types.ResourceClaim.{ResourceClaim}
use Rattle.api_cluster.specs.declared.types.Pod.{Pod}
use Rattle.walk.specs.Walk.{Item, walk}
use Rattle.walk.specs.Outcome.{Outcome, outcome}
use Rattle.request_rules.specs.Draws.{drawn, value_among}
use Rattle.pool_view.specs.Usable.{has_broken, node_devices, usable_slices}
use Rattle.cluster.specs.declared.plan.DeviceResult.{DeviceResult}
use Rattle.cluster.specs.declared.plan.Grant.{Grant}
use Rattle.cluster.specs.declared.plan.SelectorFault.{SelectorFault}
use Rattle.cluster.specs.declared.state.State.{State}
use Rattle.cluster.specs.Held.{held}
use Rattle.request_rules.specs.Allocation.{Result, results_of}
use Rattle.request_rules.specs.Faults.{FaultPlace}
use Rattle.request_rules.specs.Grants.{ClaimResults, NamedResult, grants_of}
use Rattle.request_rules.specs.Input.{SearchInput}
use Rattle.request_rules.specs.Problem.{problem_of}
use Rattle.request_rules.specs.Match.{matched_by}
use Rattle.allocations.specs.Claims.{wanted}

unfoldable pub input_of : State → List ResourceClaim → List ℕ → SearchInput
input_of s claims node = record {
  devices = node_devices s.inventory node;
  claims = claims;
  matched = matched_by s.classes;
  held = held s;
  value = value_among (usable_slices s.inventory);
  drawn = drawn (usable_slices s.inventory) (held s);
  broken = has_broken s.inventory node;
}

-- the input of a search of a node for a pod
abbrev pub input_for : State → Pod → List ℕ → SearchInput
input_for s pod node = input_of s (wanted s pod) node

-- the walk of a node for a pod
unfoldable pub walk_on : State → Pod → List ℕ → List Item
walk_on s pod node = walk (problem_of (input_for s pod node))

-- what a search of a node for a pod returns within a budget
unfoldable pub outcome_on : State → Pod → List ℕ → ℕ → Outcome
outcome_on s pod node budget = outcome budget (walk_on s pod node)

-- ---- results and evaluation errors as plans have them

abbrev pub device_result : NamedResult → DeviceResult
device_result r = record { name = r.name; device = r.device; admin = r.admin }

abbrev pub grant_of : ClaimResults → Grant
grant_of g = record { claim = g.claim; results = map device_result g.results }

-- the results, claim by claim
unfoldable pub grants_by : SearchInput → List Result → List Grant
grants_by w results = map grant_of (grants_of w results)

-- the grants of the devices at an item's positions
abbrev pub grants_at : SearchInput → Item → List Grant
grants_at w x = grants_by w (results_of w x.choice x.positions)

abbrev pub selector_fault : FaultPlace → SelectorFault
selector_fault f = record { claim = f.claim; request = f.request; selector = f.selector; device = f.device; cause = f.cause }
