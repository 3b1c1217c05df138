-- What a search returns.
use Rattle.std.specs.Prelude.{ℕ, List, Option, None, Some, map, option_map}
use Rattle.walk.specs.Walk.{Item, Mark, Part, Full, Fault, walk}
use Rattle.walk.specs.Outcome as walks
use Rattle.walk.specs.Outcome.{outcome}
use Rattle.cluster.specs.declared.plan.DeviceResult.{DeviceResult}
use Rattle.cluster.specs.declared.plan.Grant.{Grant}
use Rattle.cluster.specs.declared.plan.SelectorFault.{SelectorFault}
use Rattle.request_rules.specs.Input.{SearchInput}
use Rattle.request_rules.specs.Problem.{problem_of}
use Rattle.request_rules.specs.Faults.{FaultPlace, fault_of}
use Rattle.request_rules.specs.Allocation.{result_of, results_of}
use Rattle.request_rules.specs.Rules.{Pick}
use Rattle.request_rules.specs.Grants.{ClaimResults, NamedResult, grants_of, named_result, results_at}
use Rattle.allocator.specs.declared.outcome.Outcome.{Outcome}
use Rattle.allocator.specs.declared.outcome.Outcome.TheVariants as outcome

abbrev pub device_result : NamedResult → DeviceResult
device_result r = record { name = r.name; device = r.device; admin = r.admin }

-- the results of the claim at an index, among devices that are placed
abbrev pub granted : SearchInput → ℕ → List Pick → List DeviceResult
granted w i ps = map device_result (map named_result (results_at i (map (result_of w) ps)))

abbrev pub grant_of : ClaimResults → Grant
grant_of c = record { claim = c.claim; results = map device_result c.results }

abbrev pub selector_fault : FaultPlace → SelectorFault
selector_fault f = record { claim = f.claim; request = f.request; selector = f.selector; device = f.device; cause = f.cause }

-- the grants of an allocation by its choice and positions
unfoldable pub grants_at : SearchInput → List ℕ → List ℕ → List Grant
grants_at w c l = map grant_of (grants_of w (results_of w c l))

abbrev pub ended_by : SearchInput → Item → Mark → Option Outcome
ended_by w x Part = None
ended_by w x Full = Some (outcome.Found (grants_at w x.choice x.positions))
ended_by w x Fault = option_map (λ f. outcome.Fault (selector_fault f)) (fault_of w x.choice)

-- what is returned if the walk has this outcome
abbrev pub answer_by : SearchInput → walks.Outcome → Option Outcome
answer_by w (walks.Ended x) = ended_by w x x.mark
answer_by w walks.Unsat = Some outcome.Unsat
answer_by w walks.Budget = Some outcome.Budget

-- the outcome of a search within a budget of so many items of its walk
unfoldable pub answer_of : SearchInput → ℕ → Option Outcome
answer_of w budget = answer_by w (outcome budget (walk (problem_of w)))
