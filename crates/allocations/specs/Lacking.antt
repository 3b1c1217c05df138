-- Nodes that are known to have no allocation, since an index.
use Rattle.std.specs.Prelude.{ℕ, ◌≡◌, ◌≤◌, List, unwrap_or}
use Rattle.std.specs.BTreeMap.{is_at}
use Rattle.std.specs.Map.{lookup}
use Rattle.api_claim.specs.declared.types.ResourceClaim.{ResourceClaim}
use Rattle.pool_view.specs.declared.names.PoolName.{PoolName}
use Rattle.pool_view.specs.Usable.{node_devices, pool_cmp, pool_named}
use Rattle.cluster.specs.declared.state.State.{State}
use Rattle.request_rules.specs.Growth.{ClaimSpec, specs_of}
use Rattle.request_rules.specs.Lists.{Each}
use Rattle.request_rules.specs.Problem.{problem_of}
use Rattle.walk.specs.Outcome.{Outcome, Unsat, outcome}
use Rattle.walk.specs.Walk.{walk}
use Rattle.allocations.specs.Input.{input_of}

-- the index of the last entry that changed nodes, slices or classes, and for each pool that of the last one that may
-- have freed a device of it
pub record Dates : Type 0 where
  pub objects : ℕ
  pub freed : List (PoolName × ℕ)

-- that of a pool, or 0
abbrev pub freed_for : Dates → PoolName → ℕ
freed_for d pool = unwrap_or (lookup (is_at (pool_cmp pool)) d.freed) 0

-- Since the index nothing that a search of the node depends on has changed, but that claims may hold more.
pub record IsSince (s : State) (d : Dates) (node : List ℕ) (index : ℕ) : Type 0 where
  pub objects : d.objects ≤ index
  pub pools : Each (λ o. freed_for d (pool_named o.slice) ≤ index) (node_devices s.inventory node)

-- what a search of a node for claims returns within a budget
abbrev pub outcome_for : State → List ResourceClaim → List ℕ → ℕ → Outcome
outcome_for s claims node budget = outcome budget (walk (problem_of (input_of s claims node)))

-- a search of the node within the budget, at the index, for claims that ask for this, found neither an allocation nor an
-- evaluation error
pub record Lacking : Type 0 where
  pub specs : List ClaimSpec
  pub budget : ℕ
  pub node : List ℕ
  pub index : ℕ

-- If nothing but what claims hold has changed since, it finds none either.
pub record IsLacking (s : State) (d : Dates) (row : Lacking) : Type 0 where
  pub none : IsSince s d row.node row.index → (claims : List ResourceClaim) → specs_of claims ≡ row.specs → outcome_for s claims row.node row.budget ≡ Unsat
