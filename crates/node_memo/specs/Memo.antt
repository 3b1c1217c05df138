-- What is known of nodes without an allocation.
use Rattle.std.specs.Prelude.{ℕ, ◌≡◌, ◌≤◌, ◌⊎◌, List, Option, Some, slice_get}
use Rattle.pool_view.specs.declared.names.PoolName.{PoolName}
use Rattle.pool_view.specs.Usable.{node_devices, pool_named}
use Rattle.cluster.specs.declared.state.State.{State}
use Rattle.request_rules.specs.Growth.{ClaimSpec}
use Rattle.request_rules.specs.Lists.{Each}
use Rattle.allocations.specs.Lacking.{Dates, IsLacking, Lacking, freed_for}
use Rattle.node_memo.specs.declared.nodes.LackingNode.{LackingNode}

-- the pool is one of these
pub record IsAmong (pools : List PoolName) (pool : PoolName) : Type 0 where
  pub position : ℕ
  pub there : slice_get pools position ≡ Some pool

-- the nodes that are known to have no allocation for claims that ask for this, within a budget, each at its position
pub record NodesFields : Type 0 where
  pub specs : List ClaimSpec
  pub budget : ℕ
  pub rows : List (Option LackingNode)

abbrev pub lacking_by : List ClaimSpec → ℕ → LackingNode → Lacking
lacking_by specs budget row = record { specs = specs; budget = budget; node = row.node; index = row.index }

-- What a row says is true in the state of these dates, after so many entries: of an index that the history has had; it has
-- the pools of the node's devices, if nodes, slices and classes haven't changed since; and the node lacks an allocation.
pub record TellsRow (s : State) (d : Dates) (specs : List ClaimSpec) (budget : ℕ) (row : LackingNode) (at : ℕ) : Type 0 where
  pub within : row.index ≤ at
  pub pools : d.objects ≤ row.index → Each (λ o. IsAmong row.pools (pool_named o.slice)) (node_devices s.inventory row.node)
  pub lacking : IsLacking s d (lacking_by specs budget row)

-- so is each row of a list
pub record TellsOf (s : State) (d : Dates) (nodes : NodesFields) (at : ℕ) : Type 0 where
  pub each : (i : ℕ) (row : LackingNode) → slice_get nodes.rows i ≡ Some (Some row) → TellsRow s d nodes.specs nodes.budget row at

-- and each row of a memo
pub record Tells (s : State) (d : Dates) (memo : List NodesFields) (at : ℕ) : Type 0 where
  pub each : Each (λ nodes. TellsOf s d nodes at) memo

-- ---- how rows are used and kept

-- nothing that the row depends on has changed since its index
pub record IsRowSince (d : Dates) (row : LackingNode) : Type 0 where
  pub objects : d.objects ≤ row.index
  pub pools : Each (λ p. freed_for d p ≤ row.index) row.pools

-- the row at a position is of the node, and nothing that it depends on has changed since its index
pub record IsKnownAt (rows : List (Option LackingNode)) (position : ℕ) (node : List ℕ) (d : Dates) : Type 0 where
  pub row : LackingNode
  pub there : slice_get rows position ≡ Some (Some row)
  pub names : row.node ≡ node
  pub since : IsRowSince d row

-- they are the rows that were there before, but for this one
pub record AreWith (old new : List (Option LackingNode)) (row : LackingNode) : Type 0 where
  pub each : (i : ℕ) (r : LackingNode) → slice_get new i ≡ Some (Some r) → (r ≡ row) ⊎ (slice_get old i ≡ Some (Some r))

-- there is a list at the position, for claims that ask for this, within the budget
pub record IsListAt (lists : List NodesFields) (position : ℕ) (specs : List ClaimSpec) (budget : ℕ) : Type 0 where
  pub nodes : NodesFields
  pub there : slice_get lists position ≡ Some nodes
  pub specs_are : nodes.specs ≡ specs
  pub budget_is : nodes.budget ≡ budget
