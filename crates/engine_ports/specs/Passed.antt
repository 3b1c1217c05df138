-- The nodes that are passed over.
use Rattle.std.specs.Prelude.{ℕ, ◌≡◌, List}
use Rattle.std.specs.List.{AllByRecursion}
use Rattle.api_cluster.specs.declared.types.Pod.{Pod}
use Rattle.cluster.specs.declared.plan.Passed.{Passed}
use Rattle.cluster.specs.declared.state.State.{State}
use Rattle.plan_rules.specs.Plans.{CauseBy, nodes_of}

-- these nodes, and no others, are passed over, each with what a search of it shows
pub record AllPassed (s : State) (pod : Pod) (budget : ℕ) (names : List (List ℕ)) (passed : List Passed) : Type 0 where
  pub names_are : nodes_of passed ≡ names
  pub causes : AllByRecursion (λ p. CauseBy s pod budget p.node p.cause) passed
