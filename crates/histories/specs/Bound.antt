-- When a pod may be bound.
use Rattle.std.specs.Prelude.{ℕ, ◌≡◌, List, true}
use Rattle.std.specs.List.{list_all}
use Rattle.object_fields.specs.declared.key.Key.{Key}
use Rattle.cluster.specs.declared.state.PodState.{PodState}
use Rattle.cluster.specs.declared.state.State.{State}
use Rattle.cluster.specs.State.{claims_of, has_written}
use Rattle.histories.specs.Wrote.{IsTaken}

-- each use of the pod is written, and the node is the one that the job took it for
pub record MayBind (s : State) (pod : Key) (job : ℕ) (node : List ℕ) : Type 0 where
  pub state : PodState
  pub taken : IsTaken s pod job node state
  pub written : list_all (λ k. has_written s pod k) (claims_of state) ≡ true
