-- When what is reserved may be given up.
use Rattle.std.specs.Prelude.{ℕ, List}
use Rattle.object_fields.specs.declared.key.Key.{Key}
use Rattle.cluster.specs.declared.state.PodState.{PodState}
use Rattle.cluster.specs.declared.state.State.{State}
use Rattle.histories.specs.Wrote.{IsTaken}

-- the pod is taken by the job
pub record MayUnreserve (s : State) (pod : Key) (job : ℕ) : Type 0 where
  pub state : PodState
  pub node : List ℕ
  pub taken : IsTaken s pod job node state
