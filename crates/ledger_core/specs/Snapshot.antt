-- A snapshot as contracts see it.
use Rattle.std.specs.Prelude.{ℕ}
use Rattle.cluster.specs.declared.state.State.{State}

-- the state after so many entries
pub record Seen : Type 0 where
  pub at : ℕ
  pub state : State
