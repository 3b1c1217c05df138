-- How a job goes on once it has reserved.
use Rattle.std.specs.Prelude.{ℕ, List, [], ◌∷◌}
use Rattle.object_fields.specs.declared.key.Key.{Key}
use Rattle.cluster.specs.declared.state.State.{State}
use Rattle.cluster.specs.State.{version_of}
use Rattle.cluster.specs.Wrote.{with_written}
use Rattle.histories.specs.Wrote.{MayWrite}
use Rattle.histories.specs.Bound.{MayBind}

-- The job may write the pod's uses of these claims in order, and then bind the pod.
abbrev pub GoesOn : State → Key → ℕ → List ℕ → List Key → Type 0
GoesOn s pod job node [] = MayBind s pod job node
GoesOn s pod job node (k ∷ ks) = MayWrite s pod job k (version_of s k) × ((index : ℕ) → GoesOn (with_written index pod k s) pod job node ks)
