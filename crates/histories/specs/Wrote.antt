-- When a pod's use of a claim may be written.
use Rattle.std.specs.Prelude.{ℕ, ◌≡◌, List, not, Some, find}
use Rattle.object_fields.specs.declared.key.Key.{Key}
use Rattle.pool_view.specs.Names.{at_key}
use Rattle.cluster.specs.declared.state.PodState.{PodState}
use Rattle.cluster.specs.declared.state.Phase.TheVariants.{Taken}
use Rattle.cluster.specs.declared.state.State.{State}
use Rattle.cluster.specs.declared.state.Use.TheVariants.{Assumed}
use Rattle.cluster.specs.State.{claims_of, has_written, use_in, version_of}

-- the pod is taken by the job for a node
pub record IsTaken (s : State) (pod : Key) (job : ℕ) (node : List ℕ) (state : PodState) : Type 0 where
  pub there : at_key s.pods pod ≡ Some state
  pub taken : state.phase ≡ Taken job node

-- the claim is the pod's first that isn't written, and has the version that it had when the job reserved
pub record MayWrite (s : State) (pod : Key) (job : ℕ) (claim : Key) (seen : ℕ) : Type 0 where
  pub state : PodState
  pub node : List ℕ
  pub taken : IsTaken s pod job node state
  pub next : find (λ k. not (has_written s pod k)) (claims_of state) ≡ Some claim
  pub assumed : use_in pod (at_key s.claims claim) ≡ Some (Assumed seen)
  pub version : seen ≡ version_of s claim
