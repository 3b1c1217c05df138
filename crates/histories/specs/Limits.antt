-- That all objects of a state keep the limits and name rules of their kinds.
use Rattle.api_claim.specs.Limits.{ClaimKept, EachOf}
use Rattle.api_cluster.specs.Limits.{NodeKept, ClassKept, PodKept}
use Rattle.api_slice.specs.Limits.{IsWithinLimits}
use Rattle.cluster.specs.declared.state.State.{State}

pub record ObjectsKept (s : State) : Type 0 where
  pub nodes : EachOf (λ e. NodeKept e.1.object) s.inventory.nodes
  pub slices : EachOf (λ e. IsWithinLimits e.1.object) s.inventory.slices
  pub classes : EachOf (λ e. ClassKept e.1.object) s.classes
  pub claims : EachOf (λ e. ClaimKept e.1.claim.object) s.claims
  pub pods : EachOf (λ e. PodKept e.1.pod.object) s.pods
