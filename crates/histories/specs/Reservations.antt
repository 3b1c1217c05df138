-- The last reservation of a job, and the versions that claims had then.
use Rattle.std.specs.Prelude.{ℕ, ◌≡◌, ◌++◌, ◌∷◌, List, Some, Contains}
use Rattle.object_fields.specs.declared.key.Key.{Key}
use Rattle.pool_view.specs.Names.{at_key}
use Rattle.cluster.specs.declared.entry.Entry.{Entry}
use Rattle.cluster.specs.declared.entry.Event.TheVariants.{Reserved}
use Rattle.cluster.specs.declared.plan.Plan.{Plan}
use Rattle.cluster.specs.declared.state.ClaimState.{ClaimState}
use Rattle.cluster.specs.History.{state_of}

-- the job's last reservation, which was for the pod, came after these entries
pub record IsLastReservation (h : List Entry) (job : ℕ) (pod : Key) (front : List Entry) : Type 0 where
  pub plan : Plan
  pub later : List Entry
  pub is : h ≡ front ++ record { job = job; event = Reserved pod plan } ∷ later
  pub last : (e : Entry) (other : Key) (another : Plan) → Contains later e → e.job ≡ job → e.event ≡ Reserved other another → ⊥

-- the version is the one that the claim had as the job last reserved, for the pod
pub record IsVersionReserved (h : List Entry) (job : ℕ) (pod claim : Key) (seen : ℕ) : Type 0 where
  pub front : List Entry
  pub last : IsLastReservation h job pod front
  pub state : ClaimState
  pub there : at_key (state_of front).claims claim ≡ Some state
  pub version : seen ≡ state.claim.version
