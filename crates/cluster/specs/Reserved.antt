-- A plan's grants are made, and its pod is taken by a job.
use Rattle.std.specs.Prelude.{ℕ, false, List, [], ◌∷◌, Some}
use Rattle.std.specs.BTreeMap.{insert_entry}
use Rattle.object_fields.specs.declared.key.Key.{Key}
use Rattle.pool_view.specs.Names.{key_cmp}
use Rattle.cluster.specs.declared.entry.JobState.{JobState}
use Rattle.cluster.specs.declared.entry.JobState.TheVariants as job_state
use Rattle.cluster.specs.declared.plan.DeviceResult.{DeviceResult}
use Rattle.cluster.specs.declared.plan.Grant.{Grant}
use Rattle.cluster.specs.declared.plan.Plan.{Plan}
use Rattle.cluster.specs.declared.state.ClaimState.{ClaimState}
use Rattle.cluster.specs.declared.state.Phase.TheVariants.{Taken}
use Rattle.cluster.specs.declared.state.State.{State}
use Rattle.cluster.specs.declared.state.Use.TheVariants.{Assumed}
use Rattle.cluster.specs.JobState.{failures}
use Rattle.cluster.specs.Tables.{changed_at, with_phase}

-- the claim granted to a pod, whose use is assumed at the claim's version
abbrev pub with_grant : List ℕ → Key → Key → List DeviceResult → List (Key × ClaimState) → List (Key × ClaimState)
with_grant node pod claim results claims =
    changed_at claim (λ c. record c { grant = Some (record { node = node; results = results; published = false }); users = insert_entry key_cmp c.users pod (Assumed c.claim.version) }) claims

-- each of the grants made to the pod
abbrev pub with_grants : List ℕ → Key → List Grant → List (Key × ClaimState) → List (Key × ClaimState)
with_grants node pod [] claims = claims
with_grants node pod (g ∷ gs) claims = with_grants node pod gs (with_grant node pod g.claim g.results claims)

-- a claim with a user more, whose use is assumed at the claim's version
abbrev pub joined_by : Key → ClaimState → ClaimState
joined_by pod c = record c { users = insert_entry key_cmp c.users pod (Assumed c.claim.version) }

-- each of the claims joined by the pod
abbrev pub with_joins : Key → List Key → List (Key × ClaimState) → List (Key × ClaimState)
with_joins pod [] claims = claims
with_joins pod (k ∷ ks) claims = with_joins pod ks (changed_at k (joined_by pod) claims)

-- the pod taken by a job, with its plan's grants, and a user of each claim that is granted or joined
abbrev pub with_reserved : ℕ → Key → Plan → State → State
with_reserved job pod plan s = record s { claims = with_joins pod plan.joins (with_grants plan.node pod plan.grants s.claims); pods = with_phase pod (Taken job plan.node) s.pods }

-- its job has reserved, after as many failed attempts
abbrev pub reserved_leaves : JobState → JobState
reserved_leaves st = job_state.Reserved (failures st)
