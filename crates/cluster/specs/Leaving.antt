-- What a pod's claims are without its uses, made before any of it is put at its key.
use Rattle.std.specs.Prelude.{ℕ, List, [], ◌∷◌, Option, None, Some, map, option_map}
use Rattle.object_fields.specs.declared.key.Key.{Key}
use Rattle.api_cluster.specs.declared.types.Pod.{Pod}
use Rattle.api_cluster.specs.declared.types.PodResourceClaim.{PodResourceClaim}
use Rattle.pool_view.specs.Names.{at_key}
use Rattle.cluster.specs.declared.freed.Leaving.{Leaving}
use Rattle.cluster.specs.declared.state.ClaimState.{ClaimState}
use Rattle.cluster.specs.declared.state.PodState.{PodState}
use Rattle.cluster.specs.Freed.{freed}
use Rattle.cluster.specs.Tables.{changed_at}

-- a claim without the pod's use, if it is there
abbrev pub leaving_at : ℕ → Key → List (Key × ClaimState) → Key → Leaving
leaving_at index pod claims k = record { claim = k; state = option_map (freed index pod) (at_key claims k) }

-- the same of a claim that a pod names
abbrev pub leaving : ℕ → Key → List (Key × ClaimState) → List ℕ → PodResourceClaim → Leaving
leaving index pod claims namespace c = leaving_at index pod claims (record { namespace = namespace; name = c.claim })

-- the same of each claim that the pod names
abbrev pub leaving_each : ℕ → Key → List (Key × ClaimState) → Pod → List Leaving
leaving_each index pod claims p = map (leaving index pod claims p.key.namespace) p.claims

abbrev pub leaving_by : ℕ → Key → List (Key × ClaimState) → Option PodState → List Leaving
leaving_by index pod claims None = []
leaving_by index pod claims (Some p) = leaving_each index pod claims p.pod.object

abbrev pub left_at : Key → Option ClaimState → List (Key × ClaimState) → List (Key × ClaimState)
left_at k None claims = claims
left_at k (Some c) claims = changed_at k (λ _. c) claims

-- the claims with each of these put at its key
abbrev pub left : List Leaving → List (Key × ClaimState) → List (Key × ClaimState)
left [] claims = claims
left (l ∷ ls) claims = left ls (left_at l.claim l.state claims)
