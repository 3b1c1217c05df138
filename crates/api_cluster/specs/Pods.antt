-- What is read of a Pod (API reference of v1).
use Rattle.std.specs.Prelude.{◌==◌, Bool, false, true, List, [], ◌∷◌, length, not, ⊤, Option, Some, None, Result, Ok, codes}
use Rattle.serde_json.specs.Data.{Data, null, boolean, number, string, array, object}
use Rattle.serde_json.specs.Find.{get}
use Rattle.object_fields.specs.Fields.{field_error, object_at, object_value, optional_at, text_at, unless, unset_at, ◌>>=◌}
use Rattle.object_fields.specs.Lists.{each_at}
use Rattle.object_fields.specs.Meta.{meta_at}
use Rattle.object_fields.specs.declared.error.FieldError.{FieldError}
use Rattle.object_fields.specs.declared.kind.FieldErrorKind.TheVariants.{NotSupported}
use Rattle.object_fields.specs.declared.meta.Scope.TheVariants.{Namespaced}
use Rattle.object_fields.specs.declared.path.Step.{Step}
use Rattle.object_fields.specs.declared.path.Step.TheVariants.{Member}
use Rattle.api_cluster.specs.Limits.{claims_most}
use Rattle.api_cluster.specs.declared.types.Pod.{Pod}
use Rattle.api_cluster.specs.declared.types.PodResourceClaim.{PodResourceClaim}

-- ---- the node that the pod was bound to: there is none

-- missing, null or the empty text
abbrev pub is_no_name : Option Data → Bool
is_no_name None = true
is_no_name (Some null) = true
is_no_name (Some (boolean b)) = false
is_no_name (Some (number n)) = false
is_no_name (Some (string s)) = length s == 0
is_no_name (Some (array ds)) = false
is_no_name (Some (object ms)) = false

abbrev pub node_at : List Step → Data → Result ⊤ FieldError
node_at path spec =
    unless (field_error path (codes "nodeName") NotSupported) (not (is_no_name (get (codes "nodeName") spec))) tt

-- ---- the claims that the pod uses

-- no template is set; the name and the claim of the entry are any texts
abbrev pub entry_at : List Step → Data → Result PodResourceClaim FieldError
entry_at path d =
    object_value path d >>= λ entry.
    unset_at path (codes "resourceClaimTemplateName") entry >>= λ unset.
    text_at path (codes "name") entry >>= λ name.
    text_at path (codes "resourceClaimName") entry >>= λ claim.
    Ok (record { name = name; claim = claim })

abbrev pub claims_at : List Step → Data → Result (List PodResourceClaim) FieldError
claims_at path spec = each_at claims_most entry_at path (codes "resourceClaims") spec

-- ---- the pod

-- no node, then the claims
abbrev pub members_at : List Step → Data → Result (List PodResourceClaim) FieldError
members_at path spec = node_at path spec >>= λ unset. claims_at path spec

-- spec may be missing
abbrev pub members_in : Option Data → Result (List PodResourceClaim) FieldError
members_in None = Ok []
members_in (Some spec) = members_at (Member (codes "spec") ∷ []) spec

abbrev pub spec_at : Data → Result (List PodResourceClaim) FieldError
spec_at d = optional_at object_at [] (codes "spec") d >>= members_in

-- the metadata, then the spec
abbrev pub pod_of : Data → Result Pod FieldError
pod_of d =
    meta_at Namespaced d >>= λ meta.
    spec_at d >>= λ claims.
    Ok (record { key = meta.key; version = meta.version; claims = claims })
