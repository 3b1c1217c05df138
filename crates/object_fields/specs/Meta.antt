-- What is read of an object's metadata (ObjectMeta of the Kubernetes API reference).
use Rattle.std.specs.Prelude.{ℕ, ◌==◌, ◌^◌, nat_lt, ◌&&◌, not, Bool, false, List, [], ◌∷◌, ◌++◌, Option, Some, None, Result, Ok, codes, unwrap_or, if◌then◌else◌}
use Rattle.std.specs.List.{list_all}
use Rattle.std.specs.Ordering.{nat_cmp}
use Rattle.std.specs.Cmp.Lexicographic.{slice_cmp}
use Rattle.std.specs.BTreeMap.{insert_entry}
use Rattle.std.specs.Str.Parse.{digits_value}
use Rattle.serde_json.specs.Data.{Data, Members, no_members, member}
use Rattle.object_fields.specs.Names.{between}
use Rattle.object_fields.specs.Fields.{dns_label_at, dns_subdomain_at, field_error, object_at, optional_at, some_or, table_at, text_at, text_value, ◌>>=◌}
use Rattle.object_fields.specs.declared.path.Step.{Step}
use Rattle.object_fields.specs.declared.path.Step.TheVariants as step
use Rattle.object_fields.specs.declared.key.Key.{Key}
use Rattle.object_fields.specs.declared.kind.FieldErrorKind.TheVariants.{WrongType}
use Rattle.object_fields.specs.declared.error.FieldError.{FieldError}
use Rattle.object_fields.specs.declared.meta.Scope.{Scope}
use Rattle.object_fields.specs.declared.meta.Scope.TheVariants.{Namespaced, Cluster}
use Rattle.object_fields.specs.declared.meta.ObjectMeta.{ObjectMeta}

-- an object's name has at most 253 bytes
abbrev pub name_most : ℕ
name_most = 253

-- none if the kind has no namespaces, and `default` if none is given
abbrev pub namespace_at : Scope → List Step → Data → Result (List ℕ) FieldError
namespace_at Namespaced path d =
    optional_at dns_label_at path (codes "namespace") d >>= λ namespace. Ok (unwrap_or namespace (codes "default"))
namespace_at Cluster path d = Ok []

-- the name, then the namespace
abbrev pub key_at : Scope → List Step → Data → Result Key FieldError
key_at scope path d =
    dns_subdomain_at name_most path (codes "name") d >>= λ name. namespace_at scope path d >>= λ namespace.
    Ok (record { namespace = namespace; name = name })

-- The labels with those of the members inserted, at their keys. Each is a text.
abbrev pub labels_with : List Step → List (List ℕ × List ℕ) → Members → Result (List (List ℕ × List ℕ)) FieldError
labels_with path labels no_members = Ok labels
labels_with path labels (member key d ms) =
    text_value (path ++ step.Key key ∷ []) d >>= λ text. labels_with path (insert_entry (slice_cmp nat_cmp) labels key text) ms

abbrev pub labels_of : List Step → Option Members → Result (List (List ℕ × List ℕ)) FieldError
labels_of path None = Ok []
labels_of path (Some ms) = labels_with path [] ms

abbrev pub labels_at : List Step → Data → Result (List (List ℕ × List ℕ)) FieldError
labels_at path d =
    optional_at table_at path (codes "labels") d >>= labels_of (path ++ step.Member (codes "labels") ∷ [])

-- decimal digits without a leading zero
abbrev pub is_digit : ℕ → Bool
is_digit = between 48 57

abbrev pub are_digits : List ℕ → Bool
are_digits = list_all is_digit

abbrev pub is_plain_decimal : List ℕ → Bool
is_plain_decimal [] = false
is_plain_decimal (b ∷ []) = is_digit b
is_plain_decimal (b ∷ c ∷ bs) = not (b == 48) && are_digits (b ∷ c ∷ bs)

-- the number below 2^64 that they represent
abbrev pub version_of : List ℕ → Option ℕ
version_of s = if is_plain_decimal s && nat_lt (digits_value 10 s) (2 ^ 64) then Some (digits_value 10 s) else None

-- an empty version is a missing one
abbrev pub version_text : List Step → List ℕ → Result (Option ℕ) FieldError
version_text path [] = Ok None
version_text path (b ∷ bs) =
    some_or (field_error path (codes "resourceVersion") WrongType) (version_of (b ∷ bs)) >>= λ n. Ok (Some n)

abbrev pub version_in : List Step → Option (List ℕ) → Result (Option ℕ) FieldError
version_in path None = Ok None
version_in path (Some text) = version_text path text

abbrev pub version_at : List Step → Data → Result (Option ℕ) FieldError
version_at path d = optional_at text_at path (codes "resourceVersion") d >>= version_in path

-- name, namespace, labels and version, in this order
abbrev pub members_at : Scope → List Step → Data → Result ObjectMeta FieldError
members_at scope path d =
    key_at scope path d >>= λ key. labels_at path d >>= λ labels. version_at path d >>= λ version.
    Ok (record { key = key; labels = labels; version = version })

-- the metadata of the object that a document is
abbrev pub meta_at : Scope → Data → Result ObjectMeta FieldError
meta_at scope d =
    object_at [] (codes "metadata") d >>= members_at scope (step.Member (codes "metadata") ∷ [])
