-- The attributes of a device.
use Rattle.std.specs.Prelude.{ℕ, nat_lt, ℤ, Bool, not, List, [], ◌∷◌, ◌++◌, length, Option, Some, None, is_some, Result, Ok, ⊤, codes}
use Rattle.std.specs.Result.{is_ok}
use Rattle.std.specs.Str.{chars}
use Rattle.std.specs.BTreeMap.{insert_entry, is_at}
use Rattle.std.specs.Cmp.Lexicographic.{slice_cmp}
use Rattle.std.specs.Map.{lookup}
use Rattle.std.specs.Ordering.{nat_cmp, ordering_then}
use Rattle.std.specs.declared.cmp.Ordering.{Ordering}
use Rattle.semver.specs.Parse.{version_parts}
use Rattle.serde_json.specs.Data.{Data, Members, no_members, member}
use Rattle.object_fields.specs.Fields.{error_at, field_error, object_value, optional_at, signed_at, some_or, table_at, text_at, truth_at, unless, ◌>>=◌}
use Rattle.object_fields.specs.Qualified.{qual_name_in}
use Rattle.object_fields.specs.declared.error.FieldError.{FieldError}
use Rattle.object_fields.specs.declared.kind.FieldErrorKind.TheVariants.{BadVersion, Doubled, NotOne, TooLong}
use Rattle.object_fields.specs.declared.path.Step.{Step}
use Rattle.object_fields.specs.declared.path.Step.TheVariants.{Member, Key}
use Rattle.object_fields.specs.declared.qualified.QualName.{QualName}
use Rattle.api_slice.specs.Nodes.{only}
use Rattle.api_slice.specs.declared.types.Attribute.{Attribute}
use Rattle.api_slice.specs.declared.types.Attribute.TheVariants as attribute

-- ---- names

-- by domain, then by id
abbrev pub qual_cmp : QualName → QualName → Ordering
qual_cmp a b = ordering_then (slice_cmp nat_cmp a.domain b.domain) (slice_cmp nat_cmp a.id b.id)

abbrev pub has_name : {A : Type 0} → QualName → List (QualName × A) → Bool
has_name name table = is_some (lookup (is_at (qual_cmp name)) table)

-- the full name that a key means in a slice of that driver, which no key before means
abbrev pub new_name : {A : Type 0} → List Step → List ℕ → List (QualName × A) → List ℕ → Result QualName FieldError
new_name path driver before key =
    qual_name_in path driver key >>= λ name. unless (error_at path Doubled) (has_name name before) name

-- ---- values

-- strings and versions have at most 64 characters
abbrev pub chars_most : ℕ
chars_most = 64

abbrev pub is_long : List ℕ → Bool
is_long text = nat_lt chars_most (length (chars text))

abbrev pub short_text_at : List Step → List ℕ → Data → Result (List ℕ) FieldError
short_text_at path name d =
    text_at path name d >>= λ text. unless (field_error path name TooLong) (is_long text) text

-- a version of Semantic Versioning 2.0.0, kept as it is written
abbrev pub is_version : List ℕ → Bool
is_version text = is_ok (version_parts text)

abbrev pub version_text : List Step → List ℕ → Result ⊤ FieldError
version_text path text = unless (field_error path (codes "version") BadVersion) (not (is_version text)) tt

abbrev pub version_at : List Step → List ℕ → Data → Result (List ℕ) FieldError
version_at path name d =
    short_text_at path name d >>= λ text. version_text path text >>= λ nothing. Ok text

abbrev pub value_of : {A : Type 0} → (A → Attribute) → Option A → List Attribute
value_of kind None = []
value_of kind (Some x) = kind x ∷ []

-- the one of the four kinds that is set, if exactly one is
abbrev pub one_value : Option ℤ → Option Bool → Option (List ℕ) → Option (List ℕ) → Option Attribute
one_value n b text version =
    only (value_of attribute.Int n ++ value_of attribute.Bool b ++ value_of attribute.Text text ++ value_of attribute.Version version)

-- the four kinds are read, and exactly one of them must be set
abbrev pub attribute_of : List Step → Data → Result Attribute FieldError
attribute_of path value =
    object_value path value >>= λ d.
    optional_at signed_at path (codes "int") d >>= λ n.
    optional_at truth_at path (codes "bool") d >>= λ b.
    optional_at short_text_at path (codes "string") d >>= λ text.
    optional_at version_at path (codes "version") d >>= λ version.
    some_or (error_at path NotOne) (one_value n b text version)

-- After those before, the attributes of the members, by their full names.
abbrev pub attributes_with : List ℕ → List Step → List (QualName × Attribute) → Members → Result (List (QualName × Attribute)) FieldError
attributes_with driver path before no_members = Ok before
attributes_with driver path before (member key d ms) =
    new_name (path ++ Key key ∷ []) driver before key >>= λ name.
    attribute_of (path ++ Key key ∷ []) d >>= λ value.
    attributes_with driver path (insert_entry qual_cmp before name value) ms

abbrev pub attributes_in : List ℕ → List Step → Option Members → Result (List (QualName × Attribute)) FieldError
attributes_in driver path None = Ok []
attributes_in driver path (Some ms) = attributes_with driver path [] ms

-- a device may have none
abbrev pub attributes_of : List ℕ → List Step → Data → Result (List (QualName × Attribute)) FieldError
attributes_of driver path d =
    optional_at table_at path (codes "attributes") d >>= λ ms.
    attributes_in driver (path ++ Member (codes "attributes") ∷ []) ms
