-- Maps whose keys are full names, each of which is to be new, and how many a device has of both kinds.
use Rattle.std.specs.Prelude.{◌≡◌, ℕ, ◌+◌, ◌<◌, Bool, true, false, ◌&&◌, List, [], ◌∷◌, ◌++◌, Result, Ok, codes}
use Rattle.std.specs.List.{list_any}
use Rattle.std.specs.Str.{bytes_eq}
use Rattle.serde_json.specs.Data.{Data, Members, no_members, member}
use Rattle.object_fields.specs.Fields.{error_at, field_error, ◌>>=◌}
use Rattle.object_fields.specs.Qualified.{qual_name_in}
use Rattle.object_fields.specs.declared.error.FieldError.{FieldError}
use Rattle.object_fields.specs.declared.kind.FieldErrorKind.TheVariants.{Doubled, TooMany}
use Rattle.object_fields.specs.declared.path.Step.{Step}
use Rattle.object_fields.specs.declared.path.Step.TheVariants.{Key}
use Rattle.object_fields.specs.declared.qualified.QualName.{QualName}
use Rattle.api_slice.specs.Capacity.{together_most}
use Rattle.api_slice.specs.Lists.{count_at}

abbrev pub same_name : QualName → QualName → Bool
same_name a b = bytes_eq a.domain b.domain && bytes_eq a.id b.id

abbrev pub is_name_among : QualName → List QualName → Bool
is_name_among name names = list_any (same_name name) names

-- none of the names is among those before it, the first list coming before all of them
abbrev pub AreNewNames : List QualName → List QualName → Type 0
AreNewNames before [] = Unit {0}
AreNewNames before (name ∷ names) = (is_name_among name before ≡ false) × AreNewNames (before ++ name ∷ []) names

-- the keys of a map, in order
abbrev pub keys_in : Members → List (List ℕ)
keys_in no_members = []
keys_in (member key d ms) = key ∷ keys_in ms

-- the full names of the keys, where each key and each value reads by itself
abbrev pub names_alone : {A : Type 0} → (List Step → Data → Result A FieldError) → List ℕ → List Step → Members → Result (List QualName) FieldError
names_alone reading driver path no_members = Ok []
names_alone reading driver path (member key d ms) =
    qual_name_in (path ++ Key key ∷ []) driver key >>= λ name.
    reading (path ++ Key key ∷ []) d >>= λ value.
    names_alone reading driver path ms >>= λ names.
    Ok (name ∷ names)

-- the keys mean these names, one each
abbrev pub AreMeant : List ℕ → List (List ℕ) → List QualName → Type 0
AreMeant driver [] [] = Unit {0}
AreMeant driver [] (n ∷ ns) = ⊥
AreMeant driver (k ∷ ks) [] = ⊥
AreMeant driver (k ∷ ks) (n ∷ ns) = ((path : List Step) → qual_name_in path driver k ≡ Ok n) × AreMeant driver ks ns

-- the error at a key whose name a key before means
pub record IsRepeatedKey (driver : List ℕ) (path : List Step) (ms : Members) (e : FieldError) : Type 0 where
  pub before : List (List ℕ)
  pub key : List ℕ
  pub behind : List (List ℕ)
  pub keys : keys_in ms ≡ before ++ key ∷ behind
  pub names : List QualName
  pub meant : AreMeant driver before names
  pub name : QualName
  pub means : (p : List Step) → qual_name_in p driver key ≡ Ok name
  pub stands : is_name_among name names ≡ true
  pub is : e ≡ error_at (path ++ Key key ∷ []) Doubled

-- the error of a device with more attributes and capacities together than it may have
pub record IsOverTogether (path : List Step) (d : Data) (e : FieldError) : Type 0 where
  pub many : together_most < count_at (codes "attributes") d + count_at (codes "capacity") d
  pub is : e ≡ field_error path (codes "capacity") TooMany
