-- Lists whose items have names, each of which must be new.
use Rattle.std.specs.Prelude.{◌≡◌, ◌≢◌, ℕ, ◌<◌, Bool, true, false, List, [], ◌∷◌, ◌++◌, map, length, Option, Some, Result, Ok, Err, codes, option_and_then}
use Rattle.std.specs.List.{All, list_any}
use Rattle.std.specs.Str.{bytes_eq}
use Rattle.serde_json.specs.Data.{Data, Items, no_items, item}
use Rattle.serde_json.specs.Find.{as_str}
use Rattle.object_fields.specs.Fields.{dns_label_at, field_error, items_length, list_at, member_of, object_value, unless, ◌>>=◌}
use Rattle.object_fields.specs.declared.error.FieldError.{FieldError}
use Rattle.object_fields.specs.declared.kind.FieldErrorKind.TheVariants.{Doubled}
use Rattle.object_fields.specs.declared.path.Step.{Step}
use Rattle.object_fields.specs.declared.path.Step.TheVariants.{Place}

-- ---- the names of a list in a document

-- the text at the member `name`
abbrev pub named : Data → Option (List ℕ)
named d = option_and_then as_str (member_of (codes "name") d)

-- those of the items, in order
abbrev pub names_in : Items → List (Option (List ℕ))
names_in no_items = []
names_in (item d ds) = named d ∷ names_in ds

-- ---- names that are new

-- no name appears twice
abbrev pub AreDifferent : List (List ℕ) → Type 0
AreDifferent [] = Unit {0}
AreDifferent (name ∷ names) = All (λ other. other ≢ name) names × AreDifferent names

abbrev pub is_among : List ℕ → List (List ℕ) → Bool
is_among name names = list_any (λ other. bytes_eq other name) names

-- none of the names is among those before it, where those of the first list come before all of them
abbrev pub AreNew : List (List ℕ) → List (List ℕ) → Type 0
AreNew before [] = Unit {0}
AreNew before (name ∷ names) = (is_among name before ≡ false) × AreNew (before ++ name ∷ []) names

-- the error at an item whose name an item before it has
abbrev pub doubled_at : List Step → FieldError
doubled_at path = field_error path (codes "name") Doubled

-- of an item, behind these names
pub record IsTakenName (path : List Step) (before : List (List ℕ)) (d : Data) (e : FieldError) : Type 0 where
  pub name : List ℕ
  pub is_named : named d ≡ Some name
  pub stands : is_among name before ≡ true
  pub is : e ≡ doubled_at path

-- of the later of two items of a list that have the same name
pub record IsDoubled (path : List Step) (ds : Items) (e : FieldError) : Type 0 where
  pub before : List (List ℕ)
  pub name : List ℕ
  pub behind : List (Option (List ℕ))
  pub names : names_in ds ≡ map Some before ++ Some name ∷ behind
  pub stands : is_among name before ≡ true
  pub is : e ≡ doubled_at (path ++ Place (length before) ∷ [])

-- ---- readings of names

-- a DNS label as the name of an item that is an object
abbrev pub label_of : List Step → Data → Result (List ℕ) FieldError
label_of path d = object_value path d >>= dns_label_at path (codes "name")

-- What reads the name of an item, given the names before it: the name is the item's, and an item that
-- can be read alone is Doubled if and only if its name is among those before.
pub record IsNewNameReading (alone : List Step → Data → Result (List ℕ) FieldError) (reading : List Step → List (List ℕ) → Data → Result (List ℕ) FieldError) : Type 0 where
  pub taken : (path : List Step) (before : List (List ℕ)) (d : Data) (name : List ℕ) → alone path d ≡ Ok name → reading path before d ≡ unless (doubled_at path) (is_among name before) name
  pub given : (path : List Step) (before : List (List ℕ)) (d : Data) (name : List ℕ) → reading path before d ≡ Ok name → named d ≡ Some name
  pub only : (path : List Step) (before : List (List ℕ)) (d : Data) (e : FieldError) → reading path before d ≡ Err e → e.kind ≡ Doubled → IsTakenName path before d e

-- ---- lists of at most so many items

-- the list of that name has more
pub record IsOver (most : ℕ) (path : List Step) (name : List ℕ) (d : Data) : Type 0 where
  pub items : Items
  pub list : list_at path name d ≡ Ok items
  pub many : most < items_length items
