-- Lists whose items are read one after another, each at its index.
use Rattle.std.specs.Prelude.{ℕ, ◌+◌, List, [], ◌∷◌, ◌++◌, Option, Some, None, Result, Ok}
use Rattle.serde_json.specs.Data.{Data, Items, no_items, item}
use Rattle.object_fields.specs.Fields.{optional_at, short_list_at, ◌>>=◌}
use Rattle.object_fields.specs.declared.error.FieldError.{FieldError}
use Rattle.object_fields.specs.declared.path.Step.{Step}
use Rattle.object_fields.specs.declared.path.Step.TheVariants.{Member, Place}

-- the items of a list that may be missing
abbrev pub items_or_none : Option Items → Items
items_or_none None = no_items
items_or_none (Some ds) = ds

-- the items from an index on, each read at its index, given those before, and appended to them
abbrev pub each_from : {A : Type 0} → (List Step → List A → Data → Result A FieldError) → List Step → ℕ → List A → Items → Result (List A) FieldError
each_from reading path place before no_items = Ok before
each_from reading path place before (item d ds) =
    reading (path ++ Place place ∷ []) before d >>= λ x. each_from reading path (place + 1) (before ++ x ∷ []) ds

-- the items, each read given those before
abbrev pub each_beside : {A : Type 0} → (List Step → List A → Data → Result A FieldError) → List Step → Items → Result (List A) FieldError
each_beside reading path ds = each_from reading path 0 [] ds

-- a reading that ignores the items before
abbrev pub alone : {A : Type 0} → (List Step → Data → Result A FieldError) → List Step → List A → Data → Result A FieldError
alone reading path before d = reading path d

-- the items, each read by itself
abbrev pub each : {A : Type 0} → (List Step → Data → Result A FieldError) → List Step → Items → Result (List A) FieldError
each reading path ds = each_beside (alone reading) path ds

-- none if there is no list
abbrev pub each_in : {A : Type 0} → (List Step → Data → Result A FieldError) → List Step → Option Items → Result (List A) FieldError
each_in reading path None = Ok []
each_in reading path (Some ds) = each reading path ds

-- a list of at most so many items, which may be missing
abbrev pub each_at : {A : Type 0} → ℕ → (List Step → Data → Result A FieldError) → List Step → List ℕ → Data → Result (List A) FieldError
each_at most reading path name d =
    optional_at (short_list_at most) path name d >>= each_in reading (path ++ Member name ∷ [])
