-- Lists that must have an item, and names that appear once.
use Rattle.std.specs.Prelude.{ℕ, Bool, false, true, List, Option, Some, None, Result, Ok, Err, codes}
use Rattle.serde_json.specs.Data.{Data, null, boolean, number, string, array, object, Items, no_items, item}
use Rattle.object_fields.specs.Fields.{dns_label_at, field_error, member_of, short_list_at, unless, ◌>>=◌}
use Rattle.object_fields.specs.NewNames.{is_among}
use Rattle.object_fields.specs.declared.error.FieldError.{FieldError}
use Rattle.object_fields.specs.declared.kind.FieldErrorKind.TheVariants.{Doubled, Missing}
use Rattle.object_fields.specs.declared.path.Step.{Step}

abbrev pub has_items : Items → Bool
has_items no_items = false
has_items (item d ds) = true

-- anything but an empty list
abbrev pub is_no_empty_list : Data → Bool
is_no_empty_list null = true
is_no_empty_list (boolean b) = true
is_no_empty_list (number n) = true
is_no_empty_list (string s) = true
is_no_empty_list (array ds) = has_items ds
is_no_empty_list (object ms) = true

abbrev pub passes : (Data → Bool) → Option Data → Bool
passes test None = false
passes test (Some d) = test d

-- the member is there; an empty list counts as not there
abbrev pub has_some : List ℕ → Data → Bool
has_some name d = passes is_no_empty_list (member_of name d)

-- a list that must have an item
abbrev pub some_items : FieldError → Items → Result Items FieldError
some_items e no_items = Err e
some_items e (item d ds) = Ok (item d ds)

-- a list of 1 to this many items; an empty one is as if it were missing
abbrev pub some_items_at : ℕ → List Step → List ℕ → Data → Result Items FieldError
some_items_at most path name d =
    short_list_at most path name d >>= some_items (field_error path name Missing)

-- ---- names

-- `name`, a DNS label that isn't among the names before
abbrev pub new_name_at : List Step → List (List ℕ) → Data → Result (List ℕ) FieldError
new_name_at path before d =
    dns_label_at path (codes "name") d >>= λ name.
    unless (field_error path (codes "name") Doubled) (is_among name before) name
