-- The parts of objects that may be missing, and how many parts there are.
use Rattle.std.specs.Prelude.{ℕ, ◌+◌, nat_lt, Bool, true, false, List, Option, Some, None, Result, option_and_then}
use Rattle.serde_json.specs.Data.{Data, null, boolean, number, string, array, object, Members, no_members, member}
use Rattle.serde_json.specs.Find.{as_object}
use Rattle.object_fields.specs.Fields.{error_at, has_no_items, member_of, unless}
use Rattle.object_fields.specs.declared.error.FieldError.{FieldError}
use Rattle.object_fields.specs.declared.kind.FieldErrorKind.TheVariants.{TooMany}
use Rattle.object_fields.specs.declared.path.Step.{Step}

-- the members of an object that may be missing
abbrev pub members_or_none : Option Members → Members
members_or_none None = no_members
members_or_none (Some ms) = ms

-- how many members an object has
abbrev pub members_length : Members → ℕ
members_length no_members = 0
members_length (member key d ms) = members_length ms + 1

-- how many members the object of that name has; 0 if it is missing
abbrev pub count_at : List ℕ → Data → ℕ
count_at name d = members_length (members_or_none (option_and_then as_object (member_of name d)))

-- How many there are so far with the members of a map, which must not exceed a limit.
abbrev pub count_on : List Step → ℕ → ℕ → Members → Result ℕ FieldError
count_on path most met ms =
    unless (error_at path TooMany) (nat_lt most (met + members_length ms)) (met + members_length ms)

-- an empty list
abbrev pub is_empty_list : Data → Bool
is_empty_list null = false
is_empty_list (boolean b) = false
is_empty_list (number n) = false
is_empty_list (string s) = false
is_empty_list (array ds) = has_no_items ds
is_empty_list (object ms) = false

-- the same of a member, which is also empty if it is missing
abbrev pub is_empty_or_none : Option Data → Bool
is_empty_or_none None = true
is_empty_or_none (Some d) = is_empty_list d
