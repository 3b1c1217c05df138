-- The lists of devices and counter sets as they are in the document of a slice.
use Rattle.std.specs.Prelude.{ℕ, List, option_and_then, codes}
use Rattle.serde_json.specs.Data.{Data, Items}
use Rattle.serde_json.specs.Find.{as_array}
use Rattle.object_fields.specs.Fields.{member_of}
use Rattle.object_fields.specs.Lists.{items_or_none}

-- the list of that name in `spec`; empty if it is missing
abbrev pub listed : List ℕ → Data → Items
listed name d = items_or_none (option_and_then as_array (option_and_then (member_of name) (member_of (codes "spec") d)))
