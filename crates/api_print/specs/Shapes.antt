-- Objects and lists of JSON made of parts of which some may be missing.
use Rattle.std.specs.Prelude.{ℕ, Bool, true, false, List, [], ◌∷◌, map, Option, Some, None}
use Rattle.std.specs.Ordering.{nat_cmp, is_lt}
use Rattle.std.specs.Cmp.Lexicographic.{slice_cmp}
use Rattle.serde_json.specs.Data.{Data, boolean, string, array, object, Items, Members, no_members, member, put}
use Rattle.serde_json.specs.View.{items_of}

-- a member that may be missing, before others
abbrev pub member_if : List ℕ → Option Data → Members → Members
member_if key None ms = ms
member_if key (Some d) ms = member key d ms

-- the key is below that of the first member
abbrev pub comes_before : List ℕ → Members → Bool
comes_before key no_members = true
comes_before key (member other d ms) = is_lt (slice_cmp nat_cmp key other)

-- true is set, and false is left out
abbrev pub flag_if : Bool → Option Data
flag_if false = None
flag_if true = Some (boolean true)

-- a text, left out if it is empty
abbrev pub text_if : List ℕ → Option Data
text_if [] = None
text_if (b ∷ bs) = Some (string (b ∷ bs))

-- an item for each element, in order
abbrev pub listed : {A : Type 0} → (A → Data) → List A → Items
listed json xs = items_of (map json xs)

abbrev pub list_json : {A : Type 0} → (A → Data) → List A → Data
list_json json xs = array (listed json xs)

-- a list, left out if it is empty
abbrev pub list_if : {A : Type 0} → (A → Data) → List A → Option Data
list_if json [] = None
list_if json (x ∷ xs) = Some (list_json json (x ∷ xs))

-- the members with an entry of a table put in, at its name's index in the order of bytes
abbrev pub with_entries : {K V : Type 0} → (K → List ℕ) → (V → Data) → Members → List (K × V) → Members
with_entries name json ms [] = ms
with_entries name json ms (e ∷ es) = with_entries name json (put (name e.0) (json e.1) ms) es

-- a member for each entry of a table, in the order of the bytes of their names
abbrev pub table_json : {K V : Type 0} → (K → List ℕ) → (V → Data) → List (K × V) → Data
table_json name json es = object (with_entries name json no_members es)

-- a table, left out if it is empty
abbrev pub table_if : {K V : Type 0} → (K → List ℕ) → (V → Data) → List (K × V) → Option Data
table_if name json [] = None
table_if name json (e ∷ es) = Some (table_json name json (e ∷ es))

-- a text that names itself
abbrev pub own_text : List ℕ → List ℕ
own_text text = text
