-- The document of a claim without the pods that use it.
use Rattle.std.specs.Prelude.{ℕ, List, codes, if◌then◌else◌}
use Rattle.std.specs.Str.{bytes_eq}
use Rattle.serde_json.specs.Data.{Data, null, boolean, number, string, array, object, Members, no_members, member}

-- the members but for those at a key
abbrev pub without : List ℕ → Members → Members
without key no_members = no_members
without key (member l d ms) = if bytes_eq l key then without key ms else member l d (without key ms)

-- the members with those at a key changed
abbrev pub with_changed : List ℕ → (Data → Data) → Members → Members
with_changed key f no_members = no_members
with_changed key f (member l d ms) = member l (if bytes_eq l key then f d else d) (with_changed key f ms)

-- an object with other members; other values stay
abbrev pub in_members : (Members → Members) → Data → Data
in_members f null = null
in_members f (boolean b) = boolean b
in_members f (number n) = number n
in_members f (string s) = string s
in_members f (array ds) = array ds
in_members f (object ms) = object (f ms)

-- the document without `status.reservedFor`
abbrev pub without_users : Data → Data
without_users d = in_members (with_changed (codes "status") (in_members (without (codes "reservedFor")))) d
