-- Lookups in a device, in a list and in a map.
use Rattle.std.specs.Prelude.{ℕ, ℤ, pos, negsuc, List, [], ◌∷◌, ◌++◌, map, Bool, is_some, option_map, slice_get, Option, Some, None, Result, Ok, Err, if◌then◌else◌, codes}
use Rattle.std.specs.Str.{bytes_eq}
use Rattle.std.specs.List.{list_any}
use Rattle.std.specs.BTreeMap.{is_at}
use Rattle.std.specs.Map.{lookup, keys_of}
use Rattle.std.specs.Ordering.{int_cmp, nat_cmp, bool_cmp, ordering_then}
use Rattle.std.specs.Cmp.Lexicographic.{slice_cmp}
use Rattle.std.specs.declared.cmp.Ordering.{Ordering}
use Rattle.std.specs.declared.cmp.Ordering.TheVariants.{Less, Greater}
use Rattle.object_fields.specs.declared.qualified.QualName.{QualName}
use Rattle.cel_tree.specs.declared.types.Facet.{Facet}
use Rattle.cel_tree.specs.declared.types.Facet.TheVariants.{Attributes, Capacities}
use Rattle.cel_value.specs.declared.error.EvalError.{EvalError}
use Rattle.cel_value.specs.declared.error.EvalError.TheVariants.{NoKey, NoOverload, OutOfRange}
use Rattle.cel_value.specs.declared.value.Single.{Single}
use Rattle.cel_value.specs.declared.value.Single.TheVariants as single
use Rattle.cel_value.specs.declared.value.Key.{Key}
use Rattle.cel_value.specs.declared.value.Key.TheVariants as key
use Rattle.cel_value.specs.declared.value.Value.{Value}
use Rattle.cel_value.specs.declared.value.Value.TheVariants as value
use Rattle.cel_value.specs.Values.{◌>>=◌, truth, text, single_of, key_from, single_in}
use Rattle.cel_value.specs.Device.{Device}

-- ---- maps

-- Keys are ordered: whole numbers by value, false before true, texts by their bytes.
abbrev pub key_cmp : Key → Key → Ordering
key_cmp (key.Int m) (key.Int n) = int_cmp m n
key_cmp (key.Bool a) (key.Bool b) = bool_cmp a b
key_cmp (key.Text s) (key.Text t) = slice_cmp nat_cmp s t
key_cmp (key.Int m) y = Less
key_cmp (key.Bool a) (key.Int n) = Greater
key_cmp (key.Bool a) (key.Text t) = Less
key_cmp (key.Text s) y = Greater

abbrev pub at_key : Key → List (Key × Single) → Option Single
at_key k es = lookup (is_at (key_cmp k)) es

-- A value of another type than the keys isn't there; one that can be no key is NoOverload.
abbrev pub in_map : Single → List (Key × Single) → Result Bool EvalError
in_map x es = key_from x >>= λ k. Ok (is_some (at_key k es))

-- ---- the device

-- by domain, then by id, both by their bytes
abbrev pub name_cmp : QualName → QualName → Ordering
name_cmp m n = ordering_then (slice_cmp nat_cmp m.domain n.domain) (slice_cmp nat_cmp m.id n.id)

-- the full names of the device's attributes or capacities, in order
abbrev pub names_of : Device → Facet → List QualName
names_of d Attributes = keys_of d.attributes
names_of d Capacities = keys_of d.capacity

-- the attribute or capacity of that name
abbrev pub at_name : Device → Facet → QualName → Option Single
at_name d Attributes name = lookup (is_at (name_cmp name)) d.attributes
at_name d Capacities name = option_map single.Quantity (lookup (is_at (name_cmp name)) d.capacity)

abbrev pub full_name : List ℕ → List ℕ → QualName
full_name domain id = record { domain = domain; id = id }

-- whether the domain is there, that is whether the device has a name in it
abbrev pub has_domain : Device → Facet → List ℕ → Bool
has_domain d f domain = list_any (λ name. bytes_eq name.domain domain) (names_of d f)

abbrev pub has_id : Device → Facet → List ℕ → List ℕ → Bool
has_id d f domain id = is_some (at_name d f (full_name domain id))

-- one more, unless it was seen before
abbrev pub with_new : List (List ℕ) → List ℕ → List (List ℕ)
with_new seen domain = if list_any (λ s. bytes_eq s domain) seen then seen else seen ++ domain ∷ []

-- after those seen, each domain once
abbrev pub domains_from : List (List ℕ) → List QualName → List (List ℕ)
domains_from seen [] = seen
domains_from seen (name ∷ names) = domains_from (with_new seen name.domain) names

-- the domains of the device, each once, in order
abbrev pub domains_of : Device → Facet → List (List ℕ)
domains_of d f = domains_from [] (names_of d f)

-- the ids in a domain, in order
abbrev pub ids_in : List ℕ → List QualName → List (List ℕ)
ids_in domain [] = []
ids_in domain (name ∷ names) =
    if bytes_eq name.domain domain then name.id ∷ ids_in domain names else ids_in domain names

abbrev pub ids_of : Device → Facet → List ℕ → List (List ℕ)
ids_of d f domain = ids_in domain (names_of d f)

-- ---- `device.name`

abbrev pub device_member_of : Device → List ℕ → Result Value EvalError
device_member_of d name =
    if bytes_eq name (codes "driver") then Ok (text d.driver)
    else (if bytes_eq name (codes "attributes") then Ok (value.Domains Attributes)
    else (if bytes_eq name (codes "capacity") then Ok (value.Domains Capacities)
    else Err NoOverload))

-- ---- `object[index]` and `object.name`

abbrev pub text_from : Single → Result (List ℕ) EvalError
text_from (single.Text s) = Ok s
text_from single.Null = Err NoOverload
text_from (single.Bool b) = Err NoOverload
text_from (single.Int n) = Err NoOverload
text_from (single.Quantity n) = Err NoOverload
text_from (single.Version v) = Err NoOverload

-- the value that was found, or the error
abbrev pub found : EvalError → Option Single → Result Value EvalError
found e None = Err e
found e (Some x) = Ok (value.Single x)

-- Elements are counted from 0.
abbrev pub element_at : ℤ → List Single → Result Value EvalError
element_at (pos n) xs = found OutOfRange (slice_get xs n)
element_at (negsuc n) xs = Err OutOfRange

abbrev pub element_of : Single → List Single → Result Value EvalError
element_of (single.Int n) xs = element_at n xs
element_of single.Null xs = Err NoOverload
element_of (single.Bool b) xs = Err NoOverload
element_of (single.Text s) xs = Err NoOverload
element_of (single.Quantity n) xs = Err NoOverload
element_of (single.Version v) xs = Err NoOverload

abbrev pub value_at : Single → List (Key × Single) → Result Value EvalError
value_at x es = key_from x >>= λ k. found NoKey (at_key k es)

abbrev pub in_domain : Facet → Single → Result Value EvalError
in_domain f x = text_from x >>= λ domain. Ok (value.Entries f domain)

abbrev pub entry_at : Device → Facet → List ℕ → Single → Result Value EvalError
entry_at d f domain x = text_from x >>= λ id. found NoKey (at_name d f (full_name domain id))

-- a list by an index, a map by a key, the domains by a domain, and those of a domain by an id. A domain
-- that isn't there has nothing in it.
abbrev pub part_of : Device → Value → Single → Result Value EvalError
part_of d (value.Single s) x = Err NoOverload
part_of d (value.List xs) x = element_of x xs
part_of d (value.Map es) x = value_at x es
part_of d (value.Domains f) x = in_domain f x
part_of d (value.Entries f domain) x = entry_at d f domain x

abbrev pub index_of : Device → Value → Value → Result Value EvalError
index_of d v i = single_in i >>= part_of d v

-- A member is the part that the name refers to.
abbrev pub member_of : Device → Value → List ℕ → Result Value EvalError
member_of d v name = part_of d v (single.Text name)

-- ---- `in`, and `has(object.name)`

abbrev pub in_domains : Device → Facet → Single → Result Bool EvalError
in_domains d f x = text_from x >>= λ domain. Ok (has_domain d f domain)

abbrev pub in_entries : Device → Facet → List ℕ → Single → Result Bool EvalError
in_entries d f domain x = text_from x >>= λ id. Ok (has_id d f domain id)

-- whether a map has the key, the device the domain, or a domain the id
abbrev pub has_of : Device → Value → List ℕ → Result Value EvalError
has_of d (value.Single s) name = Err NoOverload
has_of d (value.List xs) name = Err NoOverload
has_of d (value.Map es) name = Ok (truth (is_some (at_key (key.Text name) es)))
has_of d (value.Domains f) name = Ok (truth (has_domain d f name))
has_of d (value.Entries f domain) name = Ok (truth (has_id d f domain name))

-- ---- what a comprehension goes over

-- the elements of a list, the keys of a map, the domains, or the ids in a domain, in order
abbrev pub elements_of : Device → Value → Result (List Single) EvalError
elements_of d (value.Single s) = Err NoOverload
elements_of d (value.List xs) = Ok xs
elements_of d (value.Map es) = Ok (map single_of (keys_of es))
elements_of d (value.Domains f) = Ok (map single.Text (domains_of d f))
elements_of d (value.Entries f domain) = Ok (map single.Text (ids_of d f domain))
