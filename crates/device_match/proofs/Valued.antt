-- The attributes of a device as values, one after another.
use Rattle.std.proofs.Common.{◌≡◌, ◌∙◌, ℕ, ℤ, ◌+◌, ◌≤◌, Bool, false, List, [], ◌∷◌, ◌++◌, length, map, true, refl, sym, ap, append_assoc}
use Rattle.std.specs.Prelude.{◌&&◌, nat_le}
use Rattle.std.specs.BTreeMap.{insert_entry}
use Rattle.std.specs.Cmp.{IsTotalOrder}
use Rattle.std.specs.List.{All, AllByRecursion, list_all}
use Rattle.std.specs.List.Sorted.{IsStrictlySortedBy}
use Rattle.std.specs.Map.{keys_of, values_of}
use Rattle.std.proofs.lemmas.Bool.{le-leb}
use Rattle.std.proofs.lemmas.List.Elements.{All-head, All-tail}
use Rattle.std.proofs.lemmas.List.{length-map}
use Rattle.std.specs.Ordering.{ordering_reverse}
use Rattle.std.specs.Str.{chars, is_utf8}
use Rattle.std.specs.declared.cmp.Ordering.{Ordering}
use Rattle.std.specs.declared.cmp.Ordering.TheVariants.{Less, Greater}
use Rattle.object_fields.specs.declared.qualified.QualName.{QualName}
use Rattle.api_slice.specs.declared.types.Attribute.{Attribute}
use Rattle.api_slice.specs.Drivers.{IsDriver}
use Rattle.api_slice.specs.Properties.{AreProperties, IsFullName, IsValue, PropertyTables}
use Rattle.cel_value.specs.declared.value.Single.{Single}
use Rattle.cel_value.specs.Device.{IsWithinLimits, is_short_name, is_short_text, is_short_value}
use Rattle.pool_view.specs.Devices.{value_of, valued}

-- a text of at most 64 characters that is UTF-8 is short
pub short_by : (s t : List ℕ) → t ≡ s → is_utf8 s ≡ true → length (chars s) ≤ 64 → is_short_text t ≡ true
short_by s t e u h = rw (e, u) (le-leb (length (chars s)) 64 h)

-- values change no key
keys_valued : (es : List (QualName × Attribute)) → keys_of (map valued es) ≡ keys_of es
keys_valued [] = refl
keys_valued (e ∷ es) = ap (λ l. e.0 ∷ l) (keys_valued es)

below_later : {K X : Type 0} (R : K → K → Ordering) (y : K) (xs rest : List (K × X)) (k : K) (v : X) → AllByRecursion (λ q. R y q ≡ Less) (keys_of (xs ++ (k, v) ∷ rest)) → R y k ≡ Less
below_later R y [] rest k v a = a.0
below_later R y (x ∷ xs) rest k v a = below_later R y xs rest k v a.1

-- an entry that comes after all others in an order goes to the end
insert_last : {K X : Type 0} (R : K → K → Ordering) → IsTotalOrder R → (xs rest : List (K × X)) (k : K) (v : X) → IsStrictlySortedBy R (keys_of (xs ++ (k, v) ∷ rest)) → insert_entry R xs k v ≡ xs ++ (k, v) ∷ []
unfolding IsStrictlySortedBy
insert_last R o [] rest k v s = refl
insert_last R o (x ∷ xs) rest k v s =
    let above : R k x.0 ≡ Greater = o.antisymm k x.0 ∙ ap ordering_reverse (below_later R x.0 xs rest k v s.0) in
    rw above (ap (λ es. x ∷ es) (insert_last R o xs rest k v s.1))

-- What was made of a prefix of the entries, and what is left of them.
pub record IsMade (all : List (QualName × Attribute)) (made : List (QualName × Single)) (rest : List (QualName × Attribute)) : Type 0 where
  pub whole : map valued all ≡ made ++ map valued rest
  pub left : All IsValue (values_of rest)
  pub short : list_all is_short_value (values_of made) ≡ true

both_true : (a b : Bool) → a ≡ true → b ≡ true → (a && b) ≡ true
both_true a b e f = rw (e, f) refl

each_true : (a b : Bool) → (a && b) ≡ true → (a ≡ true) × (b ≡ true)
each_true true b h = (refl, h)
each_true false b h = absurd (cc)

short_more : (made : List (QualName × Single)) (k : QualName) (v : Single) → list_all is_short_value (values_of made) ≡ true → is_short_value v ≡ true
    → list_all is_short_value (values_of (made ++ (k, v) ∷ [])) ≡ true
short_more [] k v h s = both_true (is_short_value v) true s refl
short_more (e ∷ es) k v h s =
    let each = each_true (is_short_value e.1) (list_all is_short_value (values_of es)) h in
    both_true (is_short_value e.1) (list_all is_short_value (values_of (es ++ (k, v) ∷ []))) each.0 (short_more es k v each.1 s)

made_last : (R : QualName → QualName → Ordering) → IsTotalOrder R → (all : List (QualName × Attribute)) (made made2 : List (QualName × Single)) (rest rest2 : List (QualName × Attribute)) (k k2 : QualName) (a : Attribute) (v : Single)
    → map valued all ≡ made ++ map valued rest → rest ≡ (k, a) ∷ rest2 → IsStrictlySortedBy R (keys_of all) → k2 ≡ k → v ≡ value_of a → made2 ≡ insert_entry R made k2 v
    → made2 ≡ made ++ (k, value_of a) ∷ []
made_last R o all made made2 rest rest2 k k2 a v e f s kc vc i =
    let whole : map valued all ≡ made ++ (k, value_of a) ∷ map valued rest2 = e ∙ ap (λ l. made ++ map valued l) f in
    let same : made2 ≡ insert_entry R made k (value_of a) = rw (kc, vc) at i in
    let sorted : IsStrictlySortedBy R (keys_of (map valued all)) = rw (keys_valued all) s in
    same ∙ insert_last R o made (map valued rest2) k (value_of a) (rw whole at sorted)

-- the next entry, as a value, goes to the end
pub made_more : (R : QualName → QualName → Ordering) → IsTotalOrder R → (all : List (QualName × Attribute)) (made made2 : List (QualName × Single)) (rest rest2 : List (QualName × Attribute)) (k k2 : QualName) (a : Attribute) (v : Single)
    → IsMade all made rest → rest ≡ (k, a) ∷ rest2 → IsStrictlySortedBy R (keys_of all) → k2 ≡ k → v ≡ value_of a → is_short_value v ≡ true → made2 ≡ insert_entry R made k2 v
    → IsMade all made2 rest2
made_more R o all made made2 rest rest2 k k2 a v m f s kc vc short i =
    let last : made2 ≡ made ++ (k, value_of a) ∷ [] = made_last R o all made made2 rest rest2 k k2 a v m.whole f s kc vc i in
    let values : All IsValue (values_of ((k, a) ∷ rest2)) = rw f at m.left in
    record {
      whole = m.whole ∙ ap (λ l. made ++ map valued l) f ∙ sym (append_assoc made ((k, value_of a) ∷ []) (map valued rest2)) ∙ sym (ap (λ l. l ++ map valued rest2) last);
      left = All-tail IsValue a (values_of rest2) values;
      short = rw last (short_more made k (value_of a) m.short (rw vc at short));
    }

all_pass : {X : Type 0} (P : X → Type 0) (p : X → Bool) → ((x : X) → P x → p x ≡ true) → (xs : List X) → All P xs → list_all p xs ≡ true
all_pass P p f [] h = refl
all_pass P p f (x ∷ xs) h = both_true (p x) (list_all p xs) (f x (All-head P x xs h)) (all_pass P p f xs (All-tail P x xs h))

short_name : (q : QualName) → IsFullName q → is_short_name q ≡ true
short_name q h = both_true _ _ (le-leb (length q.domain) 63 h.domain) (le-leb (length q.id) 32 h.id)

-- the driver and a device of a slice keep the limits of a device
pub within : (driver name : List ℕ) (p : PropertyTables) (attributes : List (QualName × Single)) (capacity : List (QualName × ℤ))
    → driver ≡ name → IsDriver name → AreProperties p → attributes ≡ map valued p.attributes → capacity ≡ p.capacity → list_all is_short_value (values_of attributes) ≡ true
    → IsWithinLimits (record { driver = driver; attributes = attributes; capacity = capacity })
within driver name p attributes capacity d i h a c short =
    let keys : keys_of attributes ≡ keys_of p.attributes = ap keys_of a ∙ keys_valued p.attributes in
    let many : length attributes ≡ length p.attributes = ap length a ∙ length-map p.attributes valued in
    let named : nat_le (length driver) 63 ≡ true = rw d (le-leb (length name) 63 i.size) in
    let attribute_names : list_all is_short_name (keys_of attributes) ≡ true = rw keys (all_pass IsFullName is_short_name short_name (keys_of p.attributes) h.attribute_names) in
    let capacity_names : list_all is_short_name (keys_of capacity) ≡ true = rw c (all_pass IsFullName is_short_name short_name (keys_of p.capacity) h.capacity_names) in
    let few : nat_le (length attributes + length capacity) 32 ≡ true = rw (many, c) (le-leb (length p.attributes + length p.capacity) 32 h.together) in
    record { kept = both_true _ _ named (both_true _ _ attribute_names (both_true _ _ short (both_true _ _ capacity_names few))) }
