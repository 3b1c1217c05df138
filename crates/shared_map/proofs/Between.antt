-- Entries below a key, some in the middle, and entries above it: what a look-up, an insertion and a removal make of the whole is
-- what they make of the middle.
use Rattle.std.proofs.Common.{◌≡◌, ◌∙◌, List, [], ◌∷◌, ◌++◌, Bool, true, false, cond, None, refl, ap, sym}
use Rattle.std.specs.BTreeMap.{insert_entry, is_at}
use Rattle.std.specs.Map.{lookup, remove_entry, set_value}
use Rattle.std.specs.Ordering.{match_ordering}
use Rattle.std.specs.declared.cmp.Ordering.{Ordering}
use Rattle.std.specs.declared.cmp.Ordering.TheVariants.{Less, Equal, Greater}
use Rattle.shared_map.specs.Chunks.{AreBelow, AreAbove}

match_append : {E : Type 0} (o : Ordering) (x y z high : List E) → match_ordering o x y z ++ high ≡ match_ordering o (x ++ high) (y ++ high) (z ++ high)
match_append Less x y z high = refl
match_append Equal x y z high = refl
match_append Greater x y z high = refl

cond_append : {E : Type 0} (b : Bool) (x y high : List E) → cond b x y ++ high ≡ cond b (x ++ high) (y ++ high)
cond_append true x y high = refl
cond_append false x y high = refl

insert_before : {K V : Type 0} (R : K → K → Ordering) (k : K) (v : V) (mid high : List (K × V)) → AreAbove R k high → insert_entry R (mid ++ high) k v ≡ insert_entry R mid k v ++ high
insert_before R k v [] [] a = refl
insert_before R k v [] (h ∷ high) a = rw a.0 refl
insert_before R k v (m ∷ mid) high a =
    ap (λ t. match_ordering (R k m.0) ((k, v) ∷ m ∷ mid ++ high) ((m.0, v) ∷ mid ++ high) (m ∷ t)) (insert_before R k v mid high a)
    ∙ sym (match_append (R k m.0) ((k, v) ∷ m ∷ mid) ((m.0, v) ∷ mid) (m ∷ insert_entry R mid k v) high)

pub insert_between : {K V : Type 0} (R : K → K → Ordering) (k : K) (v : V) (low mid high : List (K × V)) → AreBelow R k low → AreAbove R k high → insert_entry R (low ++ (mid ++ high)) k v ≡ low ++ (insert_entry R mid k v ++ high)
insert_between R k v [] mid high b a = insert_before R k v mid high a
insert_between R k v (l ∷ low) mid high b a = rw b.0 (ap (λ es. l ∷ es) (insert_between R k v low mid high b.1 a))

lookup_above : {K V : Type 0} (R : K → K → Ordering) (k : K) (high : List (K × V)) → AreAbove R k high → lookup (is_at (R k)) high ≡ None
lookup_above R k [] a = refl
lookup_above R k (h ∷ high) a = rw a.0 (lookup_above R k high a.1)

lookup_before : {K V : Type 0} (R : K → K → Ordering) (k : K) (mid high : List (K × V)) → AreAbove R k high → lookup (is_at (R k)) (mid ++ high) ≡ lookup (is_at (R k)) mid
lookup_before R k [] high a = lookup_above R k high a
lookup_before R k (m ∷ mid) high a = rw (lookup_before R k mid high a) refl

pub lookup_between : {K V : Type 0} (R : K → K → Ordering) (k : K) (low mid high : List (K × V)) → AreBelow R k low → AreAbove R k high → lookup (is_at (R k)) (low ++ (mid ++ high)) ≡ lookup (is_at (R k)) mid
lookup_between R k [] mid high b a = lookup_before R k mid high a
lookup_between R k (l ∷ low) mid high b a = rw b.0 (lookup_between R k low mid high b.1 a)

remove_above : {K V : Type 0} (R : K → K → Ordering) (k : K) (high : List (K × V)) → AreAbove R k high → remove_entry (is_at (R k)) high ≡ high
remove_above R k [] a = refl
remove_above R k (h ∷ high) a = rw a.0 (ap (λ es. h ∷ es) (remove_above R k high a.1))

remove_before : {K V : Type 0} (R : K → K → Ordering) (k : K) (mid high : List (K × V)) → AreAbove R k high → remove_entry (is_at (R k)) (mid ++ high) ≡ remove_entry (is_at (R k)) mid ++ high
remove_before R k [] high a = remove_above R k high a
remove_before R k (m ∷ mid) high a =
    ap (λ t. cond (is_at (R k) m.0) (mid ++ high) (m ∷ t)) (remove_before R k mid high a) ∙ sym (cond_append (is_at (R k) m.0) mid (m ∷ remove_entry (is_at (R k)) mid) high)

pub remove_between : {K V : Type 0} (R : K → K → Ordering) (k : K) (low mid high : List (K × V)) → AreBelow R k low → AreAbove R k high → remove_entry (is_at (R k)) (low ++ (mid ++ high)) ≡ low ++ (remove_entry (is_at (R k)) mid ++ high)
remove_between R k [] mid high b a = remove_before R k mid high a
remove_between R k (l ∷ low) mid high b a = rw b.0 (ap (λ es. l ∷ es) (remove_between R k low mid high b.1 a))

set_above : {K V : Type 0} (R : K → K → Ordering) (k : K) (w : V) (high : List (K × V)) → AreAbove R k high → set_value (is_at (R k)) high w ≡ high
set_above R k w [] a = refl
set_above R k w (h ∷ high) a = rw a.0 (ap (λ es. h ∷ es) (set_above R k w high a.1))

set_before : {K V : Type 0} (R : K → K → Ordering) (k : K) (w : V) (mid high : List (K × V)) → AreAbove R k high → set_value (is_at (R k)) (mid ++ high) w ≡ set_value (is_at (R k)) mid w ++ high
set_before R k w [] high a = set_above R k w high a
set_before R k w (m ∷ mid) high a =
    ap (λ t. cond (is_at (R k) m.0) ((m.0, w) ∷ mid ++ high) (m ∷ t)) (set_before R k w mid high a)
    ∙ sym (cond_append (is_at (R k) m.0) ((m.0, w) ∷ mid) (m ∷ set_value (is_at (R k)) mid w) high)

pub set_between : {K V : Type 0} (R : K → K → Ordering) (k : K) (w : V) (low mid high : List (K × V)) → AreBelow R k low → AreAbove R k high → set_value (is_at (R k)) (low ++ (mid ++ high)) w ≡ low ++ (set_value (is_at (R k)) mid w ++ high)
set_between R k w [] mid high b a = set_before R k w mid high a
set_between R k w (l ∷ low) mid high b a = rw b.0 (ap (λ es. l ∷ es) (set_between R k w low mid high b.1 a))
