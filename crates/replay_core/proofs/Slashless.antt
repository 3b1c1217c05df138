-- Names without a slash, and that keys and device ids made of them are those that their printed forms read as.
use Rattle.std.proofs.Common.{ℕ, ◌+◌, ◌-◌, ◌<◌, ◌≡◌, ◌∙◌, Bool, true, false, cond, eqb, List, [], ◌∷◌, ◌++◌, length, take, drop, Option, Some, None, refl, sym, ap, subst, arith, append_assoc, length-append, nat_lt}
use Rattle.std.proofs.Math.Seq.{drop-append-add, take-append_seam}
use Rattle.std.proofs.lemmas.Bool.{and_parts, eqb-true}
use Rattle.std.proofs.lemmas.Bool.Decides.{nat_tests}
use Rattle.std.specs.List.{list_all}
use Rattle.object_fields.specs.Keys.{joined}
use Rattle.object_fields.specs.Limits.{KeyKept}
use Rattle.object_fields.specs.Names.{is_dns_byte, is_dns_label, is_dns_name, is_dns_part, is_end, last_of, onto_first, parts_by}
use Rattle.object_fields.specs.declared.key.DeviceId.{DeviceId}
use Rattle.object_fields.specs.declared.key.Key.{Key}
use Rattle.object_fields.specs.declared.meta.Scope.TheVariants.{Namespaced}
use Rattle.ckpt_journal.specs.Names.{DeviceReadsBack, KeyReadsBack, by_both, by_first, device_of, device_with, first_slash_from, key_of, key_with, last_slash_from}

abbrev pub Slashless : List ℕ → Type 0
Slashless [] = Unit {0}
Slashless (b ∷ bs) = (b ≡ 47 → ⊥) × Slashless bs

-- ---- DNS names

plain : (b : ℕ) → is_dns_byte b ≡ true → b ≡ 47 → ⊥
plain b is same = let off : is_dns_byte 47 ≡ true = subst (λ (n : ℕ). is_dns_byte n ≡ true) same is in absurd (cc off)

bytes_plain : (s : List ℕ) → list_all is_dns_byte s ≡ true → Slashless s
bytes_plain [] are = tt
bytes_plain (b ∷ bs) are =
    let parts = and_parts (is_dns_byte b) (list_all is_dns_byte bs) are in
    (plain b parts.0, bytes_plain bs parts.1)

part_plain : (s : List ℕ) → is_dns_part s ≡ true → Slashless s
part_plain s is = bytes_plain s (and_parts _ _ (and_parts _ (is_end (last_of s)) is).0).0

pub label_plain : (s : List ℕ) → is_dns_label s ≡ true → Slashless s
label_plain s is = part_plain s (and_parts _ (is_dns_part s) is).1

pub label_some : (s : List ℕ) → is_dns_label s ≡ true → 0 < length s
label_some [] is = absurd (cc is)
label_some (b ∷ bs) is = omega arith

-- each part of a text
abbrev ArePlain : List (List ℕ) → Type 0
ArePlain [] = Unit {0}
ArePlain (p ∷ ps) = Slashless p × ArePlain ps

parts_plain : (ps : List (List ℕ)) → list_all is_dns_part ps ≡ true → ArePlain ps
parts_plain [] are = tt
parts_plain (p ∷ ps) are =
    let both = and_parts (is_dns_part p) (list_all is_dns_part ps) are in
    (part_plain p both.0, parts_plain ps both.1)

onto_plain : (b : ℕ) (ps : List (List ℕ)) → ArePlain (onto_first b ps) → (b ≡ 47 → ⊥) × ArePlain ps
onto_plain b [] are = (are.0.0, tt)
onto_plain b (p ∷ ps) are = (are.0.0, (are.0.1, are.1))

point_plain : (b : ℕ) → b ≡ 46 → b ≡ 47 → ⊥
point_plain b point slash = absurd (omega (arith, point, slash))

cut_plain : (b : ℕ) (bs : List ℕ) (ps : List (List ℕ)) (cut : Bool) → eqb b 46 ≡ cut → (ArePlain ps → Slashless bs) → ArePlain (cond cut ([] ∷ ps) (onto_first b ps)) → Slashless (b ∷ bs)
cut_plain b bs ps true is later parts = (point_plain b (eqb-true b 46 is), later parts.1)
cut_plain b bs ps false is later parts = let both = onto_plain b ps parts in (both.0, later both.1)

joined_plain : (s : List ℕ) → ArePlain (parts_by (λ b. eqb b 46) s) → Slashless s
joined_plain [] are = tt
joined_plain (b ∷ bs) are = cut_plain b bs (parts_by (λ c. eqb c 46) bs) (eqb b 46) refl (λ parts. joined_plain bs parts) are

pub name_plain : (s : List ℕ) → is_dns_name s ≡ true → Slashless s
name_plain s is = joined_plain s (parts_plain (parts_by (λ b. eqb b 46) s) is)

-- ---- slashes

past : (b : ℕ) → (b ≡ 47 → ⊥) → eqb b 47 ≡ false
past b other = grind (arith, nat_tests)

first_after : (at : ℕ) (a b : List ℕ) → Slashless a → first_slash_from at (a ++ 47 ∷ b) ≡ Some (at + length a)
first_after at [] b none = ap Some (omega arith)
first_after at (x ∷ a) b none =
    let next : at + 1 + length a ≡ at + length (x ∷ a) = omega arith in
    ap (λ t. cond t (Some at) (first_slash_from (at + 1) (a ++ 47 ∷ b))) (past x none.0) ∙ first_after (at + 1) a b none.1 ∙ ap Some next

none_after : (at : ℕ) (found : Option ℕ) (a : List ℕ) → Slashless a → last_slash_from at found a ≡ found
none_after at found [] none = refl
none_after at found (x ∷ a) none =
    ap (λ t. last_slash_from (at + 1) (cond t (Some at) found) a) (past x none.0) ∙ none_after (at + 1) found a none.1

last_after : (at : ℕ) (found : Option ℕ) (a b : List ℕ) → Slashless b → last_slash_from at found (a ++ 47 ∷ b) ≡ Some (at + length a)
last_after at found [] b none = none_after (at + 1) (Some at) b none ∙ ap Some (omega arith)
last_after at found (x ∷ a) b none =
    let next : at + 1 + length a ≡ at + length (x ∷ a) = omega arith in
    last_after (at + 1) (cond (eqb x 47) (Some at) found) a b none ∙ ap Some next

-- ---- keys

key_at : (namespace name : List ℕ) (n : ℕ) → n ≡ length namespace → 0 < n → by_first key_with (namespace ++ 47 ∷ name) (Some n) ≡ Some (record { namespace = namespace; name = name })
key_at namespace name n is some = off ∙ (λ i. key_with (front i) (back i))
  where
    text : List ℕ
    text = namespace ++ 47 ∷ name

    nonzero : eqb n 0 ≡ false
    nonzero = grind (arith, nat_tests)

    off : by_first key_with (namespace ++ 47 ∷ name) (Some n) ≡ key_with (take n (namespace ++ 47 ∷ name)) (drop (n + 1) (namespace ++ 47 ∷ name))
    off = ap (λ t. cond t None (key_with (take n (namespace ++ 47 ∷ name)) (drop (n + 1) (namespace ++ 47 ∷ name)))) nonzero

    front : take n (namespace ++ 47 ∷ name) ≡ namespace
    front = ap (λ m. take m (namespace ++ 47 ∷ name)) is ∙ take-append_seam namespace (47 ∷ name)

    back : drop (n + 1) (namespace ++ 47 ∷ name) ≡ name
    back = ap (λ m. drop (m + 1) (namespace ++ 47 ∷ name)) is ∙ drop-append-add namespace (47 ∷ name) 1

key_reads : (namespace name : List ℕ) → Slashless namespace → 0 < length namespace → key_of (namespace ++ 47 ∷ name) ≡ Some (record { namespace = namespace; name = name })
key_reads namespace name none some =
    ap (by_first key_with (namespace ++ 47 ∷ name)) (first_after 0 namespace name none)
    ∙ key_at namespace name (0 + length namespace) (omega arith) (omega (arith, some))

joined_some : (namespace name : List ℕ) → 0 < length namespace → joined namespace name ≡ namespace ++ 47 ∷ name
joined_some [] name some = absurd (omega arith)
joined_some (b ∷ bs) name some = append_assoc (b ∷ bs) (47 ∷ []) name

pub key_reads_back : (k : Key) → KeyKept Namespaced k → KeyReadsBack k
key_reads_back k kept =
    ap key_of (joined_some k.namespace k.name (label_some k.namespace kept.namespace))
    ∙ key_reads k.namespace k.name (label_plain k.namespace kept.namespace) (label_some k.namespace kept.namespace)

-- ---- device ids

module _ (driver pool device : List ℕ) where
  abbrev text : List ℕ
  text = driver ++ 47 ∷ (pool ++ 47 ∷ device)

  abbrev made : DeviceId
  made = record { driver = driver; pool = pool; device = device }

  front : (n : ℕ) → n ≡ length driver → take n text ≡ driver
  front n is = ap (λ m. take m text) is ∙ take-append_seam driver (47 ∷ (pool ++ 47 ∷ device))

  rest : (n : ℕ) → n ≡ length driver → drop (n + 1) text ≡ pool ++ 47 ∷ device
  rest n is = ap (λ m. drop (m + 1) text) is ∙ drop-append-add driver (47 ∷ (pool ++ 47 ∷ device)) 1

  middle : (n m : ℕ) → n ≡ length driver → m ≡ length pool → take m (drop (n + 1) text) ≡ pool
  middle n m first is = ap (λ l. take m l) (rest n first) ∙ ap (λ k. take k (pool ++ 47 ∷ device)) is ∙ take-append_seam pool (47 ∷ device)

  back : (m : ℕ) → m ≡ length driver + (1 + (length pool + 1)) → drop m text ≡ device
  back m is =
      ap (λ k. drop k text) is ∙ drop-append-add driver (47 ∷ (pool ++ 47 ∷ device)) (1 + (length pool + 1))
      ∙ drop-append-add (47 ∷ []) (pool ++ 47 ∷ device) (length pool + 1) ∙ drop-append-add pool (47 ∷ device) 1

  both : (first last : ℕ) → first ≡ length driver → last ≡ length driver + 1 + length pool → by_both device_with text (Some first) (Some last) ≡ Some made
  both first last a b =
      ap (λ t. cond t (device_with (take first text) (take (last - (first + 1)) (drop (first + 1) text)) (drop (last + 1) text)) None) less
      ∙ (λ i. device_with (front first a i) (middle first (last - (first + 1)) a (omega (arith, a, b)) i) (back (last + 1) (omega (arith, b)) i))
    where
      less : nat_lt first last ≡ true
      less = grind (arith, nat_tests)

  last_there : Slashless device → last_slash_from 0 None text ≡ Some (length driver + 1 + length pool)
  last_there none =
      ap (last_slash_from 0 None) (sym (append_assoc driver (47 ∷ pool) (47 ∷ device)))
      ∙ last_after 0 None (driver ++ 47 ∷ pool) device none ∙ ap Some (omega (arith, length-append driver (47 ∷ pool)))

  device_reads : Slashless driver → Slashless device → device_of text ≡ Some made
  device_reads a b =
      (λ i. by_both device_with text (first_after 0 driver (pool ++ 47 ∷ device) a i) (last_there b i))
      ∙ both (0 + length driver) (length driver + 1 + length pool) (omega arith) refl

laid : (x y z : List ℕ) → x ++ 47 ∷ [] ++ y ++ 47 ∷ [] ++ z ≡ x ++ 47 ∷ (y ++ 47 ∷ z)
laid x y z = append_assoc (x ++ 47 ∷ [] ++ y) (47 ∷ []) z ∙ append_assoc (x ++ 47 ∷ []) y (47 ∷ z) ∙ append_assoc x (47 ∷ []) (y ++ 47 ∷ z)

pub device_reads_back : (d : DeviceId) → Slashless d.driver → Slashless d.device → DeviceReadsBack d
device_reads_back d a b = ap device_of (laid d.driver d.pool d.device) ∙ device_reads d.driver d.pool d.device a b

-- a position that no device has has an empty name
pub empty_reads_back : DeviceReadsBack (record { driver = []; pool = []; device = [] })
empty_reads_back = refl
