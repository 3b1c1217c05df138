-- What a device within its limits has, by weight and number.
use Rattle.std.proofs.Common.{◌≡◌, rules, ℕ, suc, ◌+◌, ◌*◌, ◌≤◌, List, [], ◌∷◌, ◌++◌, map, length, Bool, true, false, ap, refl, arith, if◌then◌else◌, chars, IsUtf8, encode_utf8, encode_utf8_all, bytes_eq}
use Rattle.std.specs.Prelude.{◌&&◌, nat_le}
use Rattle.std.specs.List.{list_any, list_all}
use Rattle.std.specs.Str.{is_utf8}
use Rattle.std.specs.Map.{keys_of, values_of}
use Rattle.std.proofs.lemmas.List.{length-append}
use Rattle.std.proofs.lemmas.Str.{IsUtf8-from_is_utf8, chars_from_encodes, length-encode, len_utf8_bounds}
use Rattle.object_fields.specs.declared.qualified.QualName.{QualName}
use Rattle.cel_tree.specs.declared.types.Facet.{Facet}
use Rattle.cel_tree.specs.declared.types.Facet.TheVariants.{Attributes, Capacities}
use Rattle.cel_value.specs.declared.value.Single.{Single}
use Rattle.cel_value.specs.declared.value.Single.TheVariants as single
use Rattle.cel_value.specs.Values.{single_weight}
use Rattle.cel_value.specs.Lookups.{names_of, with_new, domains_from, domains_of, ids_in, ids_of}
use Rattle.cel_value.specs.Device.{Device, is_short_name, is_short_text, is_short_value, IsWithinLimits}
use Rattle.cel_meaning.specs.HasKind.{Every, no_more, first}
use Rattle.cel_meaning.proofs.Every.{every_append}

-- ---- texts

encoded_most : (cs : List ℕ) → length (encode_utf8_all cs) ≤ 4 * length cs
encoded_most [] = omega arith
encoded_most (c ∷ cs) = omega (arith, encoded_most cs, length-append (encode_utf8 c) (encode_utf8_all cs), length-encode c, (len_utf8_bounds c).1)

-- a character has at most four bytes
bytes_most : (s : List ℕ) → IsUtf8 s → length s ≤ 4 * length (chars s)
bytes_most s u = omega (arith, encoded_most u.0, ap length u.1.1, ap length (chars_from_encodes u.0 s u u.1.1))

both_true : (a b : Bool) → (a && b) ≡ true → (a ≡ true) × (b ≡ true)
both_true true true e = (refl, refl)
both_true a b e = absurd (cc)

test_le : (m n : ℕ) → nat_le m n ≡ true → m ≤ n
test_le m n e = search (rules, e)

text_most : (s : List ℕ) → is_short_text s ≡ true → length s ≤ 256
text_most s h =
    let b = both_true (is_utf8 s) (nat_le (length (chars s)) 64) h in
    omega (arith, test_le (length (chars s)) 64 b.1, bytes_most s (IsUtf8-from_is_utf8 s b.0))

value_most : (x : Single) → is_short_value x ≡ true → single_weight x ≤ 257
value_most single.Null h = omega arith
value_most (single.Bool b) h = omega arith
value_most (single.Int n) h = omega arith
value_most (single.Text s) h = omega (arith, text_most s h)
value_most (single.Quantity n) h = omega arith
value_most (single.Version v) h = omega arith

-- ---- the limits

pub record IsShortName (name : QualName) : Type 0 where
  pub domain : length name.domain ≤ 63
  pub id : length name.id ≤ 32

short_name : (name : QualName) → is_short_name name ≡ true → IsShortName name
short_name name h =
    let b = both_true (nat_le (length name.domain) 63) (nat_le (length name.id) 32) h in
    record { domain = test_le (length name.domain) 63 b.0; id = test_le (length name.id) 32 b.1 }

all_pass : {A : Type 0} (P : A → Type 0) (p : A → Bool) → ((x : A) → p x ≡ true → P x) → (xs : List A) → list_all p xs ≡ true → Every P xs
all_pass P p g [] h = no_more
all_pass P p g (x ∷ xs) h =
    let b = both_true (p x) (list_all p xs) h in
    first (g x b.0) (all_pass P p g xs b.1)

values_every : {K X : Type 0} (P : X → Type 0) (es : List (K × X)) → Every P (values_of es) → Every (λ e. P e.1) es
values_every P [] h = no_more
values_every P (e ∷ es) (first p ps) = first p (values_every P es ps)

pub record Limited (d : Device) : Type 0 where
  pub driver : length d.driver ≤ 63
  pub attributes : Every IsShortName (keys_of d.attributes)
  pub values : Every (λ e. single_weight e.1 ≤ 257) d.attributes
  pub capacity : Every IsShortName (keys_of d.capacity)
  pub few : length d.attributes ≤ 32
  pub scarce : length d.capacity ≤ 32

pub limited : (d : Device) → IsWithinLimits d → Limited d
limited d h =
    let few = nat_le (length d.attributes + length d.capacity) 32 in
    let names = list_all is_short_name (keys_of d.capacity) in
    let values = list_all is_short_value (values_of d.attributes) in
    let keys = list_all is_short_name (keys_of d.attributes) in
    let a = both_true (nat_le (length d.driver) 63) (keys && (values && (names && few))) h.kept in
    let b = both_true keys (values && (names && few)) a.1 in
    let c = both_true values (names && few) b.1 in
    let e = both_true names few c.1 in
    let together : length d.attributes + length d.capacity ≤ 32 = test_le (length d.attributes + length d.capacity) 32 e.1 in
    record {
      driver = test_le (length d.driver) 63 a.0;
      attributes = all_pass IsShortName is_short_name short_name (keys_of d.attributes) b.0;
      values = values_every (λ x. single_weight x ≤ 257) d.attributes (all_pass (λ x. single_weight x ≤ 257) is_short_value value_most (values_of d.attributes) c.0);
      capacity = all_pass IsShortName is_short_name short_name (keys_of d.capacity) e.0;
      few = omega arith;
      scarce = omega arith;
    }

-- ---- names

keys_length : {K X : Type 0} (es : List (K × X)) → length (keys_of es) ≡ length es
keys_length [] = refl
keys_length (e ∷ es) = ap suc (keys_length es)

names_short : (d : Device) (f : Facet) → Limited d → Every IsShortName (names_of d f)
names_short d Attributes g = g.attributes
names_short d Capacities g = g.capacity

names_few : (d : Device) (f : Facet) → Limited d → length (names_of d f) ≤ 32
names_few d Attributes g = omega (arith, g.few, keys_length d.attributes)
names_few d Capacities g = omega (arith, g.scarce, keys_length d.capacity)

-- ---- domains

with_new_short : (b : Bool) (seen : List (List ℕ)) (x : List ℕ) → Every (λ s. length s ≤ 63) seen → length x ≤ 63 → Every (λ s. length s ≤ 63) (if b then seen else seen ++ x ∷ [])
with_new_short true seen x h p = h
with_new_short false seen x h p = every_append h (first p no_more)

with_new_few : (b : Bool) (seen : List (List ℕ)) (x : List ℕ) → length (if b then seen else seen ++ x ∷ []) ≤ length seen + 1
with_new_few true seen x = omega arith
with_new_few false seen x = omega (arith, length-append seen (x ∷ []))

domains_short : (seen : List (List ℕ)) {names : List QualName} → Every (λ s. length s ≤ 63) seen → Every IsShortName names → Every (λ s. length s ≤ 63) (domains_from seen names)
domains_short seen h no_more = h
domains_short seen h (first {x = x} p ps) =
    domains_short (with_new seen x.domain) (with_new_short (list_any (λ s. bytes_eq s x.domain) seen) seen x.domain h p.domain) ps

domains_few : (seen : List (List ℕ)) (names : List QualName) → length (domains_from seen names) ≤ length seen + length names
domains_few seen [] = omega arith
domains_few seen (x ∷ names) =
    omega (arith, domains_few (with_new seen x.domain) names, with_new_few (list_any (λ s. bytes_eq s x.domain) seen) seen x.domain)

-- ---- ids

choose_short : (b : Bool) (x : List ℕ) (xs : List (List ℕ)) → length x ≤ 63 → Every (λ s. length s ≤ 63) xs → Every (λ s. length s ≤ 63) (if b then x ∷ xs else xs)
choose_short true x xs p h = first p h
choose_short false x xs p h = h

choose_few : (b : Bool) (x : List ℕ) (xs : List (List ℕ)) → length (if b then x ∷ xs else xs) ≤ length xs + 1
choose_few true x xs = omega arith
choose_few false x xs = omega arith

ids_short : (domain : List ℕ) {names : List QualName} → Every IsShortName names → Every (λ s. length s ≤ 63) (ids_in domain names)
ids_short domain no_more = no_more
ids_short domain (first {x = x} {xs = xs} p ps) = choose_short (bytes_eq x.domain domain) x.id (ids_in domain xs) (omega (arith, p.id)) (ids_short domain ps)

ids_few : (domain : List ℕ) (names : List QualName) → length (ids_in domain names) ≤ length names
ids_few domain [] = omega arith
ids_few domain (x ∷ names) = omega (arith, choose_few (bytes_eq x.domain domain) x.id (ids_in domain names), ids_few domain names)

-- ---- texts as elements

texts_short : {xs : List (List ℕ)} → Every (λ s. length s ≤ 63) xs → Every (λ x. single_weight x ≤ 64) (map single.Text xs)
texts_short no_more = no_more
texts_short (first p ps) = first (omega (arith, p)) (texts_short ps)

texts_length : (xs : List (List ℕ)) → length (map single.Text xs) ≡ length xs
texts_length [] = refl
texts_length (x ∷ xs) = ap suc (texts_length xs)

pub domains_weigh : (d : Device) (f : Facet) → Limited d → Every (λ x. single_weight x ≤ 64) (map single.Text (domains_of d f))
domains_weigh d f g = texts_short (domains_short [] no_more (names_short d f g))

pub domains_number : (d : Device) (f : Facet) → Limited d → length (map single.Text (domains_of d f)) ≤ 32
domains_number d f g = omega (arith, texts_length (domains_of d f), domains_few [] (names_of d f), names_few d f g)

pub ids_weigh : (d : Device) (f : Facet) (domain : List ℕ) → Limited d → Every (λ x. single_weight x ≤ 64) (map single.Text (ids_of d f domain))
ids_weigh d f domain g = texts_short (ids_short domain (names_short d f g))

pub ids_number : (d : Device) (f : Facet) (domain : List ℕ) → Limited d → length (map single.Text (ids_of d f domain)) ≤ 32
ids_number d f domain g = omega (arith, texts_length (ids_of d f domain), ids_few domain (names_of d f), names_few d f g)
