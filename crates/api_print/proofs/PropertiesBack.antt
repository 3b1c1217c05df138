-- The attributes and the capacities of a device read as they are.
use Rattle.std.proofs.Common.{◌≡◌, ℕ, ◌+◌, ◌≤◌, ◌^◌, ℤ, pos, negsuc, true, false, List, [], ◌∷◌, ◌++◌, length, Option, Some, None, Ok, refl, sym, ap, ◌∙◌, append_assoc, arith, inl, inr}
use Rattle.std.specs.Prelude.{codes}
use Rattle.std.proofs.lemmas.Bool.{cases_Bool, lt-ltb}
use Rattle.std.proofs.lemmas.Cmp.{nat_list_cmp_total, on_total, then_total, tied_itself}
use Rattle.std.proofs.lemmas.Map.Text.{is_eq-slice_cmp}
use Rattle.std.proofs.lemmas.Slice.Eq.{bytes_eq-Decides}
use Rattle.std.specs.BTreeMap.{insert_entry}
use Rattle.std.specs.Cmp.{IsTotalOrder}
use Rattle.std.specs.Cmp.Lexicographic.{slice_cmp}
use Rattle.std.specs.List.{AllByRecursion}
use Rattle.std.specs.List.Sorted.{IsStrictlySortedBy}
use Rattle.std.specs.Map.{keys_of, values_of}
use Rattle.std.specs.Ordering.{is_eq, nat_cmp}
use Rattle.std.specs.Str.{chars}
use Rattle.serde_json.specs.Data.{Data, no_members}
use Rattle.serde_json.specs.Find.{get}
use Rattle.object_fields.specs.Qualified.{IsFullName, cut_at, qual_name_in}
use Rattle.object_fields.specs.declared.path.Step.{Step}
use Rattle.object_fields.specs.declared.path.Step.TheVariants.{Key, Member}
use Rattle.object_fields.specs.declared.qualified.QualName.{QualName}
use Rattle.api_slice.specs.Attributes.{attribute_of, attributes_of, attributes_with, chars_most, new_name, qual_cmp}
use Rattle.api_slice.specs.Capacity.{capacity_of, capacity_with, together_at, together_most, value_without_policy}
use Rattle.api_slice.specs.Lists.{count_at}
use Rattle.api_slice.specs.Properties.{IsValue}
use Rattle.api_slice.specs.declared.types.Attribute.{Attribute}
use Rattle.api_slice.specs.declared.types.Attribute.TheVariants as attribute
use Rattle.api_print.specs.Devices.{amount_json, attribute_json, full_name}
use Rattle.api_print.specs.Ranges.{AttributeInRange, QuantityInRange}
use Rattle.api_print.specs.Shapes.{table_if, with_entries}
use Rattle.api_print.proofs.ClaimBack.{parts_back}
use Rattle.api_print.proofs.Decimals.{not_longer}
use Rattle.api_print.proofs.Entries.{AllBoth, AreApart, AreFresh, IsFresh, again, apart_all, apart_sorted, both, both_all, fresh_read, inserted, name_cmp, named, no_more, none_before, not_there, printed_named}
use Rattle.api_print.proofs.FullNames.{name_cut}

-- ---- full names

domain_of : QualName → List ℕ
domain_of q = q.domain

id_of : QualName → List ℕ
id_of q = q.id

qual_total : IsTotalOrder qual_cmp
unfolding domain_of id_of
qual_total = then_total (on_total domain_of nat_list_cmp_total) (on_total id_of nat_list_cmp_total)

full_total : IsTotalOrder (name_cmp full_name)
full_total = on_total full_name nat_list_cmp_total

cut_full : (q : QualName) → IsFullName q → cut_at 47 (full_name q) ≡ Some (q.domain, q.id)
cut_full q full = rw (append_assoc q.domain (codes "/") q.id) (name_cut q.domain q.id full.domain_form)

meant : (p : List Step) (driver : List ℕ) (q : QualName) → IsFullName q → qual_name_in p driver (full_name q) ≡ Ok q
meant p driver q full =
    rw (cut_full q full) (parts_back p q full)

abbrev domain_cut : Option (List ℕ × List ℕ) → List ℕ
domain_cut None = []
domain_cut (Some p) = p.0

abbrev id_cut : Option (List ℕ × List ℕ) → List ℕ
id_cut None = []
id_cut (Some p) = p.1

abbrev as_name : List ℕ → List ℕ → QualName
as_name domain id = record { domain = domain; id = id }

same_parts : (a b : QualName) → a.domain ≡ b.domain → a.id ≡ b.id → a ≡ b
same_parts a b d i = ap (λ x. as_name x a.id) d ∙ ap (as_name b.domain) i

-- names that print alike are one name
alike : (a b : QualName) → IsFullName a → IsFullName b → full_name a ≡ full_name b → a ≡ b
alike a b fa fb h =
    let cut : cut_at 47 (full_name a) ≡ cut_at 47 (full_name b) = ap (cut_at 47) h in
    same_parts a b (sym (ap domain_cut (cut_full a fa)) ∙ ap domain_cut cut ∙ ap domain_cut (cut_full b fb)) (sym (ap id_cut (cut_full a fa)) ∙ ap id_cut cut ∙ ap id_cut (cut_full b fb))

same_bytes : (x y : List ℕ) → is_eq (slice_cmp nat_cmp x y) ≡ true → x ≡ y
same_bytes x y h = (bytes_eq-Decides x y).0 (sym (is_eq-slice_cmp x y) ∙ h)

names_apart : (a b : QualName) → IsFullName a → IsFullName b → is_eq (qual_cmp a b) ≡ false → is_eq (name_cmp full_name a b) ≡ false
names_apart a b fa fb h = elim (cases_Bool (is_eq (name_cmp full_name a b))) as (λ _. is_eq (name_cmp full_name a b) ≡ false) [
  | inl is ↦
      let same : a ≡ b = alike a b fa fb (same_bytes (full_name a) (full_name b) is) in
      let tied : is_eq (qual_cmp a b) ≡ true = rw (← same) (ap is_eq (tied_itself qual_total a)) in
      absurd (let no_value : true ≡ false = sym tied ∙ h in cc)
  | inr is ↦ is
]

fresh_name : {V : Type 0} (q : QualName) (es : List (QualName × V)) → IsFullName q → AllByRecursion IsFullName (keys_of es) → IsFresh qual_cmp q es → IsFresh (name_cmp full_name) q es
fresh_name q [] full all h = tt
fresh_name q (e ∷ es) full all h = (names_apart q e.0 full all.0 h.0, fresh_name q es full all.1 h.1)

apart_names : {V : Type 0} (es : List (QualName × V)) → AllByRecursion IsFullName (keys_of es) → AreApart qual_cmp es → AreApart (name_cmp full_name) es
apart_names [] all h = tt
apart_names (e ∷ es) all h = (fresh_name e.0 es all.0 all.1 h.0, apart_names es all.1 h.1)

-- a table by full names that is printed and read is in order again
ordered_again : {V : Type 0} (es : List (QualName × V)) → AllByRecursion IsFullName (keys_of es) → IsStrictlySortedBy qual_cmp (keys_of es) → inserted qual_cmp [] (inserted (name_cmp full_name) [] es) ≡ es
ordered_again es all sorted =
    let apart : AreApart qual_cmp es = apart_sorted qual_cmp es sorted in
    again qual_cmp (name_cmp full_name) qual_total full_total es sorted apart (apart_names es all apart)

still_apart : {V : Type 0} (es : List (QualName × V)) → IsStrictlySortedBy qual_cmp (keys_of es) → AreApart qual_cmp (inserted (name_cmp full_name) [] es)
still_apart es sorted =
    apart_all qual_cmp (name_cmp full_name) qual_total [] es (none_before qual_cmp es) (apart_sorted qual_cmp es sorted) tt

new_back : {V : Type 0} (p : List Step) (driver : List ℕ) (before : List (QualName × V)) (q : QualName) → IsFullName q → IsFresh qual_cmp q before → new_name p driver before (full_name q) ≡ Ok q
new_back p driver before q full fresh = rw (meant p driver q full, not_there qual_cmp q before fresh) refl

-- ---- attributes

int_back : (p : List Step) (n : ℤ) → AttributeInRange (attribute.Int n) → attribute_of p (attribute_json (attribute.Int n)) ≡ Ok (attribute.Int n)
int_back p (pos n) h = rw (lt-ltb n (2 ^ 63) h) refl
int_back p (negsuc n) h = rw (lt-ltb n (2 ^ 63) h) refl

attribute_back : (p : List Step) (a : Attribute) → IsValue a → AttributeInRange a → attribute_of p (attribute_json a) ≡ Ok a
attribute_back p (attribute.Int n) kept h = int_back p n h
attribute_back p (attribute.Bool b) kept h = refl
attribute_back p (attribute.Text text) kept h = rw (not_longer chars_most (length (chars text)) kept.size) refl
attribute_back p (attribute.Version text) kept h = rw (not_longer chars_most (length (chars text)) kept.size, kept.version) refl

pub record AttributeReads (a : Attribute) : Type 0 where
  pub reads : (p : List Step) → attribute_of p (attribute_json a) ≡ Ok a

pub attribute_reads : (a : Attribute) → IsValue a → AttributeInRange a → AttributeReads a
attribute_reads a kept h = record { reads = λ p. attribute_back p a kept h }

attributes_read : (driver : List ℕ) (path : List Step) (before xs : List (QualName × Attribute)) → AreFresh qual_cmp xs before → AreApart qual_cmp xs → AllBoth IsFullName AttributeReads xs → attributes_with driver path before (named full_name attribute_json xs) ≡ Ok (inserted qual_cmp before xs)
attributes_read driver path before [] fresh apart all = refl
attributes_read driver path before (e ∷ es) fresh apart all =
    rw (new_back (path ++ Key (full_name e.0) ∷ []) driver before e.0 all.0 fresh.0, all.1.reads (path ++ Key (full_name e.0) ∷ []))
    (attributes_read driver path (insert_entry qual_cmp before e.0 e.1) es (fresh_read qual_cmp qual_total e.0 e.1 es before fresh.1 apart.0) apart.1 all.2)

attributes_in_table : (driver : List ℕ) (path : List Step) (es : List (QualName × Attribute)) → IsStrictlySortedBy qual_cmp (keys_of es) → AllByRecursion IsFullName (keys_of es) → AllByRecursion AttributeReads (values_of es) → attributes_with driver path [] (with_entries full_name attribute_json no_members es) ≡ Ok es
attributes_in_table driver path es sorted names values =
    let xs : List (QualName × Attribute) = inserted (name_cmp full_name) [] es in
    rw (printed_named full_name attribute_json es, attributes_read driver path [] xs (none_before qual_cmp xs) (still_apart es sorted) (both_all IsFullName AttributeReads (name_cmp full_name) [] es tt (both IsFullName AttributeReads es names values)))
    (ap Ok (ordered_again es names sorted))

pub attributes_back : (driver : List ℕ) (path : List Step) (d : Data) (es : List (QualName × Attribute)) → get (codes "attributes") d ≡ table_if full_name attribute_json es → IsStrictlySortedBy qual_cmp (keys_of es) → AllByRecursion IsFullName (keys_of es) → AllByRecursion AttributeReads (values_of es) → attributes_of driver path d ≡ Ok es
attributes_back driver path d [] h sorted names values = rw h refl
attributes_back driver path d (e ∷ es) h sorted names values =
    rw h (attributes_in_table driver (path ++ Member (codes "attributes") ∷ []) (e ∷ es) sorted names values)

-- ---- capacities

amount_back : (p : List Step) (n : ℤ) → QuantityInRange n → value_without_policy p (amount_json n) ≡ Ok n
amount_back p n h = rw h.reads refl

capacity_read : (driver : List ℕ) (path : List Step) (before xs : List (QualName × ℤ)) → AreFresh qual_cmp xs before → AreApart qual_cmp xs → AllBoth IsFullName QuantityInRange xs → capacity_with driver path before (named full_name amount_json xs) ≡ Ok (inserted qual_cmp before xs)
capacity_read driver path before [] fresh apart all = refl
capacity_read driver path before (e ∷ es) fresh apart all =
    rw (new_back (path ++ Key (full_name e.0) ∷ []) driver before e.0 all.0 fresh.0, amount_back (path ++ Key (full_name e.0) ∷ []) e.1 all.1)
    (capacity_read driver path (insert_entry qual_cmp before e.0 e.1) es (fresh_read qual_cmp qual_total e.0 e.1 es before fresh.1 apart.0) apart.1 all.2)

capacity_in_table : (driver : List ℕ) (path : List Step) (es : List (QualName × ℤ)) → IsStrictlySortedBy qual_cmp (keys_of es) → AllByRecursion IsFullName (keys_of es) → AllByRecursion QuantityInRange (values_of es) → capacity_with driver path [] (with_entries full_name amount_json no_members es) ≡ Ok es
capacity_in_table driver path es sorted names values =
    let xs : List (QualName × ℤ) = inserted (name_cmp full_name) [] es in
    rw (printed_named full_name amount_json es, capacity_read driver path [] xs (none_before qual_cmp xs) (still_apart es sorted) (both_all IsFullName QuantityInRange (name_cmp full_name) [] es tt (both IsFullName QuantityInRange es names values)))
    (ap Ok (ordered_again es names sorted))

-- as many members as entries, or fewer
count_back : {V : Type 0} (key : List ℕ) (json : V → Data) (d : Data) (es : List (QualName × V)) → get key d ≡ table_if full_name json es → count_at key d ≤ length es
count_back key json d [] h = rw h (omega arith)
count_back key json d (e ∷ es) h = rw h (no_more full_name json (e ∷ es))

together_back : {V : Type 0} (json : V → Data) (path : List Step) (d : Data) (before : List (QualName × V)) (es : List (QualName × ℤ)) → get (codes "attributes") d ≡ table_if full_name json before → get (codes "capacity") d ≡ table_if full_name amount_json es → length before + length es ≤ together_most → together_at path d ≡ Ok tt
together_back json path d before es ha hc few =
    let most : count_at (codes "attributes") d + count_at (codes "capacity") d ≤ together_most = omega (arith, count_back (codes "attributes") json d before ha, count_back (codes "capacity") amount_json d es hc, few) in
    rw (not_longer together_most (count_at (codes "attributes") d + count_at (codes "capacity") d) most) refl

pub capacity_back : {V : Type 0} (json : V → Data) (driver : List ℕ) (path : List Step) (d : Data) (before : List (QualName × V)) (es : List (QualName × ℤ)) → get (codes "attributes") d ≡ table_if full_name json before → get (codes "capacity") d ≡ table_if full_name amount_json es → length before + length es ≤ together_most → IsStrictlySortedBy qual_cmp (keys_of es) → AllByRecursion IsFullName (keys_of es) → AllByRecursion QuantityInRange (values_of es)
    → capacity_of driver path d ≡ Ok es
capacity_back json driver path d before [] ha hc few sorted names values = rw (together_back json path d before [] ha hc few, hc) refl
capacity_back json driver path d before (e ∷ es) ha hc few sorted names values =
    rw (together_back json path d before (e ∷ es) ha hc few, hc) (capacity_in_table driver (path ++ Member (codes "capacity") ∷ []) (e ∷ es) sorted names values)
