-- Why the attributes, the capacities, the counter sets and what a device draws keep the limits.
use Rattle.std.proofs.Common.{◌≡◌, ℕ, ◌+◌, ◌≤◌, nat_lt, ◌≢◌, ℤ, cond, map, Bool, true, false, not, List, [], ◌∷◌, ◌++◌, length, Option, Some, None, Ok, refl, sym, ap, ◌∙◌, arith, codes, option_and_then}
use Rattle.std.proofs.lemmas.List.{map-append}
use Rattle.std.proofs.lemmas.List.Sums.{sum_by-append}
use Rattle.std.proofs.lemmas.Slice.Eq.{bytes_eq-Decides}
use Rattle.std.proofs.lemmas.List.Elements.{All-nil, All-cons, All-append}
use Rattle.std.specs.BTreeMap.{insert_entry}
use Rattle.std.specs.List.{All, sum_by}
use Rattle.std.specs.Map.{keys_of, values_of}
use Rattle.std.specs.Cmp.Lexicographic.{slice_cmp}
use Rattle.std.specs.Ordering.{nat_cmp}
use Rattle.std.specs.Str.{bytes_eq, chars}
use Rattle.serde_json.specs.Data.{Data, Items, no_items, item, Members, no_members, member}
use Rattle.serde_json.specs.Find.{as_object}
use Rattle.object_fields.specs.Fields.{dns_label_at, error_at, field_error, if_there, list_at, member_of, object_value, optional_at, signed_at, some_or, table_at, text_at, truth_at, unless, ◌>>=◌}
use Rattle.object_fields.specs.Lists.{items_or_none}
use Rattle.object_fields.specs.Names.{is_dns_label, label_most}
use Rattle.object_fields.specs.NewNames.{AreDifferent}
use Rattle.object_fields.specs.Qualified.{IsFullName}
use Rattle.object_fields.specs.declared.error.FieldError.{FieldError}
use Rattle.object_fields.specs.declared.kind.FieldErrorKind.TheVariants.{BadVersion, Doubled, NotOne, TooLong, TooMany, Missing, Unknown, WrongType}
use Rattle.object_fields.specs.declared.path.Step.{Step}
use Rattle.object_fields.specs.declared.path.Step.TheVariants as step
use Rattle.object_fields.specs.declared.qualified.QualName.{QualName}
use Rattle.api_slice.specs.Amounts as amounts
use Rattle.api_slice.specs.Attributes.{attribute_of, attributes_in, attributes_with, chars_most, is_long, is_version, new_name, one_value, qual_cmp, short_text_at, version_at, version_text}
use Rattle.api_slice.specs.Capacity.{capacity_in, capacity_with, value_without_policy}
use Rattle.api_slice.specs.Consumption.{amounts_at, amounts_most, amounts_with, consumes_of, draws_from, draws_on, new_drawn_set}
use Rattle.api_slice.specs.Counters.{alone_at, counter_name, counter_sets_at, counters_at, counters_most, counters_with, has_set, new_set_name, sets_from}
use Rattle.api_slice.specs.Drivers.{IsDriver}
use Rattle.api_slice.specs.Limits.{IsAmount, IsCounterSet, IsDraw, IsLabel}
use Rattle.api_slice.specs.Properties.{IsValue}
use Rattle.api_slice.specs.Lists.{count_at, count_on, members_length, members_or_none}
use Rattle.api_slice.specs.declared.types.Attribute.{Attribute}
use Rattle.api_slice.specs.declared.types.Attribute.TheVariants as attribute
use Rattle.api_slice.specs.declared.types.CounterConsumption.{CounterConsumption}
use Rattle.api_slice.specs.declared.types.CounterSet.{CounterSet}
use Rattle.api_slice.proofs.Readings.{gave, the_same, not_refused, kept, was_some, at_most, along, given, taken, full_name, IsTable, no_entries, one_more, within, not_false, not_below, labelled, none_named, push_different}

-- ---- values of attributes

pub short_text : (path : List Step) (name : List ℕ) (d : Data) (text : List ℕ) → short_text_at path name d ≡ Ok text → length (chars text) ≤ chars_most
short_text path name d text h =
    let g = gave (text_at path name d) (λ s. unless (field_error path name TooLong) (is_long s) s) text h in
    let b : is_long g.value ≡ false = not_refused (field_error path name TooLong) (is_long g.value) g.value text g.second in
    let e : g.value ≡ text = kept (field_error path name TooLong) (is_long g.value) g.value text g.second in
    along (λ s. length (chars s) ≤ chars_most) g.value text e (at_most chars_most (length (chars g.value)) b)

pub record IsVersion (text : List ℕ) : Type 0 where
  pub size : length (chars text) ≤ chars_most
  pub form : is_version text ≡ true

pub short_version : (path : List Step) (name : List ℕ) (d : Data) (text : List ℕ) → version_at path name d ≡ Ok text → IsVersion text
short_version path name d text h =
    let g = gave (short_text_at path name d) (λ s. version_text path s >>= λ nothing. Ok s) text h in
    let k = gave (version_text path g.value) (λ nothing. Ok g.value) text g.second in
    let e : g.value ≡ text = the_same g.value text k.second in
    let bad = not_refused (field_error path (codes "version") BadVersion) (not (is_version g.value)) tt k.value k.first in
    along IsVersion g.value text e (record { size = short_text path name d g.value g.first; form = not_false (is_version g.value) bad })

pub short_one : (n : Option ℤ) (b : Option Bool) (text version : Option (List ℕ)) (a : Attribute) → one_value n b text version ≡ Some a →
    ((t : List ℕ) → text ≡ Some t → length (chars t) ≤ chars_most) → ((t : List ℕ) → version ≡ Some t → IsVersion t) → IsValue a
short_one (Some n) None None None a h p q =
    let e : attribute.Int n ≡ a = cc in along IsValue (attribute.Int n) a e (record { size = omega arith; version = refl })
short_one None (Some b) None None a h p q =
    let e : attribute.Bool b ≡ a = cc in along IsValue (attribute.Bool b) a e (record { size = omega arith; version = refl })
short_one None None (Some t) None a h p q =
    let e : attribute.Text t ≡ a = cc in along IsValue (attribute.Text t) a e (record { size = p t refl; version = refl })
short_one None None None (Some t) a h p q =
    let e : attribute.Version t ≡ a = cc in let v = q t refl in along IsValue (attribute.Version t) a e (record { size = v.size; version = v.form })
short_one None None None None a h p q = absurd (let no_value : ⊥ = cc in no_value)
short_one (Some n) (Some b) text version a h p q = absurd (let no_value : ⊥ = cc in no_value)
short_one (Some n) None (Some t) version a h p q = absurd (let no_value : ⊥ = cc in no_value)
short_one (Some n) None None (Some t) a h p q = absurd (let no_value : ⊥ = cc in no_value)
short_one None (Some b) (Some t) version a h p q = absurd (let no_value : ⊥ = cc in no_value)
short_one None (Some b) None (Some t) a h p q = absurd (let no_value : ⊥ = cc in no_value)
short_one None None (Some t) (Some u) a h p q = absurd (let no_value : ⊥ = cc in no_value)

pub short_value : (path : List Step) (value : Data) (a : Attribute) → attribute_of path value ≡ Ok a → IsValue a
short_value path value a h =
    let g = gave (object_value path value) (λ d.
    optional_at signed_at path (codes "int") d >>= λ n.
    optional_at truth_at path (codes "bool") d >>= λ b.
    optional_at short_text_at path (codes "string") d >>= λ text.
    optional_at version_at path (codes "version") d >>= λ version.
    some_or (error_at path NotOne) (one_value n b text version)) a h in
    let n = gave (optional_at signed_at path (codes "int") g.value) (λ n.
    optional_at truth_at path (codes "bool") g.value >>= λ b.
    optional_at short_text_at path (codes "string") g.value >>= λ text.
    optional_at version_at path (codes "version") g.value >>= λ version.
    some_or (error_at path NotOne) (one_value n b text version)) a g.second in
    let b = gave (optional_at truth_at path (codes "bool") g.value) (λ b.
    optional_at short_text_at path (codes "string") g.value >>= λ text.
    optional_at version_at path (codes "version") g.value >>= λ version.
    some_or (error_at path NotOne) (one_value n.value b text version)) a n.second in
    let t = gave (optional_at short_text_at path (codes "string") g.value) (λ text.
    optional_at version_at path (codes "version") g.value >>= λ version.
    some_or (error_at path NotOne) (one_value n.value b.value text version)) a b.second in
    let v = gave (optional_at version_at path (codes "version") g.value) (λ version.
    some_or (error_at path NotOne) (one_value n.value b.value t.value version)) a t.second in
    let one : one_value n.value b.value t.value v.value ≡ Some a = was_some (error_at path NotOne) (one_value n.value b.value t.value v.value) a v.second in
    short_one n.value b.value t.value v.value a one
    (given (λ s. length (chars s) ≤ chars_most) (member_of (codes "string") g.value) (short_text_at path (codes "string") g.value) t.value t.first (short_text path (codes "string") g.value))
    (given IsVersion (member_of (codes "version") g.value) (version_at path (codes "version") g.value) v.value v.first (short_version path (codes "version") g.value))

-- ---- attributes and capacities of a device

pub attributes_table : (driver : List ℕ) (path : List Step) (most : ℕ) (before : List (QualName × Attribute)) (ms : Members) (out : List (QualName × Attribute)) → IsDriver driver → IsTable IsFullName IsValue most before →
    attributes_with driver path before ms ≡ Ok out → IsTable IsFullName IsValue (most + members_length ms) out
attributes_table driver path most before no_members out d t h =
    let e : before ≡ out = the_same before out h in
    let more : IsTable IsFullName IsValue (most + 0) before = record { keys = t.keys; values = t.values; size = omega (arith, t.size) } in
    along (IsTable IsFullName IsValue (most + 0)) before out e more
attributes_table driver path most before (member key value ms) out d t h =
    let n = gave (new_name (path ++ step.Key key ∷ []) driver before key) (λ name.
    attribute_of (path ++ step.Key key ∷ []) value >>= λ x.
    attributes_with driver path (insert_entry qual_cmp before name x) ms) out h in
    let v = gave (attribute_of (path ++ step.Key key ∷ []) value) (λ x.
    attributes_with driver path (insert_entry qual_cmp before n.value x) ms) out n.second in
    let full = full_name (path ++ step.Key key ∷ []) driver key before n.value d n.first in
    let short = short_value (path ++ step.Key key ∷ []) value v.value v.first in
    let r = attributes_table driver path (most + 1) (insert_entry qual_cmp before n.value v.value) ms out d (one_more qual_cmp IsFullName IsValue most before n.value v.value t full short) v.second in
    record { keys = r.keys; values = r.values; size = omega (arith, r.size) }

abbrev pub IsAnyAmount : ℤ → Type 0
IsAnyAmount n = Unit {0}

pub capacity_table : (driver : List ℕ) (path : List Step) (most : ℕ) (before : List (QualName × ℤ)) (ms : Members) (out : List (QualName × ℤ)) → IsDriver driver → IsTable IsFullName IsAnyAmount most before →
    capacity_with driver path before ms ≡ Ok out → IsTable IsFullName IsAnyAmount (most + members_length ms) out
capacity_table driver path most before no_members out d t h =
    let e : before ≡ out = the_same before out h in
    let more : IsTable IsFullName IsAnyAmount (most + 0) before = record { keys = t.keys; values = t.values; size = omega (arith, t.size) } in
    along (IsTable IsFullName IsAnyAmount (most + 0)) before out e more
capacity_table driver path most before (member key value ms) out d t h =
    let n = gave (new_name (path ++ step.Key key ∷ []) driver before key) (λ name.
    value_without_policy (path ++ step.Key key ∷ []) value >>= λ x.
    capacity_with driver path (insert_entry qual_cmp before name x) ms) out h in
    let v = gave (value_without_policy (path ++ step.Key key ∷ []) value) (λ x.
    capacity_with driver path (insert_entry qual_cmp before n.value x) ms) out n.second in
    let full = full_name (path ++ step.Key key ∷ []) driver key before n.value d n.first in
    let r = capacity_table driver path (most + 1) (insert_entry qual_cmp before n.value v.value) ms out d (one_more qual_cmp IsFullName IsAnyAmount most before n.value v.value t full tt) v.second in
    record { keys = r.keys; values = r.values; size = omega (arith, r.size) }

-- the members of an object that may be missing are those that are counted
pub counted_in : (e g : FieldError) (m : Option Data) (o : Option Members) → if_there m (some_or g m >>= λ v. some_or e (as_object v)) ≡ Ok o → option_and_then as_object m ≡ o
counted_in e g None o h = the_same None o h
counted_in e g (Some v) o h =
    let k = gave (some_or e (as_object v)) (λ x. Ok (Some x)) o h in
    was_some e (as_object v) k.value k.first ∙ the_same (Some k.value) o k.second

pub counted : (path : List Step) (name : List ℕ) (d : Data) (o : Option Members) → optional_at table_at path name d ≡ Ok o → count_at name d ≡ members_length (members_or_none o)
counted path name d o h =
    ap (λ x. members_length (members_or_none x)) (counted_in (field_error path name WrongType) (field_error path name Missing) (member_of name d) o h)

pub attributes_in_table : (driver : List ℕ) (path : List Step) (o : Option Members) (out : List (QualName × Attribute)) → IsDriver driver → attributes_in driver path o ≡ Ok out → IsTable IsFullName IsValue (members_length (members_or_none o)) out
attributes_in_table driver path None out d h = along (IsTable IsFullName IsValue 0) [] out (the_same [] out h) (no_entries IsFullName IsValue 0)
attributes_in_table driver path (Some ms) out d h =
    let t = attributes_table driver path 0 [] ms out d (no_entries IsFullName IsValue 0) h in
    record { keys = t.keys; values = t.values; size = omega (arith, t.size) }

pub capacity_in_table : (driver : List ℕ) (path : List Step) (o : Option Members) (out : List (QualName × ℤ)) → IsDriver driver → capacity_in driver path o ≡ Ok out → IsTable IsFullName IsAnyAmount (members_length (members_or_none o)) out
capacity_in_table driver path None out d h = along (IsTable IsFullName IsAnyAmount 0) [] out (the_same [] out h) (no_entries IsFullName IsAnyAmount 0)
capacity_in_table driver path (Some ms) out d h =
    let t = capacity_table driver path 0 [] ms out d (no_entries IsFullName IsAnyAmount 0) h in
    record { keys = t.keys; values = t.values; size = omega (arith, t.size) }

-- ---- counters

abbrev pub IsAnyName : List ℕ → Type 0
IsAnyName name = Unit {0}

pub an_amount : (path : List Step) (d : Data) (n : ℤ) → amounts.amount_of path d ≡ Ok n → IsAmount n
an_amount path d n h =
    let g = gave (object_value path d >>= amounts.quantity_at path (codes "value")) (amounts.not_negative (path ++ step.Member (codes "value") ∷ [])) n h in
    not_below (path ++ step.Member (codes "value") ∷ []) g.value n g.second

pub is_counter_name : (path : List Step) (key name : List ℕ) → counter_name path key ≡ Ok name → IsLabel name
unfolding counter_name
is_counter_name path key name h =
    let l = taken path label_most (is_dns_label key) key name h in
    along IsLabel key name l.same l.form

pub counters_table : (path : List Step) (most : ℕ) (before : List (List ℕ × ℤ)) (ms : Members) (out : List (List ℕ × ℤ)) → IsTable IsLabel IsAmount most before → counters_with path before ms ≡ Ok out → IsTable IsLabel IsAmount (most + members_length ms) out
counters_table path most before no_members out t h =
    along (IsTable IsLabel IsAmount (most + 0)) before out (the_same before out h) (within IsLabel IsAmount most (most + 0) before (omega arith) t)
counters_table path most before (member key value ms) out t h =
    let n = gave (counter_name (path ++ step.Key key ∷ []) key) (λ name.
    amounts.amount_of (path ++ step.Key key ∷ []) value >>= λ amount.
    counters_with path (insert_entry (slice_cmp nat_cmp) before name amount) ms) out h in
    let v = gave (amounts.amount_of (path ++ step.Key key ∷ []) value) (λ amount.
    counters_with path (insert_entry (slice_cmp nat_cmp) before n.value amount) ms) out n.second in
    let label : IsLabel n.value = is_counter_name (path ++ step.Key key ∷ []) key n.value n.first in
    let r = counters_table path (most + 1) (insert_entry (slice_cmp nat_cmp) before n.value v.value) ms out (one_more (slice_cmp nat_cmp) IsLabel IsAmount most before n.value v.value t label (an_amount (path ++ step.Key key ∷ []) value v.value v.first)) v.second in
    record { keys = r.keys; values = r.values; size = omega (arith, r.size) }

-- how many there are so far, and that they are within the limit
pub counted_on : (path : List Step) (most met : ℕ) (ms : Members) (n : ℕ) → count_on path most met ms ≡ Ok n → (met + members_length ms ≡ n) × (n ≤ most)
counted_on path most met ms n h =
    let b = not_refused (error_at path TooMany) (nat_lt most (met + members_length ms)) (met + members_length ms) n h in
    let e : met + members_length ms ≡ n = kept (error_at path TooMany) (nat_lt most (met + members_length ms)) (met + members_length ms) n h in
    (e, along (λ x. x ≤ most) (met + members_length ms) n e (at_most most (met + members_length ms) b))

pub record CountersOf (met : ℕ) (c : List (List ℕ × ℤ) × ℕ) : Type 0 where
  pub keys : All IsLabel (keys_of c.0)
  pub values : All IsAmount (values_of c.0)
  pub size : met + length c.0 ≤ c.1
  pub few : c.1 ≤ counters_most

pub counters_of : (list path : List Step) (met : ℕ) (d : Data) (c : List (List ℕ × ℤ) × ℕ) → counters_at list path met d ≡ Ok c → CountersOf met c
counters_of list path met d c h =
    let m = gave (table_at path (codes "counters") d) (λ ms.
    count_on list counters_most met ms >>= λ more.
    counters_with (path ++ step.Member (codes "counters") ∷ []) [] ms >>= λ counters.
    Ok (counters, more)) c h in
    let n = gave (count_on list counters_most met m.value) (λ more.
    counters_with (path ++ step.Member (codes "counters") ∷ []) [] m.value >>= λ counters.
    Ok (counters, more)) c m.second in
    let t = gave (counters_with (path ++ step.Member (codes "counters") ∷ []) [] m.value) (λ counters. Ok (counters, n.value)) c n.second in
    let k = counted_on list counters_most met m.value n.value n.first in
    let u = counters_table (path ++ step.Member (codes "counters") ∷ []) 0 [] m.value t.value (no_entries IsLabel IsAmount 0) t.first in
    along (CountersOf met) (t.value, n.value) c (the_same (t.value, n.value) c t.second)
    (record { keys = u.keys; values = u.values; size = omega (arith, u.size, k.0); few = k.1 })

-- sets read so far, with that many counters
pub record SetsMet (met : ℕ) (sets : List CounterSet) : Type 0 where
  pub all : All IsCounterSet sets
  pub different : AreDifferent (map (λ (c : CounterSet). c.name) sets)
  pub total : sum_by (λ (c : CounterSet). length c.counters) sets ≤ met
  pub few : met ≤ counters_most

pub record AreSets (sets : List CounterSet) : Type 0 where
  pub met : ℕ
  pub all : All IsCounterSet sets
  pub different : AreDifferent (map (λ (c : CounterSet). c.name) sets)
  pub total : sum_by (λ (c : CounterSet). length c.counters) sets ≤ met
  pub few : met ≤ counters_most

pub new_set : (path : List Step) (before : List CounterSet) (value : Data) (name : List ℕ) → new_set_name path before value ≡ Ok name → IsLabel name × All (λ other. other ≢ name) (map (λ (c : CounterSet). c.name) before)
new_set path before value name h =
    let g = gave (object_value path value >>= dns_label_at path (codes "name")) (λ text. unless (field_error path (codes "name") Doubled) (has_set text before) text) name h in
    let o = gave (object_value path value) (dns_label_at path (codes "name")) g.value g.first in
    let e : g.value ≡ name = kept (field_error path (codes "name") Doubled) (has_set g.value before) g.value name g.second in
    let b : has_set g.value before ≡ false = not_refused (field_error path (codes "name") Doubled) (has_set g.value before) g.value name g.second in
    let l : IsLabel g.value = labelled path (codes "name") o.value g.value o.second in
    (along IsLabel g.value name e l, along (λ n. All (λ other. other ≢ n) (map (λ (c : CounterSet). c.name) before)) g.value name e (none_named (λ (c : CounterSet). c.name) g.value before b))

pub sets_keep : (path : List Step) (place met : ℕ) (before : List CounterSet) (ds : Items) (out : List CounterSet) → SetsMet met before → sets_from path place met before ds ≡ Ok out → AreSets out
sets_keep path place met before no_items out t h =
    along AreSets before out (the_same before out h) (record { met = met; all = t.all; different = t.different; total = t.total; few = t.few })
sets_keep path place met before (item d ds) out t h =
    let n = gave (new_set_name (path ++ step.Place place ∷ []) before d) (λ name.
    counters_at path (path ++ step.Place place ∷ []) met d >>= λ counters.
    sets_from path (place + 1) counters.1 (before ++ record { name = name; counters = counters.0 } ∷ []) ds) out h in
    let c = gave (counters_at path (path ++ step.Place place ∷ []) met d) (λ counters.
    sets_from path (place + 1) counters.1 (before ++ record { name = n.value; counters = counters.0 } ∷ []) ds) out n.second in
    let k = new_set (path ++ step.Place place ∷ []) before d n.value n.first in
    let u = counters_of path (path ++ step.Place place ∷ []) met d c.value c.first in
    let set : CounterSet = record { name = n.value; counters = c.value.0 } in
    let fine : IsCounterSet set = record { name = k.0; counters = u.keys; amounts = u.values } in
    let names = push_different (map (λ (x : CounterSet). x.name) before) n.value t.different k.1 in
    let s = sum_by-append (λ (x : CounterSet). length x.counters) before (set ∷ []) in
    let one : SetsMet c.value.1 (before ++ set ∷ []) = record {
      all = All-append IsCounterSet before (set ∷ []) t.all (All-cons IsCounterSet set [] fine (All-nil IsCounterSet));
      different = along AreDifferent (map (λ (x : CounterSet). x.name) before ++ n.value ∷ []) (map (λ (x : CounterSet). x.name) (before ++ set ∷ [])) (sym (map-append (λ (x : CounterSet). x.name) before (set ∷ []))) names;
      total = omega (arith, s, u.size, t.total);
      few = u.few;
    } in
    sets_keep path (place + 1) c.value.1 (before ++ set ∷ []) ds out one c.second

pub counters_keep : (path : List Step) (spec : Data) (out : List CounterSet) → counter_sets_at path spec ≡ Ok out → AreSets out
counters_keep path spec out h =
    let g = gave (optional_at list_at path (codes "sharedCounters") spec) (λ items.
    alone_at path spec (items_or_none items) >>= λ nothing.
    sets_from (path ++ step.Member (codes "sharedCounters") ∷ []) 0 0 [] (items_or_none items)) out h in
    let a = gave (alone_at path spec (items_or_none g.value)) (λ nothing.
    sets_from (path ++ step.Member (codes "sharedCounters") ∷ []) 0 0 [] (items_or_none g.value)) out g.second in
    sets_keep (path ++ step.Member (codes "sharedCounters") ∷ []) 0 0 [] (items_or_none g.value) out
    (record { all = All-nil IsCounterSet; different = tt; total = omega arith; few = omega arith }) a.second

-- ---- what a device draws

pub amounts_table : (path : List Step) (most : ℕ) (before : List (List ℕ × ℤ)) (ms : Members) (out : List (List ℕ × ℤ)) → IsTable IsAnyName IsAmount most before → amounts_with path before ms ≡ Ok out → IsTable IsAnyName IsAmount (most + members_length ms) out
amounts_table path most before no_members out t h =
    along (IsTable IsAnyName IsAmount (most + 0)) before out (the_same before out h) (within IsAnyName IsAmount most (most + 0) before (omega arith) t)
amounts_table path most before (member key value ms) out t h =
    let v = gave (amounts.amount_of (path ++ step.Key key ∷ []) value) (λ amount.
    amounts_with path (insert_entry (slice_cmp nat_cmp) before key amount) ms) out h in
    let r = amounts_table path (most + 1) (insert_entry (slice_cmp nat_cmp) before key v.value) ms out (one_more (slice_cmp nat_cmp) IsAnyName IsAmount most before key v.value t tt (an_amount (path ++ step.Key key ∷ []) value v.value v.first)) v.second in
    record { keys = r.keys; values = r.values; size = omega (arith, r.size) }

pub record AmountsOf (met : ℕ) (c : List (List ℕ × ℤ) × ℕ) : Type 0 where
  pub values : All IsAmount (values_of c.0)
  pub size : met + length c.0 ≤ c.1
  pub few : c.1 ≤ amounts_most

pub amounts_in : (list path : List Step) (met : ℕ) (d : Data) (c : List (List ℕ × ℤ) × ℕ) → amounts_at list path met d ≡ Ok c → AmountsOf met c
amounts_in list path met d c h =
    let m = gave (table_at path (codes "counters") d) (λ ms.
    count_on list amounts_most met ms >>= λ more.
    amounts_with (path ++ step.Member (codes "counters") ∷ []) [] ms >>= λ amounts.
    Ok (amounts, more)) c h in
    let n = gave (count_on list amounts_most met m.value) (λ more.
    amounts_with (path ++ step.Member (codes "counters") ∷ []) [] m.value >>= λ amounts.
    Ok (amounts, more)) c m.second in
    let t = gave (amounts_with (path ++ step.Member (codes "counters") ∷ []) [] m.value) (λ amounts. Ok (amounts, n.value)) c n.second in
    let k = counted_on list amounts_most met m.value n.value n.first in
    let u = amounts_table (path ++ step.Member (codes "counters") ∷ []) 0 [] m.value t.value (no_entries IsAnyName IsAmount 0) t.first in
    along (AmountsOf met) (t.value, n.value) c (the_same (t.value, n.value) c t.second)
    (record { values = u.values; size = omega (arith, u.size, k.0); few = k.1 })

-- the name of a set from which nothing before draws
pub a_drawn_set : (path : List Step) (before : List CounterConsumption) (value : Data) (name : List ℕ) → new_drawn_set path before value ≡ Ok name → All (λ other. other ≢ name) (map (λ (c : CounterConsumption). c.set) before)
a_drawn_set path before value name h =
    let g = gave (object_value path value >>= text_at path (codes "counterSet")) (λ text. unless (field_error path (codes "counterSet") Doubled) (draws_on text before) text) name h in
    let e : g.value ≡ name = kept (field_error path (codes "counterSet") Doubled) (draws_on g.value before) g.value name g.second in
    let b : draws_on g.value before ≡ false = not_refused (field_error path (codes "counterSet") Doubled) (draws_on g.value before) g.value name g.second in
    along (λ n. All (λ other. other ≢ n) (map (λ (c : CounterConsumption). c.set) before)) g.value name e (none_named (λ (c : CounterConsumption). c.set) g.value before b)

-- draws read so far, with that many amounts
pub record DrawsMet (met : ℕ) (draws : List CounterConsumption) : Type 0 where
  pub different : AreDifferent (map (λ (c : CounterConsumption). c.set) draws)
  pub all : All IsDraw draws
  pub total : sum_by (λ (c : CounterConsumption). length c.amounts) draws ≤ met
  pub few : met ≤ amounts_most

pub record AreDraws (draws : List CounterConsumption) : Type 0 where
  pub met : ℕ
  pub different : AreDifferent (map (λ (c : CounterConsumption). c.set) draws)
  pub all : All IsDraw draws
  pub total : sum_by (λ (c : CounterConsumption). length c.amounts) draws ≤ met
  pub few : met ≤ amounts_most

pub draws_keep : (path : List Step) (place met : ℕ) (before : List CounterConsumption) (ds : Items) (out : List CounterConsumption) → DrawsMet met before → draws_from path place met before ds ≡ Ok out → AreDraws out
draws_keep path place met before no_items out t h =
    along AreDraws before out (the_same before out h) (record { met = met; all = t.all; different = t.different; total = t.total; few = t.few })
draws_keep path place met before (item d ds) out t h =
    let n = gave (new_drawn_set (path ++ step.Place place ∷ []) before d) (λ set.
    amounts_at path (path ++ step.Place place ∷ []) met d >>= λ amounts.
    draws_from path (place + 1) amounts.1 (before ++ record { set = set; amounts = amounts.0 } ∷ []) ds) out h in
    let c = gave (amounts_at path (path ++ step.Place place ∷ []) met d) (λ amounts.
    draws_from path (place + 1) amounts.1 (before ++ record { set = n.value; amounts = amounts.0 } ∷ []) ds) out n.second in
    let others = a_drawn_set (path ++ step.Place place ∷ []) before d n.value n.first in
    let u = amounts_in path (path ++ step.Place place ∷ []) met d c.value c.first in
    let draw : CounterConsumption = record { set = n.value; amounts = c.value.0 } in
    let fine : IsDraw draw = record { amounts = u.values } in
    let once = push_different (map (λ (x : CounterConsumption). x.set) before) n.value t.different others in
    let s = sum_by-append (λ (x : CounterConsumption). length x.amounts) before (draw ∷ []) in
    let one : DrawsMet c.value.1 (before ++ draw ∷ []) = record {
      all = All-append IsDraw before (draw ∷ []) t.all (All-cons IsDraw draw [] fine (All-nil IsDraw));
      different = along AreDifferent (map (λ (x : CounterConsumption). x.set) before ++ n.value ∷ []) (map (λ (x : CounterConsumption). x.set) (before ++ draw ∷ [])) (sym (map-append (λ (x : CounterConsumption). x.set) before (draw ∷ []))) once;
      total = omega (arith, s, u.size, t.total);
      few = u.few;
    } in
    draws_keep path (place + 1) c.value.1 (before ++ draw ∷ []) ds out one c.second

pub all_drawn : (path : List Step) (d : Data) (out : List CounterConsumption) → consumes_of path d ≡ Ok out → AreDraws out
all_drawn path d out h =
    let g = gave (optional_at list_at path (codes "consumesCounters") d) (λ items.
    draws_from (path ++ step.Member (codes "consumesCounters") ∷ []) 0 0 [] (items_or_none items)) out h in
    draws_keep (path ++ step.Member (codes "consumesCounters") ∷ []) 0 0 [] (items_or_none g.value) out
    (record { all = All-nil IsDraw; different = tt; total = omega arith; few = omega arith }) g.second
