-- Why each slice that is read keeps the limits: its devices, and then the whole.
use Rattle.std.proofs.Common.{◌≡◌, ℕ, ◌+◌, ◌≤◌, nat_lt, ◌≢◌, ℤ, map, Bool, true, false, not, ◌&&◌, ◌||◌, List, [], ◌∷◌, ◌++◌, length, Option, Some, None, Result, Ok, option_and_then, refl, sym, append_assoc, length-append, ◌∙◌, arith, codes}
use Rattle.std.proofs.lemmas.List.{append-nil}
use Rattle.std.proofs.lemmas.List.Elements.{All-nil, All-cons, All-head, All-tail, All-append}
use Rattle.std.specs.List.{All}
use Rattle.serde_json.specs.Data.{Data, null, boolean, number, string, array, object, Items, no_items, item}
use Rattle.serde_json.specs.Find.{as_array}
use Rattle.object_fields.specs.Fields.{dns_label_at, field_error, has_no_items, items_length, list_at, member_of, name_in, natural_at, object_at, pool_name_at, object_value, optional_at, short_list_at, table_at, text_at, unless, ◌>>=◌}
use Rattle.object_fields.specs.Limits.{MetaKept, VersionKept}
use Rattle.object_fields.specs.Lists.{alone, each, each_beside, each_from, items_or_none}
use Rattle.object_fields.specs.Meta.{meta_at, name_most}
use Rattle.object_fields.specs.Names.{is_dns_name, is_pool_name, pool_most}
use Rattle.object_fields.specs.NewNames.{AreDifferent, is_among}
use Rattle.object_fields.specs.declared.error.FieldError.{FieldError}
use Rattle.object_fields.specs.declared.kind.FieldErrorKind.TheVariants.{Doubled, NotOne, TooMany}
use Rattle.object_fields.specs.declared.meta.ObjectMeta.{ObjectMeta}
use Rattle.object_fields.specs.declared.meta.Scope.{Scope}
use Rattle.object_fields.specs.declared.meta.Scope.TheVariants.{Cluster}
use Rattle.object_fields.specs.declared.path.Step.{Step}
use Rattle.object_fields.specs.declared.path.Step.TheVariants as step
use Rattle.object_fields.specs.declared.qualified.QualName.{QualName}
use Rattle.device_taints.specs.Limits.{TaintsKept}
use Rattle.device_taints.specs.Reading.{taints_at}
use Rattle.device_taints.specs.declared.types.Taint.{Taint}
use Rattle.api_slice.specs.Attributes.{attributes_in, attributes_of}
use Rattle.api_slice.specs.Capacity.{capacity_in, capacity_of, together_at, together_most}
use Rattle.api_slice.specs.Consumption.{consumes_of}
use Rattle.api_slice.specs.Counters.{alone_at, counter_sets_at, sets_from}
use Rattle.api_slice.specs.Devices.{columns_of, devices_at, devices_most, devices_of, devices_with, new_device_name, nothing_more_from, rows_of}
use Rattle.api_slice.specs.Drivers.{IsDriver, driver_most}
use Rattle.api_slice.specs.Limits.{IsLabel, IsPool, IsWithinLimits, KeepsLimits}
use Rattle.api_slice.specs.Properties.{ArePaired, AreProperties}
use Rattle.api_slice.specs.Lists.{count_at}
use Rattle.api_slice.specs.Lists.{is_empty_or_none}
use Rattle.api_slice.specs.Nodes.{device_nodes_of, is_empty, is_per_device, slice_nodes_at}
use Rattle.api_slice.specs.Slices.{driver_at, pool_at, pool_in, signed_most, slice_of, spec_in}
use Rattle.api_slice.specs.declared.device.Columns.{Columns}
use Rattle.api_slice.specs.declared.types.Attribute.{Attribute}
use Rattle.api_slice.specs.declared.types.CounterConsumption.{CounterConsumption}
use Rattle.api_slice.specs.declared.types.CounterSet.{CounterSet}
use Rattle.api_slice.specs.declared.types.Device.{Device}
use Rattle.api_slice.specs.declared.types.Nodes.{Nodes}
use Rattle.api_slice.specs.declared.types.Pool.{Pool}
use Rattle.api_slice.specs.declared.types.ResourceSlice.{ResourceSlice}
use Rattle.api_slice.proofs.Readings.{gave, the_same, not_refused, not_false, kept, at_most, along, taken, named_by, labelled, numbered, few_items, items_are, none_is, push_different}
use Rattle.api_slice.proofs.Parts.{counted, attributes_in_table, capacity_in_table, counters_keep, all_drawn}
use Rattle.api_slice.proofs.Placement.{nodes_due, slice_nodes}
use Rattle.api_slice.proofs.Rows.{Column, column, columns_read, spec_read}

-- ---- a device

are_properties : (driver : List ℕ) (path : List Step) (d : Data) (attributes : List (QualName × Attribute)) (capacity : List (QualName × ℤ)) → IsDriver driver → attributes_of driver path d ≡ Ok attributes → capacity_of driver path d ≡ Ok capacity → AreProperties (record { attributes = attributes; capacity = capacity })
are_properties driver path d attributes capacity is a c =
    let g = gave (optional_at table_at path (codes "attributes") d) (attributes_in driver (path ++ step.Member (codes "attributes") ∷ [])) attributes a in
    let t = attributes_in_table driver (path ++ step.Member (codes "attributes") ∷ []) g.value attributes is g.second in
    let k = gave (optional_at table_at path (codes "capacity") d) (λ ms. together_at path d >>= λ nothing. capacity_in driver (path ++ step.Member (codes "capacity") ∷ []) ms) capacity c in
    let w = gave (together_at path d) (λ nothing. capacity_in driver (path ++ step.Member (codes "capacity") ∷ []) k.value) capacity k.second in
    let u = capacity_in_table driver (path ++ step.Member (codes "capacity") ∷ []) k.value capacity is w.second in
    let few = not_refused (field_error path (codes "capacity") TooMany) (nat_lt together_most (count_at (codes "attributes") d + count_at (codes "capacity") d)) tt w.value w.first in
    let most = at_most together_most (count_at (codes "attributes") d + count_at (codes "capacity") d) few in
    let these = counted path (codes "attributes") d g.value g.first in
    let those = counted path (codes "capacity") d k.value k.first in
    record {
      attribute_names = t.keys;
      attribute_values = t.values;
      capacity_names = u.keys;
      together = omega (arith, most, these, those, t.size, u.size);
    }

-- taints keep their limits
abbrev pub TaintsLaw : Type 0
TaintsLaw = (path : List Step) (d : Data) (taints : List Taint) → taints_at path d ≡ Ok taints → TaintsKept taints

record DeviceRead (driver : List ℕ) (per_device : Bool) (path : List Step) (d : Data) (x : Device) : Type 0 where
  attributes : attributes_of driver path d ≡ Ok x.properties.attributes
  capacity : capacity_of driver path d ≡ Ok x.properties.capacity
  consumes : consumes_of path d ≡ Ok x.consumes
  nodes : device_nodes_of per_device path d ≡ Ok x.nodes
  taints : taints_at path d ≡ Ok x.taints

device_keeps : TaintsLaw → (driver : List ℕ) (per_device : Bool) (path : List Step) (d : Data) (x : Device) → IsDriver driver → DeviceRead driver per_device path d x → KeepsLimits per_device x
device_keeps law driver per_device path d x is r =
    let drawn = all_drawn path d x.consumes r.consumes in
    record {
      properties = are_properties driver path d x.properties.attributes x.properties.capacity is r.attributes r.capacity;
      draws = drawn.all;
      draws_once = drawn.different;
      drawn = omega (arith, drawn.total, drawn.few);
      nodes = nodes_due per_device path d x.nodes r.nodes;
      taints = law path d x.taints r.taints;
    }

-- ---- all devices

devices_keep : TaintsLaw → (driver : List ℕ) (per_device : Bool) (path : List Step) (place : ℕ) (ds : Items) (names : List (List ℕ)) (attributes : List (List (QualName × Attribute))) (capacity : List (List (QualName × ℤ))) (consumes : List (List CounterConsumption)) (nodes : List (Option Nodes)) (taints : List (List Taint)) →
    IsDriver driver → Column (attributes_of driver) path place attributes ds → Column (capacity_of driver) path place capacity ds → Column consumes_of path place consumes ds → Column (device_nodes_of per_device) path place nodes ds → Column taints_at path place taints ds → All (KeepsLimits per_device) (devices_with names attributes capacity consumes nodes taints)
devices_keep law driver per_device path place ds [] attributes capacity consumes nodes taints is a c q w t = All-nil (KeepsLimits per_device)
devices_keep law driver per_device path place ds (n ∷ ns) [] capacity consumes nodes taints is a c q w t = All-nil (KeepsLimits per_device)
devices_keep law driver per_device path place ds (n ∷ ns) (x ∷ xs) [] consumes nodes taints is a c q w t = All-nil (KeepsLimits per_device)
devices_keep law driver per_device path place ds (n ∷ ns) (x ∷ xs) (y ∷ ys) [] nodes taints is a c q w t = All-nil (KeepsLimits per_device)
devices_keep law driver per_device path place ds (n ∷ ns) (x ∷ xs) (y ∷ ys) (k ∷ ks) [] taints is a c q w t = All-nil (KeepsLimits per_device)
devices_keep law driver per_device path place ds (n ∷ ns) (x ∷ xs) (y ∷ ys) (k ∷ ks) (o ∷ os) [] is a c q w t = All-nil (KeepsLimits per_device)
devices_keep law driver per_device path place no_items (n ∷ ns) (x ∷ xs) (y ∷ ys) (k ∷ ks) (o ∷ os) (z ∷ zs) is a c q w t = absurd a
devices_keep law driver per_device path place (item d ds) (n ∷ ns) (x ∷ xs) (y ∷ ys) (k ∷ ks) (o ∷ os) (z ∷ zs) is a c q w t =
    let one : Device = record { name = n; properties = record { attributes = x; capacity = y }; consumes = k; nodes = o; taints = z } in
    All-cons (KeepsLimits per_device) one (devices_with ns xs ys ks os zs)
    (device_keeps law driver per_device (path ++ step.Place place ∷ []) d one is (record { attributes = a.0; capacity = c.0; consumes = q.0; nodes = w.0; taints = t.0 }))
    (devices_keep law driver per_device path (place + 1) ds ns xs ys ks os zs is a.1 c.1 q.1 w.1 t.1)

pairs : (driver : List ℕ) (path : List Step) (place : ℕ) (ds : Items) (attributes : List (List (QualName × Attribute))) (capacity : List (List (QualName × ℤ))) → IsDriver driver → Column (attributes_of driver) path place attributes ds → Column (capacity_of driver) path place capacity ds → ArePaired attributes capacity
pairs driver path place ds [] capacity is a c = tt
pairs driver path place ds (x ∷ xs) [] is a c = tt
pairs driver path place no_items (x ∷ xs) (y ∷ ys) is a c = absurd a
pairs driver path place (item d ds) (x ∷ xs) (y ∷ ys) is a c = (
  are_properties driver (path ++ step.Place place ∷ []) d x y is a.0 c.0,
  pairs driver path (place + 1) ds xs ys is a.1 c.1,
)

-- ---- names of devices

with_all : (P : List ℕ → Type 0) (names : List (List ℕ)) (attributes : List (List (QualName × Attribute))) (capacity : List (List (QualName × ℤ))) (consumes : List (List CounterConsumption)) (nodes : List (Option Nodes)) (taints : List (List Taint)) → All P names → All P (map (λ d. d.name) (devices_with names attributes capacity consumes nodes taints))
with_all P [] attributes capacity consumes nodes taints h = All-nil P
with_all P (n ∷ ns) [] capacity consumes nodes taints h = All-nil P
with_all P (n ∷ ns) (a ∷ attributes) [] consumes nodes taints h = All-nil P
with_all P (n ∷ ns) (a ∷ attributes) (c ∷ capacity) [] nodes taints h = All-nil P
with_all P (n ∷ ns) (a ∷ attributes) (c ∷ capacity) (k ∷ consumes) [] taints h = All-nil P
with_all P (n ∷ ns) (a ∷ attributes) (c ∷ capacity) (k ∷ consumes) (w ∷ nodes) [] h = All-nil P
with_all P (n ∷ ns) (a ∷ attributes) (c ∷ capacity) (k ∷ consumes) (w ∷ nodes) (t ∷ taints) h =
    All-cons P n (map (λ d. d.name) (devices_with ns attributes capacity consumes nodes taints)) (All-head P n ns h) (with_all P ns attributes capacity consumes nodes taints (All-tail P n ns h))

with_different : (names : List (List ℕ)) (attributes : List (List (QualName × Attribute))) (capacity : List (List (QualName × ℤ))) (consumes : List (List CounterConsumption)) (nodes : List (Option Nodes)) (taints : List (List Taint)) → AreDifferent names → AreDifferent (map (λ d. d.name) (devices_with names attributes capacity consumes nodes taints))
with_different [] attributes capacity consumes nodes taints h = tt
with_different (n ∷ ns) [] capacity consumes nodes taints h = tt
with_different (n ∷ ns) (a ∷ attributes) [] consumes nodes taints h = tt
with_different (n ∷ ns) (a ∷ attributes) (c ∷ capacity) [] nodes taints h = tt
with_different (n ∷ ns) (a ∷ attributes) (c ∷ capacity) (k ∷ consumes) [] taints h = tt
with_different (n ∷ ns) (a ∷ attributes) (c ∷ capacity) (k ∷ consumes) (w ∷ nodes) [] h = tt
with_different (n ∷ ns) (a ∷ attributes) (c ∷ capacity) (k ∷ consumes) (w ∷ nodes) (t ∷ taints) h =
    (with_all (λ other. other ≢ n) ns attributes capacity consumes nodes taints h.0, with_different ns attributes capacity consumes nodes taints h.1)

with_length : (names : List (List ℕ)) (attributes : List (List (QualName × Attribute))) (capacity : List (List (QualName × ℤ))) (consumes : List (List CounterConsumption)) (nodes : List (Option Nodes)) (taints : List (List Taint)) → length (devices_with names attributes capacity consumes nodes taints) ≤ length names
with_length [] attributes capacity consumes nodes taints = omega arith
with_length (n ∷ ns) [] capacity consumes nodes taints = omega arith
with_length (n ∷ ns) (a ∷ attributes) [] consumes nodes taints = omega arith
with_length (n ∷ ns) (a ∷ attributes) (c ∷ capacity) [] nodes taints = omega arith
with_length (n ∷ ns) (a ∷ attributes) (c ∷ capacity) (k ∷ consumes) [] taints = omega arith
with_length (n ∷ ns) (a ∷ attributes) (c ∷ capacity) (k ∷ consumes) (w ∷ nodes) [] = omega arith
with_length (n ∷ ns) (a ∷ attributes) (c ∷ capacity) (k ∷ consumes) (w ∷ nodes) (t ∷ taints) = omega (arith, with_length ns attributes capacity consumes nodes taints)

record AreNames (most : ℕ) (names : List (List ℕ)) : Type 0 where
  labels : All IsLabel names
  different : AreDifferent names
  size : length names ≤ most

new_name_of : (path : List Step) (before : List (List ℕ)) (value : Data) (name : List ℕ) → new_device_name path before value ≡ Ok name → IsLabel name × All (λ other. other ≢ name) before
new_name_of path before value name h =
    let g = gave (object_value path value >>= dns_label_at path (codes "name")) (λ text. unless (field_error path (codes "name") Doubled) (is_among text before) text) name h in
    let o = gave (object_value path value) (dns_label_at path (codes "name")) g.value g.first in
    let e : g.value ≡ name = kept (field_error path (codes "name") Doubled) (is_among g.value before) g.value name g.second in
    let b : is_among g.value before ≡ false = not_refused (field_error path (codes "name") Doubled) (is_among g.value before) g.value name g.second in
    let l : IsLabel g.value = labelled path (codes "name") o.value g.value o.second in
    (along IsLabel g.value name e l, along (λ n. All (λ other. other ≢ n) before) g.value name e (none_is g.value before b))

names_keep : (path : List Step) (place most : ℕ) (before : List (List ℕ)) (ds : Items) (out : List (List ℕ)) → AreNames most before → each_from new_device_name path place before ds ≡ Ok out → AreNames (most + items_length ds) out
names_keep path place most before no_items out t h =
    let more : AreNames (most + 0) before = record { labels = t.labels; different = t.different; size = omega (arith, t.size) } in
    along (AreNames (most + 0)) before out (the_same before out h) more
names_keep path place most before (item d ds) out t h =
    let g = gave (new_device_name (path ++ step.Place place ∷ []) before d) (λ name. each_from new_device_name path (place + 1) (before ++ name ∷ []) ds) out h in
    let n = new_name_of (path ++ step.Place place ∷ []) before d g.value g.first in
    let one : AreNames (most + 1) (before ++ g.value ∷ []) = record {
      labels = All-append IsLabel before (g.value ∷ []) t.labels (All-cons IsLabel g.value [] n.0 (All-nil IsLabel));
      different = push_different before g.value t.different n.1;
      size = let s = length-append before (g.value ∷ []) in omega (arith, s, t.size);
    } in
    let r = names_keep path (place + 1) (most + 1) (before ++ g.value ∷ []) ds out one g.second in
    record { labels = r.labels; different = r.different; size = omega (arith, r.size) }

-- ---- all of them

record AllKeep (per_device : Bool) (most : ℕ) (devices : List Device) : Type 0 where
  count : length devices ≤ most
  labels : All IsLabel (map (λ d. d.name) devices)
  different : AreDifferent (map (λ d. d.name) devices)
  each_one : All (KeepsLimits per_device) devices

columns_keep : TaintsLaw → (driver : List ℕ) (per_device : Bool) (path : List Step) (ds : Items) (out : Columns) → IsDriver driver → columns_of driver per_device path ds ≡ Ok out → AllKeep per_device (items_length ds) (devices_of out)
columns_keep law driver per_device path ds out is h =
    let c = columns_read driver per_device path ds out h in
    let r = names_keep path 0 0 [] ds out.names (record { labels = All-nil IsLabel; different = tt; size = omega arith }) c.names in
    let s = with_length out.names out.attributes out.capacity out.consumes out.nodes out.taints in
    let attributes = column (attributes_of driver) path ds out.attributes c.attributes in
    let capacity = column (capacity_of driver) path ds out.capacity c.capacity in
    let consumes = column consumes_of path ds out.consumes c.consumes in
    let nodes = column (device_nodes_of per_device) path ds out.nodes c.nodes in
    let taints = column taints_at path ds out.taints c.taints in
    record {
      count = omega (arith, s, r.size);
      labels = with_all IsLabel out.names out.attributes out.capacity out.consumes out.nodes out.taints r.labels;
      different = with_different out.names out.attributes out.capacity out.consumes out.nodes out.taints r.different;
      each_one = devices_keep law driver per_device path 0 ds out.names out.attributes out.capacity out.consumes out.nodes out.taints is attributes capacity consumes nodes taints;
    }

-- the attributes and the capacities that were read are those of devices
pub paired : (driver : List ℕ) (per_device : Bool) (path : List Step) (ds : Items) (out : Columns) → IsDriver driver → columns_of driver per_device path ds ≡ Ok out → ArePaired out.attributes out.capacity
paired driver per_device path ds out is h =
    let c = columns_read driver per_device path ds out h in
    pairs driver path 0 ds out.attributes out.capacity is (column (attributes_of driver) path ds out.attributes c.attributes) (column (capacity_of driver) path ds out.capacity c.capacity)

rows_keep : TaintsLaw → (driver : List ℕ) (per_device : Bool) (path : List Step) (ds : Items) (out : List Device) → IsDriver driver → rows_of driver per_device path ds ≡ Ok out → AllKeep per_device (items_length ds) out
rows_keep law driver per_device path ds out is h =
    let c = gave (columns_of driver per_device path ds) (λ columns. nothing_more_from path 0 ds >>= λ nothing. Ok (devices_of columns)) out h in
    let m = gave (nothing_more_from path 0 ds) (λ nothing. Ok (devices_of c.value)) out c.second in
    along (AllKeep per_device (items_length ds)) (devices_of c.value) out (the_same (devices_of c.value) out m.second)
    (columns_keep law driver per_device path ds c.value is c.first)

all_keep : TaintsLaw → (driver : List ℕ) (per_device : Bool) (path : List Step) (spec : Data) (out : List Device) → IsDriver driver → devices_at driver per_device path spec ≡ Ok out → AllKeep per_device devices_most out
all_keep law driver per_device path spec out is h =
    let g = gave (optional_at (short_list_at devices_most) path (codes "devices") spec) (λ ds.
    rows_of driver per_device (path ++ step.Member (codes "devices") ∷ []) (items_or_none ds)) out h in
    let r = rows_keep law driver per_device (path ++ step.Member (codes "devices") ∷ []) (items_or_none g.value) out is g.second in
    let few = few_items devices_most path (codes "devices") spec g.value g.first in
    record { count = omega (arith, few, r.count); labels = r.labels; different = r.different; each_one = r.each_one }

-- ---- devices or counter sets

empty_list : (m : Option Data) → is_empty_or_none m ≡ true → items_or_none (option_and_then as_array m) ≡ no_items
empty_list None h = refl
empty_list (Some null) h = absurd (let no_value : ⊥ = cc in no_value)
empty_list (Some (boolean b)) h = absurd (let no_value : ⊥ = cc in no_value)
empty_list (Some (number n)) h = absurd (let no_value : ⊥ = cc in no_value)
empty_list (Some (string s)) h = absurd (let no_value : ⊥ = cc in no_value)
empty_list (Some (array no_items)) h = refl
empty_list (Some (array (item d ds))) h = absurd (let no_value : ⊥ = cc in no_value)
empty_list (Some (object ms)) h = absurd (let no_value : ⊥ = cc in no_value)

or_true : (b : Bool) → (b || true) ≡ true
or_true true = refl
or_true false = refl

one_empty : (driver : List ℕ) (per_device : Bool) (sets_path path : List Step) (sets : Items) (m : Option Data) (ds : Items) (counters : List CounterSet) (devices : List Device) →
    (not (has_no_items sets) && not (is_empty_or_none m)) ≡ false → ds ≡ items_or_none (option_and_then as_array m) → sets_from sets_path 0 0 [] sets ≡ Ok counters → rows_of driver per_device path ds ≡ Ok devices → (is_empty counters || is_empty devices) ≡ true
one_empty driver per_device sets_path path no_items m ds counters devices free same c d =
    along (λ cs. (is_empty cs || is_empty devices) ≡ true) [] counters (the_same [] counters c) refl
one_empty driver per_device sets_path path (item x xs) m ds counters devices free same c d =
    let none : ds ≡ no_items = same ∙ empty_list m (not_false (is_empty_or_none m) free) in
    let read : rows_of driver per_device path no_items ≡ Ok devices = along (λ i. rows_of driver per_device path i ≡ Ok devices) ds no_items none d in
    along (λ ys. (is_empty counters || is_empty ys) ≡ true) [] devices (the_same [] devices read) (or_true (is_empty counters))

one_kind : (driver : List ℕ) (per_device : Bool) (path : List Step) (spec : Data) (counters : List CounterSet) (devices : List Device) → counter_sets_at path spec ≡ Ok counters → devices_at driver per_device path spec ≡ Ok devices → (is_empty counters || is_empty devices) ≡ true
one_kind driver per_device path spec counters devices c d =
    let g = gave (optional_at list_at path (codes "sharedCounters") spec) (λ items.
    alone_at path spec (items_or_none items) >>= λ nothing.
    sets_from (path ++ step.Member (codes "sharedCounters") ∷ []) 0 0 [] (items_or_none items)) counters c in
    let a = gave (alone_at path spec (items_or_none g.value)) (λ nothing.
    sets_from (path ++ step.Member (codes "sharedCounters") ∷ []) 0 0 [] (items_or_none g.value)) counters g.second in
    let free = not_refused (field_error path (codes "sharedCounters") NotOne) (not (has_no_items (items_or_none g.value)) && not (is_empty_or_none (member_of (codes "devices") spec))) tt a.value a.first in
    let r = gave (optional_at (short_list_at devices_most) path (codes "devices") spec) (λ ds.
    rows_of driver per_device (path ++ step.Member (codes "devices") ∷ []) (items_or_none ds)) devices d in
    one_empty driver per_device (path ++ step.Member (codes "sharedCounters") ∷ []) (path ++ step.Member (codes "devices") ∷ []) (items_or_none g.value) (member_of (codes "devices") spec) (items_or_none r.value) counters devices free
    (items_are devices_most path (codes "devices") spec r.value r.first) a.second r.second

-- ---- the slice

pub a_driver : (path : List Step) (spec : Data) (driver : List ℕ) → driver_at path spec ≡ Ok driver → IsDriver driver
a_driver path spec driver h =
    let g = gave (text_at path (codes "driver") spec) (name_in (path ++ step.Member (codes "driver") ∷ []) driver_most is_dns_name) driver h in
    let t = taken (path ++ step.Member (codes "driver") ∷ []) driver_most (is_dns_name g.value) g.value driver g.second in
    along IsDriver g.value driver t.same (record { size = t.size; form = t.form })

a_pool_in : (path : List Step) (d : Data) (p : Pool) → pool_in path d ≡ Ok p → IsPool p
a_pool_in path d p h =
    let n = gave (pool_name_at path (codes "name") d) (λ name.
    natural_at 0 signed_most path (codes "generation") d >>= λ generation.
    natural_at 1 signed_most path (codes "resourceSliceCount") d >>= λ slices.
    Ok (record { name = name; generation = generation; slices = slices })) p h in
    let g = gave (natural_at 0 signed_most path (codes "generation") d) (λ generation.
    natural_at 1 signed_most path (codes "resourceSliceCount") d >>= λ slices.
    Ok (record { name = n.value; generation = generation; slices = slices })) p n.second in
    let c = gave (natural_at 1 signed_most path (codes "resourceSliceCount") d) (λ slices.
    Ok (record { name = n.value; generation = g.value; slices = slices })) p g.second in
    let made : Pool = record { name = n.value; generation = g.value; slices = c.value } in
    let name = named_by pool_most is_pool_name path (codes "name") d n.value n.first in
    let low = numbered 0 signed_most path (codes "generation") d g.value g.first in
    let high = numbered 1 signed_most path (codes "resourceSliceCount") d c.value c.first in
    along IsPool made p (the_same made p c.second)
    (record { name = name.0; name_form = name.1; generation = low.1; slices_least = high.0; slices_most = high.1 })

a_pool : (path : List Step) (spec : Data) (p : Pool) → pool_at path spec ≡ Ok p → IsPool p
a_pool path spec p h =
    let g = gave (object_at path (codes "pool") spec) (pool_in (path ++ step.Member (codes "pool") ∷ [])) p h in
    a_pool_in (path ++ step.Member (codes "pool") ∷ []) g.value p g.second

pub spec_keeps : TaintsLaw → (name : List ℕ) (version : Option ℕ) (path : List Step) (spec : Data) (s : ResourceSlice) → length name ≤ name_most → is_dns_name name ≡ true → VersionKept version → spec_in name version path spec ≡ Ok s → IsWithinLimits s
spec_keeps law name version path spec s size form kept_version h =
    let r = spec_read name version path spec s h in
    let is = a_driver path spec s.driver r.driver in
    let sets = counters_keep path spec s.counters r.counters in
    let all = all_keep law s.driver (is_per_device s.nodes) path spec s.devices is r.devices in
    record {
      name = along (λ n. length n ≤ name_most) name s.name r.same_name size;
      name_form = along (λ n. is_dns_name n ≡ true) name s.name r.same_name form;
      version = along VersionKept version s.version r.same_version kept_version;
      driver = is;
      pool = a_pool path spec s.pool r.pool;
      nodes = slice_nodes path spec s.nodes r.nodes;
      sets = sets.all;
      set_names = sets.different;
      counters = omega (arith, sets.total, sets.few);
      device_count = all.count;
      device_names = all.labels;
      device_names_differ = all.different;
      devices = all.each_one;
      one_kind = one_kind s.driver (is_per_device s.nodes) path spec s.counters s.devices r.counters r.devices;
    }

-- metadata keeps its rules
abbrev pub MetaLaw : Type 0
MetaLaw = (scope : Scope) (d : Data) (meta : ObjectMeta) → meta_at scope d ≡ Ok meta → MetaKept scope meta

pub slice_keeps : MetaLaw → TaintsLaw → (d : Data) (s : ResourceSlice) → slice_of d ≡ Ok s → IsWithinLimits s
slice_keeps law taints d s h =
    let m = gave (meta_at Cluster d) (λ meta. object_at [] (codes "spec") d >>= spec_in meta.key.name meta.version (step.Member (codes "spec") ∷ [])) s h in
    let o = gave (object_at [] (codes "spec") d) (spec_in m.value.key.name m.value.version (step.Member (codes "spec") ∷ [])) s m.second in
    let k = law Cluster d m.value m.first in
    spec_keeps taints m.value.key.name m.value.version (step.Member (codes "spec") ∷ []) o.value s k.key.name.size k.key.name.form k.version o.second
