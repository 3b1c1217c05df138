-- What is read has the devices and the counter sets of the document, with their names in order.
use Rattle.std.proofs.Common.{◌≡◌, ◌∙◌, ◌⊎◌, inl, inr, ℕ, ◌+◌, ℤ, Bool, true, false, List, [], ◌∷◌, ◌++◌, map, Option, Some, None, Result, Ok, Err, ap, append_assoc, codes, nat_lt, option_and_then, refl, sym}
use Rattle.std.proofs.Math.Logic.{⊎_elim}
use Rattle.std.proofs.lemmas.List.{append-nil}
use Rattle.serde_json.specs.Data.{Data, null, boolean, number, string, array, object, Items, no_items, item, Members}
use Rattle.serde_json.specs.Find.{as_array, as_object}
use Rattle.object_fields.specs.Fields.{dns_label_at, field_at, field_error, if_there, list_at, member_of, object_at, object_value, optional_at, items_length, short_list_at, some_or, table_at, unless, ◌>>=◌}
use Rattle.object_fields.specs.Lists.{each, each_beside, items_or_none}
use Rattle.object_fields.specs.Meta.{meta_at}
use Rattle.object_fields.specs.NewNames.{IsNewNameReading, IsTakenName, doubled_at, is_among, label_of, named, names_in}
use Rattle.object_fields.specs.declared.error.FieldError.{FieldError}
use Rattle.object_fields.specs.declared.kind.FieldErrorKind.TheVariants.{Doubled, Missing, TooMany, WrongType}
use Rattle.object_fields.specs.declared.meta.Scope.TheVariants.{Cluster}
use Rattle.object_fields.specs.declared.path.Step.{Step}
use Rattle.object_fields.specs.declared.path.Step.TheVariants as step
use Rattle.object_fields.specs.declared.qualified.QualName.{QualName}
use Rattle.device_taints.specs.Reading.{taints_at}
use Rattle.device_taints.specs.declared.types.Taint.{Taint}
use Rattle.api_slice.specs.Attributes.{attributes_of}
use Rattle.api_slice.specs.Capacity.{capacity_of}
use Rattle.api_slice.specs.Consumption.{consumes_of}
use Rattle.api_slice.specs.Counters.{alone_at, counter_sets_at, counters_at, has_set, new_set_name, sets_from}
use Rattle.api_slice.specs.Devices.{columns_of, devices_at, devices_most, devices_of, devices_with, new_device_name, nothing_more_from, rows_of}
use Rattle.api_slice.specs.Documents.{listed}
use Rattle.api_slice.specs.Nodes.{device_nodes_of, is_per_device, slice_nodes_at}
use Rattle.api_slice.specs.Slices.{driver_at, pool_at, slice_of, spec_in}
use Rattle.api_slice.specs.declared.device.Columns.{Columns}
use Rattle.api_slice.specs.declared.types.Attribute.{Attribute}
use Rattle.api_slice.specs.declared.types.CounterConsumption.{CounterConsumption}
use Rattle.api_slice.specs.declared.types.CounterSet.{CounterSet}
use Rattle.api_slice.specs.declared.types.Device.{Device}
use Rattle.api_slice.specs.declared.types.Nodes.{Nodes}
use Rattle.api_slice.specs.declared.types.ResourceSlice.{ResourceSlice}
use Rattle.api_slice.proofs.Readings.{along, gave, items_are, kept, the_same, was_some}
use Rattle.api_slice.proofs.Rows.{Column, column, columns_read, spec_read}

-- ---- the labels of items, a law of the readers of fields

pub record Labels : Type 0 where
  pub name : (path : List Step) (d : Data) (name : List ℕ) → dns_label_at path (codes "name") d ≡ Ok name → named d ≡ Some name
  pub object_ : (path : List Step) (d v : Data) → object_value path d ≡ Ok v → v ≡ d
  pub label_once : (path : List Step) (d : Data) (e : FieldError) → dns_label_at path (codes "name") d ≡ Err e → e.kind ≡ Doubled → ⊥
  pub object_once : (path : List Step) (d : Data) (e : FieldError) → object_value path d ≡ Err e → e.kind ≡ Doubled → ⊥

either_err : {A B : Type 0} (x : Result A FieldError) (f : A → Result B FieldError) (e : FieldError) → x >>= f ≡ Err e → (x ≡ Err e) ⊎ ((a : A) × ((x ≡ Ok a) × (f a ≡ Err e)))
either_err (Ok a) f e h = inr (a, (refl, h))
either_err (Err g) f e h = let same : g ≡ e = cc in inl (ap Err same)

refused_as : {A : Type 0} (g e : FieldError) (b : Bool) (x : A) → unless g b x ≡ Err e → (b ≡ true) × (e ≡ g)
refused_as g e true x h = let same : g ≡ e = cc in (refl, sym same)
refused_as g e false x h = absurd (let no_value : ⊥ = cc in no_value)

-- ---- the names of devices

pub device_reading : Labels → IsNewNameReading label_of new_device_name
device_reading law = record {
  taken = λ path before d name h. ap (λ x. x >>= λ n. unless (doubled_at path) (is_among n before) n) h;
  given = λ path before d name h.
      let g = gave (label_of path d) (λ n. unless (doubled_at path) (is_among n before) n) name h in
      let e = kept (doubled_at path) (is_among g.value before) g.value name g.second in
      let l = gave (object_value path d) (dns_label_at path (codes "name")) g.value g.first in
      along (λ v. named v ≡ Some name) l.value d (law.object_ path d l.value l.first) (law.name path l.value g.value l.second ∙ ap Some e);
  only = λ path before d e h k.
      ⊎_elim (λ x. absurd (⊎_elim (λ y. law.object_once path d e y k) (λ y. law.label_once path y.0 e y.1.1 k) (either_err (object_value path d) (dns_label_at path (codes "name")) e x)))
      (λ y.
      let r = refused_as (doubled_at path) e (is_among y.0 before) y.0 y.1.1 in
      let l = gave (object_value path d) (dns_label_at path (codes "name")) y.0 y.1.0 in
      let is : named d ≡ Some y.0 = along (λ v. named v ≡ Some y.0) l.value d (law.object_ path d l.value l.first) (law.name path l.value y.0 l.second) in
      let made : IsTakenName path before d e = record { name = y.0; is_named = is; stands = r.0; is = r.1 } in
      made)
      (either_err (label_of path d) (λ n. unless (doubled_at path) (is_among n before) n) e h);
}

-- ---- devices joined from their columns

abbrev pub with_some : Device → Option (List ℕ)
with_some x = Some x.name

joined : (driver : List ℕ) (per_device : Bool) (path : List Step) (place : ℕ) (ds : Items) (names : List (List ℕ)) (attributes : List (List (QualName × Attribute))) (capacity : List (List (QualName × ℤ))) (consumes : List (List CounterConsumption)) (nodes : List (Option Nodes)) (taints : List (List Taint)) →
    map Some names ≡ names_in ds → Column (attributes_of driver) path place attributes ds → Column (capacity_of driver) path place capacity ds → Column consumes_of path place consumes ds → Column (device_nodes_of per_device) path place nodes ds → Column taints_at path place taints ds → map with_some (devices_with names attributes capacity consumes nodes taints) ≡ names_in ds
joined driver per_device path place no_items [] xs ys ks os zs n a c q w t = refl
joined driver per_device path place no_items (m ∷ ms) xs ys ks os zs n a c q w t = absurd (let no_value : ⊥ = cc in no_value)
joined driver per_device path place (item d ds) [] xs ys ks os zs n a c q w t = absurd (let no_value : ⊥ = cc in no_value)
joined driver per_device path place (item d ds) (m ∷ ms) [] ys ks os zs n a c q w t = absurd a
joined driver per_device path place (item d ds) (m ∷ ms) (x ∷ xs) [] ks os zs n a c q w t = absurd c
joined driver per_device path place (item d ds) (m ∷ ms) (x ∷ xs) (y ∷ ys) [] os zs n a c q w t = absurd q
joined driver per_device path place (item d ds) (m ∷ ms) (x ∷ xs) (y ∷ ys) (k ∷ ks) [] zs n a c q w t = absurd w
joined driver per_device path place (item d ds) (m ∷ ms) (x ∷ xs) (y ∷ ys) (k ∷ ks) (o ∷ os) [] n a c q w t = absurd t
joined driver per_device path place (item d ds) (m ∷ ms) (x ∷ xs) (y ∷ ys) (k ∷ ks) (o ∷ os) (z ∷ zs) n a c q w t =
    let first : Some m ≡ named d = cc in
    let others : map Some ms ≡ names_in ds = cc in
    ap (λ e. e ∷ map with_some (devices_with ms xs ys ks os zs)) first ∙ ap (λ es. named d ∷ es) (joined driver per_device path (place + 1) ds ms xs ys ks os zs others a.1 c.1 q.1 w.1 t.1)

-- of names that were read one after another
abbrev pub GivenNames : Type 0
GivenNames = (path : List Step) (ds : Items) (names : List (List ℕ)) → each_beside new_device_name path ds ≡ Ok names → map Some names ≡ names_in ds

rows_names : GivenNames → (driver : List ℕ) (per_device : Bool) (path : List Step) (ds : Items) (out : List Device) → rows_of driver per_device path ds ≡ Ok out → map with_some out ≡ names_in ds
rows_names law driver per_device path ds out h =
    let r = gave (columns_of driver per_device path ds) (λ columns. nothing_more_from path 0 ds >>= λ nothing. Ok (devices_of columns)) out h in
    let m = gave (nothing_more_from path 0 ds) (λ nothing. Ok (devices_of r.value)) out r.second in
    let k = r.value in
    let c = columns_read driver per_device path ds k r.first in
    let names : map Some k.names ≡ names_in ds = law path ds k.names c.names in
    let all = joined driver per_device path 0 ds k.names k.attributes k.capacity k.consumes k.nodes k.taints names (column (attributes_of driver) path ds k.attributes c.attributes) (column (capacity_of driver) path ds k.capacity c.capacity) (column consumes_of path ds k.consumes c.consumes) (column (device_nodes_of per_device) path ds k.nodes c.nodes) (column taints_at path ds k.taints c.taints) in
    along (λ xs. map with_some xs ≡ names_in ds) (devices_of k) out (the_same (devices_of k) out m.second) all

-- ---- the lists of a document

as_itself : (w : Data) (ms : Members) → as_object w ≡ Some ms → w ≡ object ms
as_itself null ms h = absurd (let no_value : ⊥ = cc in no_value)
as_itself (boolean b) ms h = absurd (let no_value : ⊥ = cc in no_value)
as_itself (number n) ms h = absurd (let no_value : ⊥ = cc in no_value)
as_itself (string s) ms h = absurd (let no_value : ⊥ = cc in no_value)
as_itself (array ds) ms h = absurd (let no_value : ⊥ = cc in no_value)
as_itself (object xs) ms h = let same : xs ≡ ms = cc in ap object same

list_by : (m : Option Data) (e f : FieldError) (o : Option Items) → if_there m (some_or e m >>= (λ v. some_or f (as_array v))) ≡ Ok o → items_or_none o ≡ items_or_none (option_and_then as_array m)
list_by None e f o h = ap items_or_none (sym (the_same None o h))
list_by (Some v) e f o h =
    let s = gave (some_or f (as_array v)) (λ ds. Ok (Some ds)) o h in
    ap items_or_none (sym (the_same (Some s.value) o s.second) ∙ sym (was_some f (as_array v) s.value s.first))

list_is : (path : List Step) (name : List ℕ) (d : Data) (o : Option Items) → optional_at list_at path name d ≡ Ok o → items_or_none o ≡ items_or_none (option_and_then as_array (member_of name d))
list_is path name d o h = list_by (member_of name d) (field_error path name Missing) (field_error path name WrongType) o h

-- what is read as an object is at that member
stands : (path : List Step) (name : List ℕ) (d v : Data) → object_at path name d ≡ Ok v → member_of name d ≡ Some v
stands path name d v h =
    let s = gave (table_at path name d) (λ ms. Ok (object ms)) v h in
    let t = gave (field_at path name d) (λ w. some_or (field_error path name WrongType) (as_object w)) s.value s.first in
    was_some (field_error path name Missing) (member_of name d) t.value t.first ∙ ap Some (as_itself t.value s.value (was_some (field_error path name WrongType) (as_object t.value) s.value t.second) ∙ the_same (object s.value) v s.second)

-- the sets that were read have the names of the items
abbrev pub set_with_some : CounterSet → Option (List ℕ)
set_with_some s = Some s.name

sets_names : Labels → (path : List Step) (place met : ℕ) (before : List CounterSet) (ds : Items) (out : List CounterSet) → sets_from path place met before ds ≡ Ok out → (xs : List CounterSet) × ((out ≡ before ++ xs) × (map set_with_some xs ≡ names_in ds))
sets_names law path place met before no_items out h = ([], (sym (the_same before out h) ∙ sym (append-nil before), refl))
sets_names law path place met before (item d ds) out h =
    let at : List Step = path ++ step.Place place ∷ [] in
    let n = gave (new_set_name at before d) (λ name. counters_at path at met d >>= λ counters. sets_from path (place + 1) counters.1 (before ++ record { name = name; counters = counters.0 } ∷ []) ds) out h in
    let c = gave (counters_at path at met d) (λ counters. sets_from path (place + 1) counters.1 (before ++ record { name = n.value; counters = counters.0 } ∷ []) ds) out n.second in
    let made : CounterSet = record { name = n.value; counters = c.value.0 } in
    let k = sets_names law path (place + 1) c.value.1 (before ++ made ∷ []) ds out c.second in
    let g = gave (label_of at d) (λ x. unless (doubled_at at) (has_set x before) x) n.value n.first in
    let e = kept (doubled_at at) (has_set g.value before) g.value n.value g.second in
    let l = gave (object_value at d) (dns_label_at at (codes "name")) g.value g.first in
    let is : named d ≡ Some n.value = along (λ v. named v ≡ Some n.value) l.value d (law.object_ at d l.value l.first) (law.name at l.value g.value l.second ∙ ap Some e) in
    (made ∷ k.0, (k.1.0 ∙ append_assoc before (made ∷ []) k.0, ap (λ o. o ∷ map set_with_some k.0) (sym is) ∙ ap (λ os. named d ∷ os) k.1.1))

-- ---- a slice

pub record Named (d : Data) (s : ResourceSlice) : Type 0 where
  pub devices : map (λ (x : Device). Some x.name) s.devices ≡ names_in (listed (codes "devices") d)
  pub sets : map (λ (x : CounterSet). Some x.name) s.counters ≡ names_in (listed (codes "sharedCounters") d)

spec_names : GivenNames → Labels → (name : List ℕ) (version : Option ℕ) (path : List Step) (d spec : Data) (s : ResourceSlice) → member_of (codes "spec") d ≡ Some spec → spec_in name version path spec ≡ Ok s → Named d s
spec_names given labels name version path whole spec s there h =
    let r = spec_read name version path spec s h in
    let x = gave (optional_at (short_list_at devices_most) path (codes "devices") spec) (λ ds.
    rows_of s.driver (is_per_device s.nodes) (path ++ step.Member (codes "devices") ∷ []) (items_or_none ds)) s.devices r.devices in
    let listed_devices : items_or_none x.value ≡ listed (codes "devices") whole = items_are devices_most path (codes "devices") spec x.value x.first ∙ ap (λ o. items_or_none (option_and_then as_array (option_and_then (member_of (codes "devices")) o))) (sym there) in
    let devices = rows_names given s.driver (is_per_device s.nodes) (path ++ step.Member (codes "devices") ∷ []) (items_or_none x.value) s.devices x.second ∙ ap names_in listed_devices in
    let y = gave (optional_at list_at path (codes "sharedCounters") spec) (λ items.
    alone_at path spec (items_or_none items) >>= λ nothing.
    sets_from (path ++ step.Member (codes "sharedCounters") ∷ []) 0 0 [] (items_or_none items)) s.counters r.counters in
    let alone = gave (alone_at path spec (items_or_none y.value)) (λ nothing.
    sets_from (path ++ step.Member (codes "sharedCounters") ∷ []) 0 0 [] (items_or_none y.value)) s.counters y.second in
    let listed_sets : items_or_none y.value ≡ listed (codes "sharedCounters") whole = list_is path (codes "sharedCounters") spec y.value y.first ∙ ap (λ o. items_or_none (option_and_then as_array (option_and_then (member_of (codes "sharedCounters")) o))) (sym there) in
    let z = sets_names labels (path ++ step.Member (codes "sharedCounters") ∷ []) 0 0 [] (items_or_none y.value) s.counters alone.second in
    let sets = ap (map set_with_some) z.1.0 ∙ z.1.1 ∙ ap names_in listed_sets in
    record { devices = devices; sets = sets }

pub slice_names : GivenNames → Labels → (d : Data) (s : ResourceSlice) → slice_of d ≡ Ok s → Named d s
slice_names given labels d s h =
    let m = gave (meta_at Cluster d) (λ meta. object_at [] (codes "spec") d >>= spec_in meta.key.name meta.version (step.Member (codes "spec") ∷ [])) s h in
    let o = gave (object_at [] (codes "spec") d) (spec_in m.value.key.name m.value.version (step.Member (codes "spec") ∷ [])) s m.second in
    spec_names given labels m.value.key.name m.value.version (step.Member (codes "spec") ∷ []) d o.value s (stands [] (codes "spec") d o.value o.first) o.second
