-- The steps of a reading of devices and of a spec that returned a value.
use Rattle.std.proofs.Common.{◌≡◌, ◌∙◌, ℕ, ◌+◌, Bool, List, [], ◌∷◌, ◌++◌, Option, Result, Ok, append_assoc, refl, sym}
use Rattle.std.proofs.lemmas.List.{append-nil}
use Rattle.serde_json.specs.Data.{Data, Items, no_items, item}
use Rattle.object_fields.specs.Fields.{◌>>=◌}
use Rattle.object_fields.specs.Lists.{alone, each, each_beside, each_from}
use Rattle.object_fields.specs.declared.error.FieldError.{FieldError}
use Rattle.object_fields.specs.declared.path.Step.{Step}
use Rattle.object_fields.specs.declared.path.Step.TheVariants as step
use Rattle.device_taints.specs.Reading.{taints_at}
use Rattle.api_slice.specs.Attributes.{attributes_of}
use Rattle.api_slice.specs.Capacity.{capacity_of}
use Rattle.api_slice.specs.Consumption.{consumes_of}
use Rattle.api_slice.specs.Counters.{counter_sets_at}
use Rattle.api_slice.specs.Devices.{columns_of, devices_at, new_device_name}
use Rattle.api_slice.specs.Nodes.{device_nodes_of, is_per_device, slice_nodes_at}
use Rattle.api_slice.specs.Slices.{driver_at, pool_at, spec_in}
use Rattle.api_slice.specs.declared.device.Columns.{Columns}
use Rattle.api_slice.specs.declared.types.ResourceSlice.{ResourceSlice}
use Rattle.api_slice.proofs.Readings.{along, gave, the_same}

-- ---- one row of all devices

-- each element is what the reading returns for the item at its index
abbrev pub Column : {A : Type 0} → (List Step → Data → Result A FieldError) → List Step → ℕ → List A → Items → Type 0
Column r path place [] no_items = Unit {0}
Column r path place [] (item d ds) = ⊥
Column r path place (x ∷ xs) no_items = ⊥
Column r path place (x ∷ xs) (item d ds) = (r (path ++ step.Place place ∷ []) d ≡ Ok x) × Column r path (place + 1) xs ds

record Behind {A : Type 0} (r : List Step → Data → Result A FieldError) (path : List Step) (place : ℕ) (before : List A) (ds : Items) (xs : List A) : Type 0 where
  own : List A
  is : before ++ own ≡ xs
  column : Column r path place own ds

behind : {A : Type 0} (r : List Step → Data → Result A FieldError) (path : List Step) (place : ℕ) (before : List A) (ds : Items) (xs : List A) → each_from (alone r) path place before ds ≡ Ok xs → Behind r path place before ds xs
behind r path place before no_items xs h = record { own = []; is = append-nil before ∙ the_same before xs h; column = tt }
behind r path place before (item d ds) xs h =
    let g = gave (r (path ++ step.Place place ∷ []) d) (λ x. each_from (alone r) path (place + 1) (before ++ x ∷ []) ds) xs h in
    let b = behind r path (place + 1) (before ++ g.value ∷ []) ds xs g.second in
    record { own = g.value ∷ b.own; is = sym (append_assoc before (g.value ∷ []) b.own) ∙ b.is; column = (g.first, b.column) }

pub column : {A : Type 0} (r : List Step → Data → Result A FieldError) (path : List Step) (ds : Items) (xs : List A) → each r path ds ≡ Ok xs → Column r path 0 xs ds
column r path ds xs h = let b = behind r path 0 [] ds xs h in along (λ ys. Column r path 0 ys ds) b.own xs b.is b.column

-- ---- all rows

pub record ColumnsRead (driver : List ℕ) (per_device : Bool) (path : List Step) (ds : Items) (c : Columns) : Type 0 where
  pub names : each_beside new_device_name path ds ≡ Ok c.names
  pub attributes : each (attributes_of driver) path ds ≡ Ok c.attributes
  pub capacity : each (capacity_of driver) path ds ≡ Ok c.capacity
  pub consumes : each consumes_of path ds ≡ Ok c.consumes
  pub nodes : each (device_nodes_of per_device) path ds ≡ Ok c.nodes
  pub taints : each taints_at path ds ≡ Ok c.taints

pub columns_read : (driver : List ℕ) (per_device : Bool) (path : List Step) (ds : Items) (out : Columns) → columns_of driver per_device path ds ≡ Ok out → ColumnsRead driver per_device path ds out
columns_read driver per_device path ds out h =
    let n = gave (each_beside new_device_name path ds) (λ names.
    each (attributes_of driver) path ds >>= λ attributes.
    each (capacity_of driver) path ds >>= λ capacity.
    each consumes_of path ds >>= λ consumes.
    each (device_nodes_of per_device) path ds >>= λ nodes.
    each taints_at path ds >>= λ taints.
    Ok (record { names = names; attributes = attributes; capacity = capacity; consumes = consumes; nodes = nodes; taints = taints })) out h in
    let a = gave (each (attributes_of driver) path ds) (λ attributes.
    each (capacity_of driver) path ds >>= λ capacity.
    each consumes_of path ds >>= λ consumes.
    each (device_nodes_of per_device) path ds >>= λ nodes.
    each taints_at path ds >>= λ taints.
    Ok (record { names = n.value; attributes = attributes; capacity = capacity; consumes = consumes; nodes = nodes; taints = taints })) out n.second in
    let c = gave (each (capacity_of driver) path ds) (λ capacity.
    each consumes_of path ds >>= λ consumes.
    each (device_nodes_of per_device) path ds >>= λ nodes.
    each taints_at path ds >>= λ taints.
    Ok (record { names = n.value; attributes = a.value; capacity = capacity; consumes = consumes; nodes = nodes; taints = taints })) out a.second in
    let k = gave (each consumes_of path ds) (λ consumes.
    each (device_nodes_of per_device) path ds >>= λ nodes.
    each taints_at path ds >>= λ taints.
    Ok (record { names = n.value; attributes = a.value; capacity = c.value; consumes = consumes; nodes = nodes; taints = taints })) out c.second in
    let w = gave (each (device_nodes_of per_device) path ds) (λ nodes.
    each taints_at path ds >>= λ taints.
    Ok (record { names = n.value; attributes = a.value; capacity = c.value; consumes = k.value; nodes = nodes; taints = taints })) out k.second in
    let t = gave (each taints_at path ds) (λ taints.
    Ok (record { names = n.value; attributes = a.value; capacity = c.value; consumes = k.value; nodes = w.value; taints = taints })) out w.second in
    let made : Columns = record { names = n.value; attributes = a.value; capacity = c.value; consumes = k.value; nodes = w.value; taints = t.value } in
    along (ColumnsRead driver per_device path ds) made out (the_same made out t.second)
    (record { names = n.first; attributes = a.first; capacity = c.first; consumes = k.first; nodes = w.first; taints = t.first })

-- ---- a spec

pub record SpecRead (name : List ℕ) (version : Option ℕ) (path : List Step) (spec : Data) (s : ResourceSlice) : Type 0 where
  pub same_name : name ≡ s.name
  pub same_version : version ≡ s.version
  pub driver : driver_at path spec ≡ Ok s.driver
  pub pool : pool_at path spec ≡ Ok s.pool
  pub nodes : slice_nodes_at path spec ≡ Ok s.nodes
  pub counters : counter_sets_at path spec ≡ Ok s.counters
  pub devices : devices_at s.driver (is_per_device s.nodes) path spec ≡ Ok s.devices

pub spec_read : (name : List ℕ) (version : Option ℕ) (path : List Step) (spec : Data) (s : ResourceSlice) → spec_in name version path spec ≡ Ok s → SpecRead name version path spec s
spec_read name version path spec s h =
    let d = gave (driver_at path spec) (λ driver.
    pool_at path spec >>= λ pool.
    slice_nodes_at path spec >>= λ nodes.
    counter_sets_at path spec >>= λ counters.
    devices_at driver (is_per_device nodes) path spec >>= λ devices.
    Ok (record { name = name; version = version; driver = driver; pool = pool; nodes = nodes; counters = counters; devices = devices })) s h in
    let p = gave (pool_at path spec) (λ pool.
    slice_nodes_at path spec >>= λ nodes.
    counter_sets_at path spec >>= λ counters.
    devices_at d.value (is_per_device nodes) path spec >>= λ devices.
    Ok (record { name = name; version = version; driver = d.value; pool = pool; nodes = nodes; counters = counters; devices = devices })) s d.second in
    let n = gave (slice_nodes_at path spec) (λ nodes.
    counter_sets_at path spec >>= λ counters.
    devices_at d.value (is_per_device nodes) path spec >>= λ devices.
    Ok (record { name = name; version = version; driver = d.value; pool = p.value; nodes = nodes; counters = counters; devices = devices })) s p.second in
    let c = gave (counter_sets_at path spec) (λ counters.
    devices_at d.value (is_per_device n.value) path spec >>= λ devices.
    Ok (record { name = name; version = version; driver = d.value; pool = p.value; nodes = n.value; counters = counters; devices = devices })) s n.second in
    let v = gave (devices_at d.value (is_per_device n.value) path spec) (λ devices.
    Ok (record { name = name; version = version; driver = d.value; pool = p.value; nodes = n.value; counters = c.value; devices = devices })) s c.second in
    let made : ResourceSlice = record { name = name; version = version; driver = d.value; pool = p.value; nodes = n.value; counters = c.value; devices = v.value } in
    along (SpecRead name version path spec) made s (the_same made s v.second)
    (record { same_name = refl; same_version = refl; driver = d.first; pool = p.first; nodes = n.first; counters = c.first; devices = v.first })
