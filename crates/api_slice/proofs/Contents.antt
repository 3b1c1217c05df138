-- Reading the counter sets and the devices together is reading them one after the other.
use Rattle.std.proofs.Common.{◌≡◌, ℕ, List, Bool, Result, Ok, Err, refl, ap, sym, ◌∙◌}
use Rattle.std.specs.Prelude.{Option}
use Rattle.serde_json.specs.Data.{Data}
use Rattle.object_fields.specs.Fields.{UnlessMemory, ◌>>=◌}
use Rattle.object_fields.specs.declared.error.FieldError.{FieldError}
use Rattle.object_fields.specs.declared.path.Step.{Step}
use Rattle.api_slice.specs.Counters.{counter_sets_at}
use Rattle.api_slice.specs.Devices.{devices_at}
use Rattle.api_slice.specs.Nodes.{is_per_device, slice_nodes_at}
use Rattle.api_slice.specs.Slices.{driver_at, pool_at, spec_in}
use Rattle.api_slice.specs.declared.types.CounterSet.{CounterSet}
use Rattle.api_slice.specs.declared.types.Device.{Device}
use Rattle.api_slice.specs.declared.types.Pool.{Pool}
use Rattle.api_slice.specs.declared.types.ResourceSlice.{ResourceSlice}
use Rattle.api_slice.specs.declared.types.SliceNodes.{SliceNodes}
use Rattle.api_slice.proofs.Entries.{joined, unless_map}

abbrev contents_of : List Step → Data → List ℕ → Bool → Result (List CounterSet × List Device) FieldError
contents_of path d driver per_device =
    counter_sets_at path d >>= λ counters. devices_at driver per_device path d >>= λ devices. Ok (counters, devices)

abbrev made : List ℕ → Option ℕ → List ℕ → Pool → SliceNodes → List CounterSet × List Device → ResourceSlice
made name version driver pool nodes p = record { name = name; version = version; driver = driver; pool = pool; nodes = nodes; counters = p.0; devices = p.1 }

spec_by : (name : List ℕ) (version : Option ℕ) (path : List Step) (d : Data) (driver : List ℕ) (pool : Pool) (nodes : SliceNodes) (per_device : Bool) →
    driver_at path d ≡ Ok driver → pool_at path d ≡ Ok pool → slice_nodes_at path d ≡ Ok nodes → per_device ≡ is_per_device nodes →
    spec_in name version path d ≡ (contents_of path d driver per_device >>= λ p. Ok (made name version driver pool nodes p))
spec_by name version path d driver pool nodes per_device a b c e =
    ap (λ (r : Result (List ℕ) FieldError). r >>= λ x. pool_at path d >>= λ y. slice_nodes_at path d >>= λ z. counter_sets_at path d >>= λ u. devices_at x (is_per_device z) path d >>= λ v. Ok (made name version x y z (u, v))) a
    ∙ ap (λ (r : Result Pool FieldError). r >>= λ y. slice_nodes_at path d >>= λ z. counter_sets_at path d >>= λ u. devices_at driver (is_per_device z) path d >>= λ v. Ok (made name version driver y z (u, v))) b
    ∙ ap (λ (r : Result SliceNodes FieldError). r >>= λ z. counter_sets_at path d >>= λ u. devices_at driver (is_per_device z) path d >>= λ v. Ok (made name version driver pool z (u, v))) c
    ∙ ap (λ (p : Bool). counter_sets_at path d >>= λ u. devices_at driver p path d >>= λ v. Ok (made name version driver pool nodes (u, v))) (sym e)
    ∙ sym (joined (counter_sets_at path d) (devices_at driver per_device path d) (λ u v. (u, v)) (λ p. Ok (made name version driver pool nodes p)) (λ u v. Ok (made name version driver pool nodes (u, v))) (λ u v. refl))

pub spec-read : (name : List ℕ) (version : Option ℕ) (path : List Step) (d : Data) (driver : List ℕ) (pool : Pool) (nodes : SliceNodes) (per_device : Bool) (counters : List CounterSet) (devices : List Device) →
    driver_at path d ≡ Ok driver → pool_at path d ≡ Ok pool → slice_nodes_at path d ≡ Ok nodes → per_device ≡ is_per_device nodes → contents_of path d driver per_device ≡ Ok (counters, devices) →
    spec_in name version path d ≡ Ok (made name version driver pool nodes (counters, devices))
spec-read name version path d driver pool nodes per_device counters devices a b c e h =
    spec_by name version path d driver pool nodes per_device a b c e
    ∙ ap (λ (r : Result (List CounterSet × List Device) FieldError). r >>= λ p. Ok (made name version driver pool nodes p)) h

pub spec-stop : (name : List ℕ) (version : Option ℕ) (path : List Step) (d : Data) (driver : List ℕ) (pool : Pool) (nodes : SliceNodes) (per_device : Bool) (z : FieldError) →
    driver_at path d ≡ Ok driver → pool_at path d ≡ Ok pool → slice_nodes_at path d ≡ Ok nodes → per_device ≡ is_per_device nodes → UnlessMemory z.kind (contents_of path d driver per_device ≡ Err z) →
    UnlessMemory z.kind (spec_in name version path d ≡ Err z)
spec-stop name version path d driver pool nodes per_device z a b c e h =
    unless_map z.kind (λ (f : contents_of path d driver per_device ≡ Err z).
    spec_by name version path d driver pool nodes per_device a b c e
    ∙ ap (λ (r : Result (List CounterSet × List Device) FieldError). r >>= λ p. Ok (made name version driver pool nodes p)) f) h
