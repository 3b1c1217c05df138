-- What is read of a ResourceSlice (API reference of resource.k8s.io/v1).
use Rattle.std.specs.Prelude.{ℕ, ◌-◌, ◌^◌, List, [], ◌∷◌, ◌++◌, Option, Result, Ok, codes}
use Rattle.serde_json.specs.Data.{Data}
use Rattle.object_fields.specs.Fields.{dns_subdomain_at, natural_at, object_at, pool_name_at, ◌>>=◌}
use Rattle.object_fields.specs.Meta.{meta_at}
use Rattle.object_fields.specs.declared.error.FieldError.{FieldError}
use Rattle.object_fields.specs.declared.meta.Scope.TheVariants.{Cluster}
use Rattle.object_fields.specs.declared.path.Step.{Step}
use Rattle.object_fields.specs.declared.path.Step.TheVariants.{Member}
use Rattle.api_slice.specs.Counters.{counter_sets_at}
use Rattle.api_slice.specs.Devices.{devices_at}
use Rattle.api_slice.specs.Drivers.{driver_most}
use Rattle.api_slice.specs.Nodes.{is_per_device, slice_nodes_at}
use Rattle.api_slice.specs.declared.types.Pool.{Pool}
use Rattle.api_slice.specs.declared.types.ResourceSlice.{ResourceSlice}

abbrev pub driver_at : List Step → Data → Result (List ℕ) FieldError
driver_at path spec = dns_subdomain_at driver_most path (codes "driver") spec

-- the maximum of a signed 64-bit integer
abbrev pub signed_most : ℕ
signed_most = 2 ^ 63 - 1

-- name, generation and the number of slices
abbrev pub pool_in : List Step → Data → Result Pool FieldError
pool_in path pool =
    pool_name_at path (codes "name") pool >>= λ name.
    natural_at 0 signed_most path (codes "generation") pool >>= λ generation.
    natural_at 1 signed_most path (codes "resourceSliceCount") pool >>= λ slices.
    Ok (record { name = name; generation = generation; slices = slices })

abbrev pub pool_at : List Step → Data → Result Pool FieldError
pool_at path spec =
    object_at path (codes "pool") spec >>= pool_in (path ++ Member (codes "pool") ∷ [])

-- driver, pool, nodes, counter sets and devices
abbrev pub spec_in : List ℕ → Option ℕ → List Step → Data → Result ResourceSlice FieldError
spec_in name version path spec =
    driver_at path spec >>= λ driver.
    pool_at path spec >>= λ pool.
    slice_nodes_at path spec >>= λ nodes.
    counter_sets_at path spec >>= λ counters.
    devices_at driver (is_per_device nodes) path spec >>= λ devices.
    Ok (record { name = name; version = version; driver = driver; pool = pool; nodes = nodes; counters = counters; devices = devices })

abbrev pub spec_at : List ℕ → Option ℕ → Data → Result ResourceSlice FieldError
spec_at name version d = object_at [] (codes "spec") d >>= spec_in name version (Member (codes "spec") ∷ [])

-- the metadata, then the spec
abbrev pub slice_of : Data → Result ResourceSlice FieldError
slice_of d = meta_at Cluster d >>= λ meta. spec_at meta.key.name meta.version d
