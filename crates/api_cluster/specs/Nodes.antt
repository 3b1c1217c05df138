-- What is read of a Node (API reference of v1).
use Rattle.std.specs.Prelude.{Result, Ok}
use Rattle.serde_json.specs.Data.{Data}
use Rattle.object_fields.specs.Fields.{◌>>=◌}
use Rattle.object_fields.specs.Meta.{meta_at}
use Rattle.object_fields.specs.declared.error.FieldError.{FieldError}
use Rattle.object_fields.specs.declared.meta.Scope.TheVariants.{Cluster}
use Rattle.api_cluster.specs.declared.types.Node.{Node}

-- the name, the version and the labels of the metadata
abbrev pub node_of : Data → Result Node FieldError
node_of d =
    meta_at Cluster d >>= λ meta. Ok (record { name = meta.key.name; version = meta.version; labels = meta.labels })
