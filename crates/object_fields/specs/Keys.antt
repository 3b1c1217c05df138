-- How keys and device names are printed.
use Rattle.std.specs.Prelude.{ℕ, List, [], ◌∷◌, ◌++◌, codes}
use Rattle.object_fields.specs.declared.key.Key.{Key}
use Rattle.object_fields.specs.declared.key.DeviceId.{DeviceId}

-- `namespace/name`, and the name alone if there is no namespace
abbrev pub joined : List ℕ → List ℕ → List ℕ
joined [] name = name
joined (b ∷ bs) name = (b ∷ bs) ++ codes "/" ++ name

abbrev pub key_text : Key → List ℕ
key_text k = joined k.namespace k.name

-- `driver/pool/device`
abbrev pub device_text : DeviceId → List ℕ
device_text d = d.driver ++ codes "/" ++ d.pool ++ codes "/" ++ d.device
