-- Tables by key with one entry changed.
use Rattle.std.specs.Prelude.{List, Option, None, Some}
use Rattle.std.specs.BTreeMap.{insert_entry, is_at}
use Rattle.std.specs.Map.{set_value}
use Rattle.std.specs.Option.{option_map_or}
use Rattle.object_fields.specs.declared.key.Key.{Key}
use Rattle.pool_view.specs.Names.{at_key, key_cmp}
use Rattle.cluster.specs.declared.state.Phase.{Phase}
use Rattle.cluster.specs.declared.state.PodState.{PodState}

-- the table with another value at a key, made of the one that is there
abbrev pub changed_at : {V : Type 0} → Key → (V → V) → List (Key × V) → List (Key × V)
changed_at key f table = option_map_or (λ v. set_value (is_at (key_cmp key)) table (f v)) (at_key table key) table

abbrev pub put_at : {V : Type 0} → Key → V → (V → V) → List (Key × V) → Option V → List (Key × V)
put_at key new f table None = insert_entry key_cmp table key new
put_at key new f table (Some v) = set_value (is_at (key_cmp key)) table (f v)

-- the table with another value at a key, made of the one that is there, and else a new one
abbrev pub changed_or_new : {V : Type 0} → Key → V → (V → V) → List (Key × V) → List (Key × V)
changed_or_new key new f table = put_at key new f table (at_key table key)

-- the pod in another phase
abbrev pub with_phase : Key → Phase → List (Key × PodState) → List (Key × PodState)
with_phase pod phase pods = changed_at pod (λ p. record p { phase = phase }) pods
