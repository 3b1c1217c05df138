-- The order and the equality of keys that Rust derives are those of the definitions.
use Rattle.std.proofs.Common.{◌≡◌, List, [], ◌∷◌, ◌&&◌, refl}
use Rattle.std.specs.BTreeMap.{is_at}
use Rattle.std.specs.Map.{lookup}
use Rattle.std.specs.Cmp.Lexicographic.{pointwise}
use Rattle.cel_value.specs.declared.value.Single.{Single}
use Rattle.cel_value.specs.declared.value.Single.TheVariants as single
use Rattle.cel_value.specs.declared.value.Key.{Key}
use Rattle.cel_value.specs.declared.value.Key.TheVariants as key
use Rattle.cel_value.specs.contracts.value.KeyOrd as key_ord
use Rattle.cel_value.specs.contracts.value.KeyPartialEq as key_eq
use Rattle.cel_value.specs.contracts.value.SinglePartialEq as single_eq
use Rattle.cel_value.specs.Lookups.{key_cmp, at_key}
use Rattle.cel_value.specs.Operators.{same_key, same_single, same_entry}

pub key_order : (k l : Key) → (key_ord.TheImpl.cmp-value).it k l ≡ key_cmp k l
key_order (key.Int m) (key.Int n) = refl
key_order (key.Int m) (key.Bool b) = refl
key_order (key.Int m) (key.Text t) = refl
key_order (key.Bool a) (key.Int n) = refl
key_order (key.Bool a) (key.Bool b) = refl
key_order (key.Bool a) (key.Text t) = refl
key_order (key.Text s) (key.Int n) = refl
key_order (key.Text s) (key.Bool b) = refl
key_order (key.Text s) (key.Text t) = refl

pub found_same : (k : Key) (es : List (Key × Single)) → lookup (is_at ((key_ord.TheImpl.cmp-value).it k)) es ≡ at_key k es
found_same k [] = refl
found_same k (e ∷ es) = let h = found_same k es in rw (key_order k e.0, h) refl

pub key_same : (k l : Key) → (key_eq.TheImpl.ghosts).eq k l ≡ same_key k l
key_same (key.Int m) (key.Int n) = refl
key_same (key.Int m) (key.Bool b) = refl
key_same (key.Int m) (key.Text t) = refl
key_same (key.Bool a) (key.Int n) = refl
key_same (key.Bool a) (key.Bool b) = refl
key_same (key.Bool a) (key.Text t) = refl
key_same (key.Text s) (key.Int n) = refl
key_same (key.Text s) (key.Bool b) = refl
key_same (key.Text s) (key.Text t) = refl

pub single_same : (x y : Single) → (single_eq.TheImpl.ghosts).eq x y ≡ same_single x y
single_same single.Null single.Null = refl
single_same single.Null (single.Bool y) = refl
single_same single.Null (single.Int y) = refl
single_same single.Null (single.Text y) = refl
single_same single.Null (single.Quantity y) = refl
single_same single.Null (single.Version y) = refl
single_same (single.Bool x) single.Null = refl
single_same (single.Bool x) (single.Bool y) = refl
single_same (single.Bool x) (single.Int y) = refl
single_same (single.Bool x) (single.Text y) = refl
single_same (single.Bool x) (single.Quantity y) = refl
single_same (single.Bool x) (single.Version y) = refl
single_same (single.Int x) single.Null = refl
single_same (single.Int x) (single.Bool y) = refl
single_same (single.Int x) (single.Int y) = refl
single_same (single.Int x) (single.Text y) = refl
single_same (single.Int x) (single.Quantity y) = refl
single_same (single.Int x) (single.Version y) = refl
single_same (single.Text x) single.Null = refl
single_same (single.Text x) (single.Bool y) = refl
single_same (single.Text x) (single.Int y) = refl
single_same (single.Text x) (single.Text y) = refl
single_same (single.Text x) (single.Quantity y) = refl
single_same (single.Text x) (single.Version y) = refl
single_same (single.Quantity x) single.Null = refl
single_same (single.Quantity x) (single.Bool y) = refl
single_same (single.Quantity x) (single.Int y) = refl
single_same (single.Quantity x) (single.Text y) = refl
single_same (single.Quantity x) (single.Quantity y) = refl
single_same (single.Quantity x) (single.Version y) = refl
single_same (single.Version x) single.Null = refl
single_same (single.Version x) (single.Bool y) = refl
single_same (single.Version x) (single.Int y) = refl
single_same (single.Version x) (single.Text y) = refl
single_same (single.Version x) (single.Quantity y) = refl
single_same (single.Version x) (single.Version y) = refl

pub entries_same : (ds es : List (Key × Single)) →
    pointwise (λ p q. (key_eq.TheImpl.ghosts).eq p.0 q.0 && (single_eq.TheImpl.ghosts).eq p.1 q.1) ds es ≡ pointwise same_entry ds es
entries_same [] [] = refl
entries_same [] (e ∷ es) = refl
entries_same (d ∷ ds) [] = refl
entries_same (d ∷ ds) (e ∷ es) = let h = entries_same ds es in rw (key_same d.0 e.0, single_same d.1 e.1, h) refl
