-- Which values a type has, by rules. A value of dyn is any that holds no others.
use Rattle.std.specs.Prelude.{ℕ, ℤ, List, [], ◌∷◌, Bool}
use Rattle.cel_tree.specs.declared.types.Scalar.{Scalar}
use Rattle.cel_tree.specs.declared.types.Scalar.TheVariants as scalar
use Rattle.cel_tree.specs.declared.types.KeyType.{KeyType}
use Rattle.cel_tree.specs.declared.types.Facet.{Facet}
use Rattle.cel_tree.specs.declared.types.CelType.{CelType}
use Rattle.cel_tree.specs.declared.types.CelType.TheVariants as kind
use Rattle.cel_tree.specs.Types.{scalar_of}
use Rattle.cel_tree.specs.Typing.{Names}
use Rattle.cel_value.specs.declared.value.Single.{Single}
use Rattle.cel_value.specs.declared.value.Single.TheVariants as single
use Rattle.cel_value.specs.declared.value.Key.{Key}
use Rattle.cel_value.specs.declared.value.Value.{Value}
use Rattle.cel_value.specs.declared.value.Value.TheVariants as value
use Rattle.cel_value.specs.Values.{single_of}
use Rattle.cel_meaning.specs.Meaning.{Bindings}

-- a fact of each element of a list
pub data Every {A : Type 0} (P : A → Type 0) : List A → Type 0 where
  no_more : Every P []
  first : {x : A} {xs : List A} → P x → Every P xs → Every P (x ∷ xs)

-- a value that holds no others, of a scalar type
pub data IsOf : Scalar → Single → Type 0 where
  a_null : IsOf scalar.Null single.Null
  a_bool : {b : Bool} → IsOf scalar.Bool (single.Bool b)
  an_int : {n : ℤ} → IsOf scalar.Int (single.Int n)
  a_text : {s : List ℕ} → IsOf scalar.Text (single.Text s)
  a_quantity : {n : ℤ} → IsOf scalar.Quantity (single.Quantity n)
  a_version : {v : ℕ × ℕ × ℕ × List ℕ × List ℕ} → IsOf scalar.Semver (single.Version v)
  anything : {x : Single} → IsOf scalar.Dyn x

-- an entry of a map
pub record IsEntry (k : KeyType) (v : Scalar) (e : Key × Single) : Type 0 where
  pub key : IsOf (scalar_of k) (single_of e.0)
  pub value : IsOf v e.1

pub data HasKind : CelType → Value → Type 0 where
  of_scalar : {s : Scalar} {x : Single} → IsOf s x → HasKind (kind.Scalar s) (value.Single x)
  of_list : {s : Scalar} {xs : List Single} → Every (IsOf s) xs → HasKind (kind.List s) (value.List xs)
  of_map : {k : KeyType} {v : Scalar} {es : List (Key × Single)} → Every (IsEntry k v) es → HasKind (kind.Map k v) (value.Map es)
  of_domains : {f : Facet} → HasKind (kind.Domains f) (value.Domains f)
  of_entries : {f : Facet} {domain : List ℕ} → HasKind (kind.Entries f) (value.Entries f domain)

-- names in scope with their types, and the same names bound to values of these types
pub data Agree : Names → Bindings → Type 0 where
  unbound : Agree [] []
  bound : {x : List ℕ} {k : CelType} {v : Value} {names : Names} {bindings : Bindings} → HasKind k v → Agree names bindings → Agree ((x, k) ∷ names) ((x, v) ∷ bindings)
