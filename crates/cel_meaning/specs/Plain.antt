-- Trees no part of which has a type with dyn in it, under names with their types.
use Rattle.std.specs.Prelude.{ℕ, List, ◌∷◌, Bool, true, false, not, ◌&&◌, Option, Some, None, Result, Ok, Err, if◌then◌else◌}
use Rattle.cel_tree.specs.declared.types.Scalar.{Scalar}
use Rattle.cel_tree.specs.declared.types.CelType.{CelType}
use Rattle.cel_tree.specs.declared.types.CelType.TheVariants as kind
use Rattle.cel_tree.specs.declared.calls.Comprehension.{Comprehension}
use Rattle.cel_tree.specs.declared.fault.Fault.{Fault}
use Rattle.cel_tree.specs.Ast.{Ast, Node, Form, Literal', Ident, Unary, Binary, Conditional, Member, Index, Call, Method, ListOf, MapOf, Asts, End, More, Entries, NoEntry, Pair}
use Rattle.cel_tree.specs.Types.{is_dyn, element_type}
use Rattle.cel_tree.specs.Calls.{called_of}
use Rattle.cel_tree.specs.Scopes.{is_device}
use Rattle.cel_tree.specs.Typing.{Names, type_of, is_bind, is_has, variable_of, comprehension_in}

-- a type without dyn
abbrev pub is_plain : CelType → Bool
is_plain (kind.Scalar s) = not (is_dyn s)
is_plain (kind.List s) = not (is_dyn s)
is_plain (kind.Map k v) = not (is_dyn v)
is_plain (kind.Domains f) = true
is_plain (kind.Entries f) = true

-- on with a type, an element's type, a variable; false if there is none
abbrev pub with_type : Result CelType Fault → (CelType → Bool) → Bool
with_type (Ok k) f = f k
with_type (Err fault) f = false

abbrev pub with_some : {A : Type 0} → Option A → (A → Bool) → Bool
with_some (Some x) f = f x
with_some None f = false

-- a comprehension, or else another method
abbrev pub by_comprehension : Option Comprehension → Bool → Bool → Bool
by_comprehension (Some c) bodies other = bodies
by_comprehension None bodies other = other

abbrev mutual
  pub is_without_dyn : Names → Ast → Bool
  is_without_dyn names (Node span form) = with_type (type_of names (Node span form)) is_plain && parts_without names form

  -- the parts of a tree; `device`, what is asked for by `has`, and the variables of macros are none
  pub parts_without : Names → Form → Bool
  parts_without names (Literal' c) = true
  parts_without names (Ident name) = true
  parts_without names (Unary o t) = is_without_dyn names t
  parts_without names (Binary o t u) = is_without_dyn names t && is_without_dyn names u
  parts_without names (Conditional t u v) = is_without_dyn names t && (is_without_dyn names u && is_without_dyn names v)
  parts_without names (Member t name) = if is_device names t then true else is_without_dyn names t
  parts_without names (Index t u) = is_without_dyn names t && is_without_dyn names u
  parts_without names (Call name ts) = if is_has (called_of name) then object_without names ts else all_without names ts
  parts_without names (Method t name ts) =
      if is_bind t name then bind_without names ts
      else (is_without_dyn names t && by_comprehension (comprehension_in (called_of name))
      (with_type (type_of names t) (λ k. with_some (element_type k) (λ e. bodies_without names e ts)))
      (all_without names ts))
  parts_without names (ListOf ts) = all_without names ts
  parts_without names (MapOf es) = values_without names es

  -- trees one after another
  pub all_without : Names → Asts → Bool
  all_without names End = true
  all_without names (More t ts) = is_without_dyn names t && all_without names ts

  -- the values of a map literal
  pub values_without : Names → Entries → Bool
  values_without names NoEntry = true
  values_without names (Pair t u es) = is_without_dyn names u && values_without names es

  -- `has(object.name)`
  pub object_without : Names → Asts → Bool
  object_without names End = true
  object_without names (More t ts) = object_in names t

  pub object_in : Names → Ast → Bool
  object_in names (Node span form) = object_of names form

  pub object_of : Names → Form → Bool
  object_of names (Member t name) = is_without_dyn names t
  object_of names form = true

  -- what follows the variable of a comprehension, whose type is that of an element
  pub bodies_without : Names → Scalar → Asts → Bool
  bodies_without names e End = true
  bodies_without names e (More x rest) = with_some (variable_of x) (λ name. all_without ((name, kind.Scalar e) ∷ names) rest)

  -- `cel.bind(x, value, body)`
  pub bind_without : Names → Asts → Bool
  bind_without names End = true
  bind_without names (More x rest) = with_some (variable_of x) (λ name. bound_without names name rest)

  pub bound_without : Names → List ℕ → Asts → Bool
  bound_without names name End = true
  bound_without names name (More t rest) =
      is_without_dyn names t && with_type (type_of names t) (λ k. all_without ((name, k) ∷ names) rest)
