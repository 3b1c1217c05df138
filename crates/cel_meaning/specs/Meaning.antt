-- What an expression means on a device under the names that are bound: a value, or an error. Evaluation
-- goes from left to right, operands before their operation. The first error is the tree's, but for those of
-- the sides of `&&` and `||` and of the bodies of `all` and `exists`, by their tables. What has no meaning by
-- the tables of types is NoOverload.
use Rattle.std.specs.Prelude.{ℕ, List, [], ◌∷◌, Bool, false, Option, Some, None, Result, Ok, Err, if◌then◌else◌}
use Rattle.std.specs.BTreeMap.{insert_entry}
use Rattle.cel_tree.specs.declared.tree.BinaryOp.{BinaryOp}
use Rattle.cel_tree.specs.declared.calls.Comprehension.{Comprehension}
use Rattle.cel_tree.specs.declared.calls.Called.{Called}
use Rattle.cel_tree.specs.declared.calls.Called.TheVariants as called
use Rattle.cel_tree.specs.Ast.{Ast, Node, Form, Literal', Ident, Unary, Binary, Conditional, Member, Index, Call, Method, ListOf, MapOf, Asts, End, More, Entries, NoEntry, Pair}
use Rattle.cel_tree.specs.Calls.{called_of}
use Rattle.cel_tree.specs.Scopes.{look_up, is_device}
use Rattle.cel_tree.specs.Typing.{is_bind, is_has, is_end, variable_of, comprehension_in}
use Rattle.cel_value.specs.declared.value.Single.{Single}
use Rattle.cel_value.specs.declared.value.Key.{Key}
use Rattle.cel_value.specs.declared.value.Value.{Value}
use Rattle.cel_value.specs.declared.value.Value.TheVariants as value
use Rattle.cel_value.specs.declared.error.EvalError.{EvalError}
use Rattle.cel_value.specs.declared.error.EvalError.TheVariants.{NoOverload}
use Rattle.cel_value.specs.Device.{Device}
use Rattle.cel_value.specs.Values.{◌>>=◌, constant_of}
use Rattle.cel_value.specs.Operators.{unary_of, binary_of}
use Rattle.cel_value.specs.Lookups.{key_cmp, device_member_of, member_of, has_of, index_of, elements_of}
use Rattle.cel_value.specs.Functions.{call_of, method_of}
use Rattle.cel_meaning.specs.declared.connective.Connective.{Connective}
use Rattle.cel_meaning.specs.Folds.{tested, as_single, as_key, as_value, as_list, as_map, connective_of, joined, comprehended}

-- the names that are bound with their values, the innermost first
abbrev pub Bindings : Type 0
Bindings = List (List ℕ × Value)

abbrev pub named : Option Value → Result Value EvalError
named (Some v) = Ok v
named None = Err NoOverload

-- a value without a name of its own, under a name
abbrev pub bound_to : List ℕ → Single → Bindings → Bindings
bound_to name x names = (name, value.Single x) ∷ names

-- `&&` and `||` by their tables; of another operation both operands, the left one first
abbrev pub operation : Device → Option Connective → BinaryOp → Result Value EvalError → Result Value EvalError → Result Value EvalError
operation device (Some c) o left right = as_value (joined c (tested left) (tested right))
operation device None o left right = left >>= λ x. right >>= λ y. binary_of device o x y

-- a function, by what its name refers to
abbrev pub called_on : Device → Option Called → List Value → Result Value EvalError
called_on device (Some (called.Function f)) given = call_of device f given
called_on device (Some (called.Comprehension c)) given = Err NoOverload
called_on device (Some called.Has) given = Err NoOverload
called_on device (Some called.LeftOut) given = Err NoOverload
called_on device None given = Err NoOverload

-- the same of a method
abbrev pub method_on : Device → Option Called → Value → List Value → Result Value EvalError
method_on device (Some (called.Function f)) object given = method_of device f object given
method_on device (Some (called.Comprehension c)) object given = Err NoOverload
method_on device (Some called.Has) object given = Err NoOverload
method_on device (Some called.LeftOut) object given = Err NoOverload
method_on device None object given = Err NoOverload

-- a comprehension, or else another method
abbrev pub by_comprehension : {A : Type 0} → Option Comprehension → (Comprehension → A) → A → A
by_comprehension (Some c) f other = f c
by_comprehension None f other = other

-- one tree and no other
abbrev pub is_alone : Asts → Bool
is_alone End = false
is_alone (More t rest) = is_end rest

-- on with the variable of a macro
abbrev pub with_variable : Option (List ℕ) → (List ℕ → Result Value EvalError) → Result Value EvalError
with_variable (Some name) f = f name
with_variable None f = Err NoOverload

abbrev mutual
  pub means : Device → Bindings → Ast → Result Value EvalError
  means device names (Node span form) = form_means device names form

  pub form_means : Device → Bindings → Form → Result Value EvalError
  form_means device names (Literal' c) = Ok (constant_of c)
  form_means device names (Ident name) = named (look_up name names)
  form_means device names (Unary o t) = means device names t >>= λ x. unary_of o x
  form_means device names (Binary o t u) = operation device (connective_of o) o (means device names t) (means device names u)
  form_means device names (Conditional t u v) = tested (means device names t) >>= λ b. if b then means device names u else means device names v
  form_means device names (Member t name) =
      if is_device names t then device_member_of device name
      else (means device names t >>= λ x. member_of device x name)
  form_means device names (Index t u) = means device names t >>= λ x. means device names u >>= λ y. index_of device x y
  form_means device names (Call name ts) =
      if is_has (called_of name) then has_means device names ts
      else (each device names ts >>= λ given. called_on device (called_of name) given)
  form_means device names (Method t name ts) =
      if is_bind t name then bind_means device names ts
      else (means device names t >>= λ x. by_comprehension (comprehension_in (called_of name))
      (λ c. elements_of device x >>= λ xs. comprehension_means device names c xs ts)
      (each device names ts >>= λ given. method_on device (called_of name) x given))
  form_means device names (ListOf ts) = as_list (items_of device names ts)
  form_means device names (MapOf es) = as_map (entries_of device names [] es)

  -- the values of arguments, one after another
  pub each : Device → Bindings → Asts → Result (List Value) EvalError
  each device names End = Ok []
  each device names (More t ts) = means device names t >>= λ x. each device names ts >>= λ xs. Ok (x ∷ xs)

  -- the items of a list literal
  pub items_of : Device → Bindings → Asts → Result (List Single) EvalError
  items_of device names End = Ok []
  items_of device names (More t ts) = as_single (means device names t) >>= λ x. items_of device names ts >>= λ xs. Ok (x ∷ xs)

  -- the entries of a map literal, beside those before them
  pub entries_of : Device → Bindings → List (Key × Single) → Entries → Result (List (Key × Single)) EvalError
  entries_of device names before NoEntry = Ok before
  entries_of device names before (Pair t u es) = as_key (means device names t) >>= λ key.
      as_single (means device names u) >>= λ x. entries_of device names (insert_entry key_cmp before key x) es

  -- `has(object.name)`
  pub has_means : Device → Bindings → Asts → Result Value EvalError
  has_means device names End = Err NoOverload
  has_means device names (More t rest) = if is_end rest then has_in device names t else Err NoOverload

  pub has_in : Device → Bindings → Ast → Result Value EvalError
  has_in device names (Node span form) = has_form device names form

  pub has_form : Device → Bindings → Form → Result Value EvalError
  has_form device names (Member t name) = if is_device names t then Err NoOverload else (means device names t >>= λ x. has_of device x name)
  has_form device names form = Err NoOverload

  -- `range.all(x, ..)`: the variable, and the bodies after it
  pub comprehension_means : Device → Bindings → Comprehension → List Single → Asts → Result Value EvalError
  comprehension_means device names c xs End = Err NoOverload
  comprehension_means device names c xs (More x rest) = with_variable (variable_of x) (λ name. comprehended c (bodies_of device names name rest) xs)

  -- what the bodies mean by the value of the variable
  pub bodies_of : Device → Bindings → List ℕ → Asts → List (Single → Result Value EvalError)
  bodies_of device names name End = []
  bodies_of device names name (More t ts) = (λ x. means device (bound_to name x names) t) ∷ bodies_of device names name ts

  -- `cel.bind(x, value, body)`
  pub bind_means : Device → Bindings → Asts → Result Value EvalError
  bind_means device names End = Err NoOverload
  bind_means device names (More x rest) = with_variable (variable_of x) (λ name. bound_means device names name rest)

  pub bound_means : Device → Bindings → List ℕ → Asts → Result Value EvalError
  bound_means device names name End = Err NoOverload
  bound_means device names name (More t rest) =
      if is_alone rest then (means device names t >>= λ v. body_means device ((name, v) ∷ names) rest) else Err NoOverload

  pub body_means : Device → Bindings → Asts → Result Value EvalError
  body_means device names End = Err NoOverload
  body_means device names (More t rest) = means device names t
