-- What the evaluation of an expression may take at most, before there is a device: the weight and the
-- number of elements of its value, and its steps. The tables are this project's own.
use Rattle.std.specs.Prelude.{ℕ, ◌+◌, ◌-◌, ◌*◌, ◌^◌, min, max, length, sum_by, List, [], ◌∷◌, Option, Some, None, Result, Ok, Err, if◌then◌else◌, unwrap_or}
use Rattle.cel_tree.specs.declared.tree.Span.{Span}
use Rattle.cel_tree.specs.declared.tree.UnaryOp.{UnaryOp}
use Rattle.cel_tree.specs.declared.tree.BinaryOp.{BinaryOp}
use Rattle.cel_tree.specs.declared.tree.BinaryOp.TheVariants as op
use Rattle.cel_tree.specs.declared.types.Scalar.{Scalar}
use Rattle.cel_tree.specs.declared.types.Scalar.TheVariants as scalar
use Rattle.cel_tree.specs.declared.types.KeyType.{KeyType}
use Rattle.cel_tree.specs.declared.types.Facet.TheVariants.{Attributes, Capacities}
use Rattle.cel_tree.specs.declared.types.CelType.{CelType}
use Rattle.cel_tree.specs.declared.types.CelType.TheVariants as kind
use Rattle.cel_tree.specs.declared.calls.Comprehension.{Comprehension}
use Rattle.cel_tree.specs.declared.calls.Comprehension.TheVariants.{All, Exists, ExistsOne, Filter, Map}
use Rattle.cel_tree.specs.declared.calls.Called.{Called}
use Rattle.cel_tree.specs.declared.calls.Arguments.{Arguments}
use Rattle.cel_tree.specs.declared.calls.Arguments.TheVariants as arguments
use Rattle.cel_tree.specs.declared.fault.Fault.{Fault}
use Rattle.cel_tree.specs.Ast.{Constant, Null, Truth, Whole, Bytes, Ast, Node, Form, Literal', Ident, Unary, Binary, Conditional, Member, Index, Call, Method, ListOf, MapOf, Asts, End, More, Entries, NoEntry, Pair}
use Rattle.cel_tree.specs.Scopes.{look_up, is_device}
use Rattle.cel_tree.specs.Types.{bool, any, unary_type, binary_type, conditional_type, member_type, index_type, element_type}
use Rattle.cel_tree.specs.Calls.{called_of}
use Rattle.cel_tree.specs.Faults.{row, joined, comprehension_type, called_type, method_called_type}
use Rattle.cel_tree.specs.Typing.{is_bind, is_has, constant_type, device_type, variable_of, comprehension_in, with_first, keys_type, list_type, map_type}
use Rattle.cel_tree.specs.Typing as typing

-- The bounds of an expression: its type, the greatest weight and the greatest number of elements of
-- its value, and the most steps of its evaluation.
pub record Bounds : Type 0 where
  pub kind : CelType
  pub weight : ℕ
  pub number : ℕ
  pub steps : ℕ

-- the names in scope with the bounds of their values, the innermost first
abbrev pub Names : Type 0
Names = List (List ℕ × Bounds)

-- the names in scope with the types of their values
abbrev pub kinds : Names → typing.Names
kinds [] = []
kinds (b ∷ bs) = (b.0, b.1.kind) ∷ kinds bs

-- what has no type counts as dyn
abbrev pub typed : Result CelType Fault → CelType
typed (Ok k) = k
typed (Err fault) = any

-- the weight of a value of the type where the type alone decides it, or else the one given
abbrev pub weight_by : CelType → ℕ → ℕ
weight_by (kind.Scalar scalar.Int) weight = 1
weight_by (kind.Scalar scalar.Bool) weight = 1
weight_by (kind.Scalar scalar.Null) weight = 1
weight_by (kind.Scalar scalar.Quantity) weight = 1
weight_by (kind.Scalar scalar.Semver) weight = 1
weight_by (kind.Scalar scalar.Text) weight = weight
weight_by (kind.Scalar scalar.Dyn) weight = weight
weight_by (kind.List s) weight = weight
weight_by (kind.Map k v) weight = weight
weight_by (kind.Domains f) weight = 2049
weight_by (kind.Entries f) weight = 2049

-- the same of the number of elements
abbrev pub number_by : CelType → ℕ → ℕ
number_by (kind.Scalar s) number = number
number_by (kind.List s) number = number
number_by (kind.Map k v) number = number
number_by (kind.Domains f) number = 32
number_by (kind.Entries f) number = 32

abbrev pub bounds : CelType → ℕ → ℕ → ℕ → Bounds
bounds k weight number steps =
    record { kind = k; weight = weight_by k weight; number = number_by k number; steps = steps }

-- the bounds used where there is no expression
unfoldable pub nothing : Bounds
nothing = bounds any 1 0 1

-- A literal takes one step. A text weighs one and its bytes.
abbrev pub constant_weight : Constant → ℕ
constant_weight Null = 1
constant_weight (Truth b) = 1
constant_weight (Whole n) = 1
constant_weight (Bytes s) = 1 + length s

unfoldable pub constant_bounds : Constant → Bounds
constant_bounds c = bounds (constant_type c) (constant_weight c) 0 1

-- A name takes one step, and is what its value is.
unfoldable pub name_bounds : Option Bounds → Bounds
name_bounds None = bounds any 1 0 1
name_bounds (Some value) = record value { steps = 1 }

-- `!` and unary `-` take one step and their operand's.
unfoldable pub unary_bounds : Span → UnaryOp → Bounds → Bounds
unary_bounds span o x = bounds (typed (row span (unary_type o x.kind))) 1 0 (1 + x.steps)

-- the steps of an operation for the weights of its operands
abbrev pub weighing : BinaryOp → ℕ → ℕ
weighing op.Or weights = 0
weighing op.And weights = 0
weighing op.Less weights = weights
weighing op.LessEq weights = weights
weighing op.GreaterEq weights = weights
weighing op.Greater weights = weights
weighing op.Equal weights = weights
weighing op.NotEqual weights = weights
weighing op.In weights = weights
weighing op.Add weights = weights
weighing op.Subtract weights = 0
weighing op.Multiply weights = 0
weighing op.Divide weights = 0
weighing op.Remainder weights = 0

-- An operation takes one step, those of both operands, and the operands' weights where it may look at
-- all of them. Its value is an int or a bool, or of `+` at most both together.
unfoldable pub binary_bounds : Span → BinaryOp → Bounds → Bounds → Bounds
binary_bounds span o x y =
    bounds
    (typed (row span (binary_type o x.kind y.kind)))
    (x.weight + y.weight)
    (x.number + y.number)
    (1 + (x.steps + y.steps) + weighing o (x.weight + y.weight))

-- `test ? then : otherwise` takes one step, the test's, and the dearer branch's.
unfoldable pub conditional_bounds : Span → Bounds → Bounds → Bounds → Bounds
conditional_bounds span test x y =
    bounds
    (typed (row span (conditional_type test.kind x.kind y.kind)))
    (max x.weight y.weight)
    (max x.number y.number)
    (1 + (test.steps + max x.steps y.steps))

-- the weight of a part of a value: 257 of an attribute, or else at most that of the value
abbrev pub part_weight : CelType → ℕ → ℕ
part_weight (kind.Scalar s) weight = weight
part_weight (kind.List s) weight = weight
part_weight (kind.Map k v) weight = weight
part_weight (kind.Domains f) weight = weight
part_weight (kind.Entries Attributes) weight = 257
part_weight (kind.Entries Capacities) weight = weight

-- `object.name` takes one step and the object's.
unfoldable pub member_bounds : Span → Bounds → Bounds
member_bounds span x =
    bounds (typed (row span (member_type x.kind))) (part_weight x.kind x.weight) 0 (1 + x.steps)

-- `object[index]` takes one step and those of both.
unfoldable pub index_bounds : Span → Bounds → Bounds → Bounds
index_bounds span x y =
    bounds (typed (row span (index_type x.kind y.kind))) (part_weight x.kind x.weight) 0 (1 + (x.steps + y.steps))

-- `device.driver` weighs at most 64. A member of `device` takes one step, and `device` one.
unfoldable pub device_bounds : Span → List ℕ → Bounds
device_bounds span name = bounds (typed (device_type span name)) 64 0 2

abbrev pub weights_of : List Bounds → ℕ
weights_of xs = sum_by (λ x. x.weight) xs

abbrev pub steps_of : List Bounds → ℕ
steps_of xs = sum_by (λ x. x.steps) xs

abbrev pub arguments_of : List Bounds → Arguments
arguments_of [] = arguments.None
arguments_of (x ∷ xs) = with_first x.kind (arguments_of xs)

-- A call takes one step, those of its operands, and their weights. Its value is an int, a bool, a
-- quantity or a version.
unfoldable pub plain_bounds : Result CelType Fault → List Bounds → Bounds
plain_bounds k xs = bounds (typed k) 1 0 (1 + (steps_of xs + weights_of xs))

-- `has(object.name)` takes one step and the object's, as `object.name` does.
unfoldable pub has_bounds : List Bounds → Bounds
has_bounds xs = bounds bool 1 0 (steps_of xs)

abbrev pub call_bounds : Span → Option Called → List Bounds → Bounds
call_bounds span name xs =
    if is_has name then has_bounds xs else plain_bounds (called_type span name (arguments_of xs)) xs

abbrev pub method_bounds : Span → Option Called → Bounds → List Bounds → Bounds
method_bounds span name x xs = plain_bounds (method_called_type span name x.kind (arguments_of xs)) (x ∷ xs)

abbrev pub element_of : CelType → Scalar
element_of range = unwrap_or (element_type range) scalar.Dyn

-- the weight of a range's element: 64 of a domain or an id, or else at most that of the range
abbrev pub element_weight : CelType → ℕ → ℕ
element_weight (kind.Scalar s) weight = weight
element_weight (kind.List s) weight = weight
element_weight (kind.Map k v) weight = weight
element_weight (kind.Domains f) weight = 64
element_weight (kind.Entries f) weight = 64

-- the value of a comprehension's variable
unfoldable pub element_bounds : Bounds → Bounds
element_bounds range = bounds (kind.Scalar (element_of range.kind)) (element_weight range.kind range.weight) 0 1

-- the weight of the last of some expressions
abbrev pub last_weight : List Bounds → Option ℕ
last_weight [] = None
last_weight (x ∷ xs) = Some (unwrap_or (last_weight xs) x.weight)

-- the weight of the value of a comprehension: of `filter` at most the range, of `map` one and for each
-- element its last body
abbrev pub gathered_weight : Comprehension → Bounds → List Bounds → ℕ
gathered_weight All range bodies = 1
gathered_weight Exists range bodies = 1
gathered_weight ExistsOne range bodies = 1
gathered_weight Filter range bodies = range.weight
gathered_weight Map range bodies = 1 + range.number * unwrap_or (last_weight bodies) 0

-- A comprehension takes one step, the range's, and for each element two and its bodies'.
unfoldable pub comprehension_bounds : Span → Comprehension → Bounds → List Bounds → Bounds
comprehension_bounds span c range bodies =
    bounds
    (typed (comprehension_type span c (element_of range.kind) (arguments_of bodies)))
    (gathered_weight c range bodies)
    range.number
    (1 + (range.steps + range.number * (2 + steps_of bodies)))

-- `cel.bind(x, value, body)` takes one step, the value's and the body's, and is what the body is.
unfoldable pub bind_bounds : Bounds → List Bounds → Bounds
bind_bounds value [] = nothing
bind_bounds value (body ∷ rest) = record body { steps = 1 + (value.steps + body.steps) }

-- the variable of a macro
abbrev pub variable_in : Asts → List ℕ
variable_in End = []
variable_in (More x rest) = unwrap_or (variable_of x) []

abbrev pub scalar_in : CelType → Scalar
scalar_in (kind.Scalar s) = s
scalar_in k = scalar.Dyn

-- the type of elements together
abbrev pub elements_type : List Bounds → Option Scalar
elements_type [] = None
elements_type (x ∷ xs) = Some (joined (scalar_in x.kind) (elements_type xs))

-- A list takes one step and its elements', and weighs one and what they weigh.
unfoldable pub list_bounds : List Bounds → Bounds
list_bounds xs =
    bounds (list_type (elements_type xs)) (1 + weights_of xs) (length xs) (1 + steps_of xs)

-- A map takes one step and those of its keys and values, and weighs one and what these weigh.
unfoldable pub map_bounds : KeyType → List Bounds → List Bounds → Bounds
map_bounds k keys values =
    bounds
    (map_type k (elements_type values))
    (1 + (weights_of keys + weights_of values))
    (length keys)
    (1 + (steps_of keys + steps_of values))

-- a comprehension, or else another method
abbrev pub by_comprehension : Option Comprehension → (Comprehension → Bounds) → Bounds → Bounds
by_comprehension (Some c) f other = f c
by_comprehension None f other = other

abbrev mutual
  pub bounds_of : Names → Ast → Bounds
  bounds_of names (Node span form) = form_bounds names span form

  pub form_bounds : Names → Span → Form → Bounds
  form_bounds names span (Literal' c) = constant_bounds c
  form_bounds names span (Ident name) = name_bounds (look_up name names)
  form_bounds names span (Unary o t) = unary_bounds span o (bounds_of names t)
  form_bounds names span (Binary o t u) = binary_bounds span o (bounds_of names t) (bounds_of names u)
  form_bounds names span (Conditional t u v) = conditional_bounds span (bounds_of names t) (bounds_of names u) (bounds_of names v)
  form_bounds names span (Member t name) =
      if is_device names t then device_bounds span name else member_bounds span (bounds_of names t)
  form_bounds names span (Index t u) = index_bounds span (bounds_of names t) (bounds_of names u)
  form_bounds names span (Call name ts) = call_bounds span (called_of name) (each names ts)
  form_bounds names span (Method t name ts) =
      if is_bind t name then bind_of names (variable_in ts) ts
      else by_comprehension (comprehension_in (called_of name))
      (λ c. comprehension_bounds span c (bounds_of names t) (bodies_of ((variable_in ts, element_bounds (bounds_of names t)) ∷ names) ts))
      (method_bounds span (called_of name) (bounds_of names t) (each names ts))
  form_bounds names span (ListOf ts) = list_bounds (each names ts)
  form_bounds names span (MapOf es) = map_bounds (keys_type es) (keys_of names es) (values_of names es)

  -- trees one after another
  pub each : Names → Asts → List Bounds
  each names End = []
  each names (More t ts) = bounds_of names t ∷ each names ts

  -- what follows the variable of a comprehension, under its name
  pub bodies_of : Names → Asts → List Bounds
  bodies_of names End = []
  bodies_of names (More x rest) = each names rest

  -- `cel.bind(x, value, body)`
  pub bind_of : Names → List ℕ → Asts → Bounds
  bind_of names x End = nothing
  bind_of names x (More variable rest) = bound_of names x rest

  pub bound_of : Names → List ℕ → Asts → Bounds
  bound_of names x End = nothing
  bound_of names x (More t rest) = bind_bounds (bounds_of names t) (each ((x, bounds_of names t) ∷ names) rest)

  pub keys_of : Names → Entries → List Bounds
  keys_of names NoEntry = []
  keys_of names (Pair t u es) = bounds_of names t ∷ keys_of names es

  pub values_of : Names → Entries → List Bounds
  values_of names NoEntry = []
  values_of names (Pair t u es) = bounds_of names u ∷ values_of names es

-- the greatest number of 64 bits
abbrev pub most : ℕ
most = 2 ^ 64 - 1

-- The most steps of an expression, as far as 64 bits count. Sums and products that stop at this number
-- on the way lead to the same estimate.
abbrev pub Estimate : Ast → ℕ
Estimate tree = min (bounds_of [] tree).steps most
