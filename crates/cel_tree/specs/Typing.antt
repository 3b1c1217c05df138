-- The type of a tree, or its first fault from the left, operands before their operation.
use Rattle.std.specs.Prelude.{ℕ, List, [], ◌∷◌, ◌++◌, Bool, true, false, not, ◌&&◌, if◌then◌else◌, Option, Some, None, Result, Ok, Err, codes, is_some, unwrap_or, option_and_then}
use Rattle.std.specs.Ordering.{int_eq}
use Rattle.std.specs.List.{list_all}
use Rattle.std.proofs.Math.Bool.{beq}
use Rattle.std.specs.Str.{bytes_eq}
use Rattle.cel_tree.specs.declared.tree.Span.{Span}
use Rattle.cel_tree.specs.declared.types.Scalar.{Scalar}
use Rattle.cel_tree.specs.declared.types.Scalar.TheVariants as scalar
use Rattle.cel_tree.specs.declared.types.KeyType.{KeyType}
use Rattle.cel_tree.specs.declared.types.KeyType.TheVariants as key
use Rattle.cel_tree.specs.declared.types.Facet.TheVariants.{Attributes, Capacities}
use Rattle.cel_tree.specs.declared.types.CelType.{CelType}
use Rattle.cel_tree.specs.declared.types.CelType.TheVariants as kind
use Rattle.cel_tree.specs.declared.calls.Comprehension.{Comprehension}
use Rattle.cel_tree.specs.declared.calls.Called.{Called}
use Rattle.cel_tree.specs.declared.calls.Called.TheVariants as called
use Rattle.cel_tree.specs.declared.calls.Arguments.{Arguments}
use Rattle.cel_tree.specs.declared.calls.Arguments.TheVariants as arguments
use Rattle.cel_tree.specs.declared.fault.Fault.{Fault}
use Rattle.cel_tree.specs.declared.fault.Fault.TheVariants.{NoSuchName, NoOverload}
use Rattle.cel_tree.specs.Ast.{Constant, Null, Truth, Whole, Bytes, Ast, Node, Form, Literal', Ident, Unary, Binary, Conditional, Member, Index, Call, Method, ListOf, MapOf, Asts, End, More, Entries, NoEntry, Pair, span_of}
use Rattle.cel_tree.specs.Scopes.{look_up, is_ident, is_device}
use Rattle.cel_tree.specs.Types.{int, bool, string, null, unary_type, binary_type, conditional_type, index_type, member_type, element_type}
use Rattle.cel_tree.specs.Calls.{called_of}
use Rattle.cel_tree.specs.Faults.{◌>>=◌, row, item_type, joined, comprehension_type, called_type, method_called_type}

-- the names in scope with their types, the innermost first
abbrev pub Names : Type 0
Names = List (List ℕ × CelType)

abbrev pub constant_type : Constant → CelType
constant_type Null = null
constant_type (Truth b) = bool
constant_type (Whole n) = int
constant_type (Bytes s) = string

-- a name alone; `device` has no type of its own
abbrev pub name_type : Span → List ℕ → Option CelType → Result CelType Fault
name_type span name (Some k) = Ok k
name_type span name None = Err (if bytes_eq name (codes "device") then NoOverload span else NoSuchName span)

-- `cel.bind`
abbrev pub is_bind : Ast → List ℕ → Bool
is_bind t name = is_ident (codes "cel") t && bytes_eq name (codes "bind")

-- the members of `device`
abbrev pub device_type : Span → List ℕ → Result CelType Fault
device_type span name =
    if bytes_eq name (codes "driver") then Ok string
    else (if bytes_eq name (codes "attributes") then Ok (kind.Domains Attributes)
    else (if bytes_eq name (codes "capacity") then Ok (kind.Domains Capacities)
    else Err (NoSuchName span)))

-- the variable of a macro
abbrev pub variable_of : Ast → Option (List ℕ)
variable_of (Node s (Ident name)) = Some name
variable_of (Node s f) = None

abbrev pub is_has : Option Called → Bool
is_has (Some called.Has) = true
is_has c = false

abbrev pub comprehension_in : Option Called → Option Comprehension
comprehension_in (Some (called.Comprehension c)) = Some c
comprehension_in c = None

-- one more type before the others
abbrev pub with_first : CelType → Arguments → Arguments
with_first k arguments.None = arguments.One k
with_first k (arguments.One l) = arguments.Two k l
with_first k (arguments.Two l m) = arguments.Many
with_first k arguments.Many = arguments.Many

-- whether there is such a key in what has keys, domains or ids
abbrev pub has_type : Span → CelType → Result CelType Fault
has_type span object = row span (member_type object) >>= λ k. Ok bool

-- the body of `cel.bind`
abbrev pub body_type : Span → Arguments → Result CelType Fault
body_type span (arguments.One k) = Ok k
body_type span given = Err (NoOverload span)

-- The keys of a map literal are literals of one type, and no two are alike.
abbrev pub key_type : Constant → Option KeyType
key_type Null = None
key_type (Truth b) = Some key.Bool
key_type (Whole n) = Some key.Int
key_type (Bytes s) = Some key.Text

-- literals of one type that aren't alike
abbrev pub beside : Constant → Constant → Bool
beside (Truth a) (Truth b) = not (beq a b)
beside (Whole m) (Whole n) = not (int_eq m n)
beside (Bytes s) (Bytes t) = not (bytes_eq s t)
beside c d = false

abbrev pub literal_of : Ast → Option Constant
literal_of (Node s (Literal' c)) = Some c
literal_of (Node s f) = None

abbrev pub key_of : Span → List Constant → Option Constant → Result Constant Fault
key_of span earlier None = Err (NoOverload span)
key_of span earlier (Some c) = if is_some (key_type c) && list_all (beside c) earlier then Ok c else Err (NoOverload span)

-- the type of a map literal's keys; of the empty one, string
abbrev pub keys_type : Entries → KeyType
keys_type NoEntry = key.Text
keys_type (Pair k v es) = unwrap_or (option_and_then key_type (literal_of k)) key.Text

abbrev pub list_type : Option Scalar → CelType
list_type items = kind.List (unwrap_or items scalar.Dyn)

abbrev pub map_type : KeyType → Option Scalar → CelType
map_type k values = kind.Map k (unwrap_or values scalar.Dyn)

-- on with the variable of a macro
abbrev pub with_variable : Span → Option (List ℕ) → (List ℕ → Result CelType Fault) → Result CelType Fault
with_variable span (Some name) f = f name
with_variable span None f = Err (NoOverload span)

abbrev pub elements : Span → Option Scalar → (Scalar → Result CelType Fault) → Result CelType Fault
elements span (Some e) f = f e
elements span None f = Err (NoOverload span)

-- on with the elements of a range
abbrev pub over : Span → CelType → (Scalar → Result CelType Fault) → Result CelType Fault
over span range f = elements span (element_type range) f

-- a comprehension, or else another method
abbrev pub by_comprehension : Option Comprehension → (Comprehension → Result CelType Fault) → Result CelType Fault → Result CelType Fault
by_comprehension (Some c) f other = f c
by_comprehension None f other = other

abbrev pub is_end : Asts → Bool
is_end End = true
is_end (More t ts) = false

abbrev mutual
  pub type_of : Names → Ast → Result CelType Fault
  type_of names (Node span form) = form_type names span form

  pub form_type : Names → Span → Form → Result CelType Fault
  form_type names span (Literal' c) = Ok (constant_type c)
  form_type names span (Ident name) = name_type span name (look_up name names)
  form_type names span (Unary op t) = type_of names t >>= λ k. row span (unary_type op k)
  form_type names span (Binary op t u) = type_of names t >>= λ k. type_of names u >>= λ l. row span (binary_type op k l)
  form_type names span (Conditional t u v) = type_of names t >>= λ k. type_of names u >>= λ l. type_of names v >>= λ m. row span (conditional_type k l m)
  form_type names span (Member t name) =
      if is_device names t then device_type span name
      else (type_of names t >>= λ k. row span (member_type k))
  form_type names span (Index t u) = type_of names t >>= λ k. type_of names u >>= λ l. row span (index_type k l)
  form_type names span (Call name ts) =
      if is_has (called_of name) then has_of names span ts
      else (types_of names ts >>= λ given. called_type span (called_of name) given)
  form_type names span (Method t name ts) =
      if is_bind t name then bind_of names span ts
      else (type_of names t >>= λ k. by_comprehension (comprehension_in (called_of name))
      (λ c. over span k (λ e. comprehension_of names span c e ts))
      (types_of names ts >>= λ given. method_called_type span (called_of name) k given))
  form_type names span (ListOf ts) = items_of names ts >>= λ items. Ok (list_type items)
  form_type names span (MapOf es) = values_of names [] es >>= λ values. Ok (map_type (keys_type es) values)

  -- `has(object.name)`
  pub has_of : Names → Span → Asts → Result CelType Fault
  has_of names span End = Err (NoOverload span)
  has_of names span (More t rest) = if is_end rest then has_in names span t else Err (NoOverload span)

  pub has_in : Names → Span → Ast → Result CelType Fault
  has_in names span (Node place form) = has_form names span form

  pub has_form : Names → Span → Form → Result CelType Fault
  has_form names span (Member t name) = if is_device names t then Err (NoOverload span) else (type_of names t >>= λ k. has_type span k)
  has_form names span form = Err (NoOverload span)

  -- `range.all(x, ..)`: the variable, and what follows it under that name
  pub comprehension_of : Names → Span → Comprehension → Scalar → Asts → Result CelType Fault
  comprehension_of names span c e End = Err (NoOverload span)
  comprehension_of names span c e (More x rest) = with_variable span (variable_of x)
      (λ name. types_of ((name, kind.Scalar e) ∷ names) rest >>= λ bodies. comprehension_type span c e bodies)

  -- `cel.bind(x, value, body)`
  pub bind_of : Names → Span → Asts → Result CelType Fault
  bind_of names span End = Err (NoOverload span)
  bind_of names span (More x rest) = with_variable span (variable_of x) (λ name. bound_of names span name rest)

  pub bound_of : Names → Span → List ℕ → Asts → Result CelType Fault
  bound_of names span name End = Err (NoOverload span)
  bound_of names span name (More t rest) = type_of names t >>= λ k. types_of ((name, k) ∷ names) rest >>= λ given. body_type span given

  -- arguments, one after another
  pub types_of : Names → Asts → Result Arguments Fault
  types_of names End = Ok arguments.None
  types_of names (More t ts) = type_of names t >>= λ k. types_of names ts >>= λ given. Ok (with_first k given)

  -- the items of a list literal
  pub items_of : Names → Asts → Result (Option Scalar) Fault
  items_of names End = Ok None
  items_of names (More t ts) = type_of names t >>= λ k. item_type (span_of t) k >>= λ s. items_of names ts >>= λ rest. Ok (Some (joined s rest))

  -- the values of a map literal, after the keys of those before
  pub values_of : Names → List Constant → Entries → Result (Option Scalar) Fault
  values_of names earlier NoEntry = Ok None
  values_of names earlier (Pair k t es) = key_of (span_of k) earlier (literal_of k) >>= λ c. type_of names t >>= λ l.
      item_type (span_of t) l >>= λ s. values_of names (earlier ++ c ∷ []) es >>= λ rest. Ok (Some (joined s rest))
