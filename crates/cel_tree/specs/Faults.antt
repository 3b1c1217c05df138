-- The tables of types with their faults.
use Rattle.std.specs.Prelude.{if◌then◌else◌, Option, Some, None, Result, Ok, Err}
use Rattle.cel_tree.specs.declared.tree.Span.{Span}
use Rattle.cel_tree.specs.declared.types.Scalar.{Scalar}
use Rattle.cel_tree.specs.declared.types.Scalar.TheVariants as scalar
use Rattle.cel_tree.specs.declared.types.CelType.{CelType}
use Rattle.cel_tree.specs.declared.types.CelType.TheVariants as kind
use Rattle.cel_tree.specs.declared.calls.Comprehension.{Comprehension}
use Rattle.cel_tree.specs.declared.calls.Comprehension.TheVariants.{All, Exists, ExistsOne, Filter, Map}
use Rattle.cel_tree.specs.declared.calls.Called.{Called}
use Rattle.cel_tree.specs.declared.calls.Called.TheVariants as called
use Rattle.cel_tree.specs.declared.calls.Arguments.{Arguments}
use Rattle.cel_tree.specs.declared.calls.Arguments.TheVariants as arguments
use Rattle.cel_tree.specs.declared.fault.Fault.{Fault}
use Rattle.cel_tree.specs.declared.fault.Fault.TheVariants.{NotSupported, NoSuchName, NoOverload}
use Rattle.cel_tree.specs.Types.{bool, accepts, same_scalar}
use Rattle.cel_tree.specs.Calls.{call_type, method_type}

-- on with what was found, or the fault
infixl 4 ◌>>=◌
abbrev pub ◌>>=◌ : {A B : Type 0} → Result A Fault → (A → Result B Fault) → Result B Fault
Ok x >>= f = f x
Err e >>= f = Err e

abbrev pub row : Span → Option CelType → Result CelType Fault
row span (Some k) = Ok k
row span None = Err (NoOverload span)

-- an item of a list or a value of a map is a scalar
abbrev pub item_type : Span → CelType → Result Scalar Fault
item_type span (kind.Scalar s) = Ok s
item_type span (kind.List s) = Err (NotSupported span)
item_type span (kind.Map k v) = Err (NotSupported span)
item_type span (kind.Domains f) = Err (NoOverload span)
item_type span (kind.Entries f) = Err (NoOverload span)

-- items that differ in type are of dyn
abbrev pub joined : Scalar → Option Scalar → Scalar
joined first (Some rest) = if same_scalar first rest then first else scalar.Dyn
joined first None = first

abbrev pub list_of : Span → CelType → Result CelType Fault
list_of span item = item_type span item >>= λ s. Ok (kind.List s)

-- the fault unless the test is bool or dyn
abbrev pub tested : Span → CelType → Result CelType Fault → Result CelType Fault
tested span test result = if accepts scalar.Bool test then result else Err (NoOverload span)

-- `map(x, item)` and `map(x, test, item)`
abbrev pub mapped_type : Span → Arguments → Result CelType Fault
mapped_type span (arguments.One item) = list_of span item
mapped_type span (arguments.Two test item) = tested span test (list_of span item)
mapped_type span bodies = Err (NoOverload span)

-- the other comprehensions have one body, which is a test
abbrev pub one_test : Span → Arguments → CelType → Result CelType Fault
one_test span (arguments.One test) result = tested span test (Ok result)
one_test span bodies result = Err (NoOverload span)

abbrev pub comprehension_type : Span → Comprehension → Scalar → Arguments → Result CelType Fault
comprehension_type span All element bodies = one_test span bodies bool
comprehension_type span Exists element bodies = one_test span bodies bool
comprehension_type span ExistsOne element bodies = one_test span bodies bool
comprehension_type span Filter element bodies = one_test span bodies (kind.List element)
comprehension_type span Map element bodies = mapped_type span bodies

-- a call that is no macro
abbrev pub called_type : Span → Option Called → Arguments → Result CelType Fault
called_type span (Some (called.Function f)) given = row span (call_type f given)
called_type span (Some called.LeftOut) given = Err (NotSupported span)
called_type span (Some called.Has) given = Err (NoOverload span)
called_type span (Some (called.Comprehension c)) given = Err (NoOverload span)
called_type span None given = Err (NoSuchName span)

-- a method that is no macro
abbrev pub method_called_type : Span → Option Called → CelType → Arguments → Result CelType Fault
method_called_type span (Some (called.Function f)) object given = row span (method_type f object given)
method_called_type span (Some called.LeftOut) object given = Err (NotSupported span)
method_called_type span (Some called.Has) object given = Err (NoOverload span)
method_called_type span (Some (called.Comprehension c)) object given = Err (NoOverload span)
method_called_type span None object given = Err (NoSuchName span)
