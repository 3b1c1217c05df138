-- The functions of the selector language, their names and the tables of their types.
use Rattle.std.specs.Prelude.{ℕ, List, Bool, ◌&&◌, ◌||◌, if◌then◌else◌, Option, Some, None, codes, is_some}
use Rattle.std.specs.Str.{bytes_eq}
use Rattle.cel_tree.specs.declared.types.Scalar.TheVariants as scalar
use Rattle.cel_tree.specs.declared.types.CelType.{CelType}
use Rattle.cel_tree.specs.declared.calls.Function.{Function}
use Rattle.cel_tree.specs.declared.calls.Function.TheVariants.{Size, StartsWith, EndsWith, Contains, Quantity, IsQuantity, Semver, IsSemver, CompareTo, IsLessThan, IsGreaterThan, Add, Sub, Sign, IsInteger, AsInteger, Major, Minor, Patch}
use Rattle.cel_tree.specs.declared.calls.Comprehension.{Comprehension}
use Rattle.cel_tree.specs.declared.calls.Comprehension.TheVariants.{All, Exists, ExistsOne, Filter, Map}
use Rattle.cel_tree.specs.declared.calls.Called.{Called}
use Rattle.cel_tree.specs.declared.calls.Called.TheVariants as called
use Rattle.cel_tree.specs.declared.calls.Arguments.{Arguments}
use Rattle.cel_tree.specs.declared.calls.Arguments.TheVariants as arguments
use Rattle.cel_tree.specs.Types.{int, bool, quantity, semver, accepts, both_accept, when, element_type}

-- the functions of texts and of all that has a size
abbrev pub text_function : List ℕ → Option Function
text_function name =
    if bytes_eq name (codes "size") then Some Size
    else (if bytes_eq name (codes "startsWith") then Some StartsWith
    else (if bytes_eq name (codes "endsWith") then Some EndsWith
    else (if bytes_eq name (codes "contains") then Some Contains
    else None)))

-- the functions that read a text
abbrev pub reading_function : List ℕ → Option Function
reading_function name =
    if bytes_eq name (codes "quantity") then Some Quantity
    else (if bytes_eq name (codes "isQuantity") then Some IsQuantity
    else (if bytes_eq name (codes "semver") then Some Semver
    else (if bytes_eq name (codes "isSemver") then Some IsSemver
    else None)))

-- the functions of quantities and versions that compare
abbrev pub order_function : List ℕ → Option Function
order_function name =
    if bytes_eq name (codes "compareTo") then Some CompareTo
    else (if bytes_eq name (codes "isLessThan") then Some IsLessThan
    else (if bytes_eq name (codes "isGreaterThan") then Some IsGreaterThan
    else None))

-- the other functions of quantities
abbrev pub quantity_function : List ℕ → Option Function
quantity_function name =
    if bytes_eq name (codes "add") then Some Add
    else (if bytes_eq name (codes "sub") then Some Sub
    else (if bytes_eq name (codes "sign") then Some Sign
    else (if bytes_eq name (codes "isInteger") then Some IsInteger
    else (if bytes_eq name (codes "asInteger") then Some AsInteger
    else None))))

-- the parts of a version
abbrev pub version_function : List ℕ → Option Function
version_function name =
    if bytes_eq name (codes "major") then Some Major
    else (if bytes_eq name (codes "minor") then Some Minor
    else (if bytes_eq name (codes "patch") then Some Patch
    else None))

abbrev pub or_else : {A : Type 0} → Option A → Option A → Option A
or_else (Some x) other = Some x
or_else None other = other

abbrev pub function_of : List ℕ → Option Function
function_of name =
    or_else (text_function name) (or_else (reading_function name) (or_else (order_function name) (or_else (quantity_function name) (version_function name))))

abbrev pub comprehension_of : List ℕ → Option Comprehension
comprehension_of name =
    if bytes_eq name (codes "all") then Some All
    else (if bytes_eq name (codes "exists") then Some Exists
    else (if bytes_eq name (codes "exists_one") then Some ExistsOne
    else (if bytes_eq name (codes "filter") then Some Filter
    else (if bytes_eq name (codes "map") then Some Map
    else None))))

-- the functions of the CEL language definition that the profile leaves out
abbrev pub is_left_out : List ℕ → Bool
is_left_out name =
    bytes_eq name (codes "matches") || (bytes_eq name (codes "type") || (bytes_eq name (codes "timestamp") || (bytes_eq name (codes "duration")
    || (bytes_eq name (codes "double") || (bytes_eq name (codes "uint") || bytes_eq name (codes "bytes"))))))

abbrev pub by_comprehension : Option Comprehension → Option Called → Option Called
by_comprehension (Some m) other = Some (called.Comprehension m)
by_comprehension None other = other

abbrev pub by_function : Option Function → Option Called → Option Called
by_function (Some f) other = Some (called.Function f)
by_function None other = other

-- what a name refers to in a call; None if there is no such function
abbrev pub called_of : List ℕ → Option Called
called_of name =
    if bytes_eq name (codes "has") then Some called.Has
    else by_comprehension (comprehension_of name) (by_function (function_of name) (if is_left_out name then Some called.LeftOut else None))

-- `size`
abbrev pub size_type : CelType → Option CelType
size_type k = when (accepts scalar.Text k || is_some (element_type k)) int

-- `function(arguments)`
abbrev pub call_type : Function → Arguments → Option CelType
call_type Size (arguments.One k) = size_type k
call_type Quantity (arguments.One k) = when (accepts scalar.Text k) quantity
call_type IsQuantity (arguments.One k) = when (accepts scalar.Text k) bool
call_type Semver (arguments.One k) = when (accepts scalar.Text k) semver
call_type IsSemver (arguments.One k) = when (accepts scalar.Text k) bool
call_type function given = None

-- two quantities or two versions
abbrev pub both_ordered : CelType → CelType → Bool
both_ordered left right = both_accept scalar.Quantity left right || both_accept scalar.Semver left right

-- `object.function()`
abbrev pub method_alone : Function → CelType → Option CelType
method_alone Size object = size_type object
method_alone Sign object = when (accepts scalar.Quantity object) int
method_alone IsInteger object = when (accepts scalar.Quantity object) bool
method_alone AsInteger object = when (accepts scalar.Quantity object) int
method_alone Major object = when (accepts scalar.Semver object) int
method_alone Minor object = when (accepts scalar.Semver object) int
method_alone Patch object = when (accepts scalar.Semver object) int
method_alone function object = None

-- a quantity with a quantity or an int
abbrev pub are_summed : CelType → CelType → Bool
are_summed object k = accepts scalar.Quantity object && (accepts scalar.Quantity k || accepts scalar.Int k)

-- `object.function(argument)`
abbrev pub method_with : Function → CelType → CelType → Option CelType
method_with StartsWith object k = when (both_accept scalar.Text object k) bool
method_with EndsWith object k = when (both_accept scalar.Text object k) bool
method_with Contains object k = when (both_accept scalar.Text object k) bool
method_with CompareTo object k = when (both_ordered object k) int
method_with IsLessThan object k = when (both_ordered object k) bool
method_with IsGreaterThan object k = when (both_ordered object k) bool
method_with Add object k = when (are_summed object k) quantity
method_with Sub object k = when (are_summed object k) quantity
method_with function object k = None

-- `object.function(arguments)`
abbrev pub method_type : Function → CelType → Arguments → Option CelType
method_type function object arguments.None = method_alone function object
method_type function object (arguments.One k) = method_with function object k
method_type function object (arguments.Two k l) = None
method_type function object arguments.Many = None
