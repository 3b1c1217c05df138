-- The types of the selector language, and the tables of its operators.
use Rattle.std.specs.Prelude.{ℕ, List, ◌++◌, Bool, true, false, ◌==◌, ◌&&◌, ◌||◌, if◌then◌else◌, Option, Some, None, codes}
use Rattle.cel_tree.specs.declared.tree.UnaryOp.{UnaryOp}
use Rattle.cel_tree.specs.declared.tree.UnaryOp.TheVariants.{Not, Negate}
use Rattle.cel_tree.specs.declared.tree.BinaryOp.{BinaryOp}
use Rattle.cel_tree.specs.declared.tree.BinaryOp.TheVariants as op
use Rattle.cel_tree.specs.declared.types.Scalar.{Scalar}
use Rattle.cel_tree.specs.declared.types.Scalar.TheVariants as scalar
use Rattle.cel_tree.specs.declared.types.KeyType.{KeyType}
use Rattle.cel_tree.specs.declared.types.KeyType.TheVariants as key
use Rattle.cel_tree.specs.declared.types.Facet.{Facet}
use Rattle.cel_tree.specs.declared.types.Facet.TheVariants.{Attributes, Capacities}
use Rattle.cel_tree.specs.declared.types.CelType.{CelType}
use Rattle.cel_tree.specs.declared.types.CelType.TheVariants as kind

abbrev pub int : CelType
int = kind.Scalar scalar.Int

abbrev pub bool : CelType
bool = kind.Scalar scalar.Bool

abbrev pub string : CelType
string = kind.Scalar scalar.Text

abbrev pub null : CelType
null = kind.Scalar scalar.Null

abbrev pub quantity : CelType
quantity = kind.Scalar scalar.Quantity

abbrev pub semver : CelType
semver = kind.Scalar scalar.Semver

abbrev pub any : CelType
any = kind.Scalar scalar.Dyn

-- The words of messages.
abbrev pub scalar_word : Scalar → List ℕ
scalar_word scalar.Int = codes "int"
scalar_word scalar.Bool = codes "bool"
scalar_word scalar.Text = codes "string"
scalar_word scalar.Null = codes "null"
scalar_word scalar.Quantity = codes "quantity"
scalar_word scalar.Semver = codes "semver"
scalar_word scalar.Dyn = codes "dyn"

-- a key as a value
abbrev pub scalar_of : KeyType → Scalar
scalar_of key.Int = scalar.Int
scalar_of key.Bool = scalar.Bool
scalar_of key.Text = scalar.Text

abbrev pub facet_word : Facet → List ℕ
facet_word Attributes = codes "Attributes"
facet_word Capacities = codes "Capacities"

abbrev pub type_word : CelType → List ℕ
type_word (kind.Scalar s) = scalar_word s
type_word (kind.List s) = codes "list(" ++ (scalar_word s ++ codes ")")
type_word (kind.Map k v) = codes "map(" ++ (scalar_word (scalar_of k) ++ (codes ", " ++ (scalar_word v ++ codes ")")))
type_word (kind.Domains f) = codes "Domains"
type_word (kind.Entries f) = facet_word f

-- Types as numbers, so that they may be compared.
abbrev pub scalar_rank : Scalar → ℕ
scalar_rank scalar.Int = 0
scalar_rank scalar.Bool = 1
scalar_rank scalar.Text = 2
scalar_rank scalar.Null = 3
scalar_rank scalar.Quantity = 4
scalar_rank scalar.Semver = 5
scalar_rank scalar.Dyn = 6

abbrev pub facet_rank : Facet → ℕ
facet_rank Attributes = 0
facet_rank Capacities = 1

abbrev pub is_dyn : Scalar → Bool
is_dyn scalar.Dyn = true
is_dyn s = false

abbrev pub same_scalar : Scalar → Scalar → Bool
same_scalar s t = scalar_rank s == scalar_rank t

abbrev pub same_facet : Facet → Facet → Bool
same_facet f g = facet_rank f == facet_rank g

-- one scalar type, or one of the two is dyn
abbrev pub comparable : Scalar → Scalar → Bool
comparable s t = same_scalar s t || (is_dyn s || is_dyn t)

-- An overload for a scalar type accepts an operand of that type and one of dyn.
abbrev pub takes : Scalar → Scalar → Bool
takes wanted s = same_scalar wanted s || is_dyn s

abbrev pub accepts : Scalar → CelType → Bool
accepts wanted (kind.Scalar s) = takes wanted s
accepts wanted (kind.List s) = false
accepts wanted (kind.Map k v) = false
accepts wanted (kind.Domains f) = false
accepts wanted (kind.Entries f) = false

abbrev pub both_accept : Scalar → CelType → CelType → Bool
both_accept wanted left right = accepts wanted left && accepts wanted right

-- the result of an overload that accepts the operands
abbrev pub when : Bool → CelType → Option CelType
when fits result = if fits then Some result else None

-- `!` and unary `-`
abbrev pub unary_type : UnaryOp → CelType → Option CelType
unary_type Not operand = when (accepts scalar.Bool operand) bool
unary_type Negate operand = when (accepts scalar.Int operand) int

-- `&&` and `||`
abbrev pub logic_type : CelType → CelType → Option CelType
logic_type left right = when (both_accept scalar.Bool left right) bool

-- `< <= > >=`
abbrev pub order_type : CelType → CelType → Option CelType
order_type left right = when (both_accept scalar.Int left right || (both_accept scalar.Text left right || both_accept scalar.Bool left right)) bool

-- `- * / %`
abbrev pub arithmetic_type : CelType → CelType → Option CelType
arithmetic_type left right = when (both_accept scalar.Int left right) int

-- `== !=`: one type that isn't one of those that only `device` has, or dyn with a scalar
abbrev pub equality_type : CelType → CelType → Option CelType
equality_type (kind.Scalar s) (kind.Scalar t) = when (comparable s t) bool
equality_type (kind.List s) (kind.List t) = when (same_scalar s t) bool
equality_type (kind.Map k v) (kind.Map l w) = when (same_scalar (scalar_of k) (scalar_of l) && same_scalar v w) bool
equality_type left right = None

-- what a comprehension's variable goes over
abbrev pub element_type : CelType → Option Scalar
element_type (kind.Scalar s) = None
element_type (kind.List s) = Some s
element_type (kind.Map k v) = Some (scalar_of k)
element_type (kind.Domains f) = Some scalar.Text
element_type (kind.Entries f) = Some scalar.Text

-- `in`: an element of a list, a key of a map, a domain, an id
abbrev pub in_type : CelType → CelType → Option CelType
in_type (kind.Scalar s) (kind.List t) = when (comparable s t) bool
in_type element (kind.Map k v) = when (accepts (scalar_of k) element) bool
in_type element (kind.Domains f) = when (accepts scalar.Text element) bool
in_type element (kind.Entries f) = when (accepts scalar.Text element) bool
in_type element range = None

-- `+` of scalars: dyn where both are
abbrev pub sum_type : Scalar → Scalar → Option CelType
sum_type s t =
    if is_dyn s && is_dyn t then Some any
    else (if takes scalar.Int s && takes scalar.Int t then Some int
    else when (takes scalar.Text s && takes scalar.Text t) string)

abbrev pub add_type : CelType → CelType → Option CelType
add_type (kind.Scalar s) (kind.Scalar t) = sum_type s t
add_type (kind.List s) (kind.List t) = when (same_scalar s t) (kind.List s)
add_type left right = None

abbrev pub binary_type : BinaryOp → CelType → CelType → Option CelType
binary_type op.Or left right = logic_type left right
binary_type op.And left right = logic_type left right
binary_type op.Less left right = order_type left right
binary_type op.LessEq left right = order_type left right
binary_type op.GreaterEq left right = order_type left right
binary_type op.Greater left right = order_type left right
binary_type op.Equal left right = equality_type left right
binary_type op.NotEqual left right = equality_type left right
binary_type op.In left right = in_type left right
binary_type op.Add left right = add_type left right
binary_type op.Subtract left right = arithmetic_type left right
binary_type op.Multiply left right = arithmetic_type left right
binary_type op.Divide left right = arithmetic_type left right
binary_type op.Remainder left right = arithmetic_type left right

-- one type for both branches; dyn where one is dyn and the other another scalar
abbrev pub branch_type : CelType → CelType → Option CelType
branch_type (kind.Scalar s) (kind.Scalar t) = if same_scalar s t then Some (kind.Scalar s) else when (is_dyn s || is_dyn t) any
branch_type (kind.List s) (kind.List t) = when (same_scalar s t) (kind.List s)
branch_type (kind.Map k v) (kind.Map l w) = when (same_scalar (scalar_of k) (scalar_of l) && same_scalar v w) (kind.Map k v)
branch_type (kind.Domains f) (kind.Domains g) = when (same_facet f g) (kind.Domains f)
branch_type (kind.Entries f) (kind.Entries g) = when (same_facet f g) (kind.Entries f)
branch_type left right = None

-- `test ? then : otherwise`
abbrev pub conditional_type : CelType → CelType → CelType → Option CelType
conditional_type test left right = if accepts scalar.Bool test then branch_type left right else None

-- an attribute or a capacity by its id
abbrev pub entry_type : Facet → CelType
entry_type Attributes = any
entry_type Capacities = quantity

-- `object.name`, where the object isn't `device`: a domain, an id, or a key that is a text
abbrev pub member_type : CelType → Option CelType
member_type (kind.Scalar s) = None
member_type (kind.List s) = None
member_type (kind.Map k v) = when (same_scalar (scalar_of k) scalar.Text) (kind.Scalar v)
member_type (kind.Domains f) = Some (kind.Entries f)
member_type (kind.Entries f) = Some (entry_type f)

-- `object[index]`
abbrev pub index_type : CelType → CelType → Option CelType
index_type (kind.Scalar s) index = None
index_type (kind.List s) index = when (accepts scalar.Int index) (kind.Scalar s)
index_type (kind.Map k v) index = when (accepts (scalar_of k) index) (kind.Scalar v)
index_type (kind.Domains f) index = when (accepts scalar.Text index) (kind.Entries f)
index_type (kind.Entries f) index = when (accepts scalar.Text index) (entry_type f)
