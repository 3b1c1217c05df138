-- Which fault of a tree is the first, by rules: of what is further to the left before the rest, and
-- of operands before their operation.
use Rattle.std.specs.Prelude.{◌≡◌, ℕ, List, [], ◌∷◌, ◌++◌, Bool, true, false, ◌&&◌, ◌||◌, Option, Some, None, codes, is_some, if◌then◌else◌}
use Rattle.std.specs.List.{list_all}
use Rattle.std.specs.Str.{bytes_eq}
use Rattle.cel_tree.specs.declared.tree.Span.{Span}
use Rattle.cel_tree.specs.declared.tree.UnaryOp.{UnaryOp}
use Rattle.cel_tree.specs.declared.tree.BinaryOp.{BinaryOp}
use Rattle.cel_tree.specs.declared.types.Scalar.{Scalar}
use Rattle.cel_tree.specs.declared.types.Scalar.TheVariants as scalar
use Rattle.cel_tree.specs.declared.types.KeyType.{KeyType}
use Rattle.cel_tree.specs.declared.types.Facet.{Facet}
use Rattle.cel_tree.specs.declared.types.CelType.{CelType}
use Rattle.cel_tree.specs.declared.types.CelType.TheVariants as kind
use Rattle.cel_tree.specs.declared.calls.Comprehension.{Comprehension}
use Rattle.cel_tree.specs.declared.calls.Comprehension.TheVariants.{Map}
use Rattle.cel_tree.specs.declared.calls.Function.{Function}
use Rattle.cel_tree.specs.declared.calls.Called.TheVariants as called
use Rattle.cel_tree.specs.declared.calls.Arguments.{Arguments}
use Rattle.cel_tree.specs.declared.calls.Arguments.TheVariants as arguments
use Rattle.cel_tree.specs.declared.fault.Fault.{Fault}
use Rattle.cel_tree.specs.declared.fault.Fault.TheVariants.{NotSupported, NoSuchName, NoOverload}
use Rattle.cel_tree.specs.Ast.{Constant, Ast, Node, Ident, Unary, Binary, Conditional, Member, Index, Call, Method, ListOf, MapOf, Asts, End, More, Entries, Pair, span_of}
use Rattle.cel_tree.specs.Types.{accepts, unary_type, binary_type, conditional_type, index_type, member_type, element_type}
use Rattle.cel_tree.specs.Calls.{called_of, call_type, method_type}
use Rattle.cel_tree.specs.Scopes.{look_up, is_device}
use Rattle.cel_tree.specs.Typing.{Names, is_bind, variable_of, is_has, comprehension_in, literal_of, key_type, beside}
use Rattle.cel_tree.specs.HasType.{HasType, HaveTypes}

-- the members of `device`
abbrev pub is_device_member : List ℕ → Bool
is_device_member name = bytes_eq name (codes "driver") || (bytes_eq name (codes "attributes") || bytes_eq name (codes "capacity"))

-- the object of a member, unless it is `device`
abbrev pub member_of : Names → Ast → Option Ast
member_of names (Node place (Member t name)) = if is_device names t then None else Some t
member_of names (Node place form) = None

-- the object of the one member that `has` may be given: not `device`
abbrev pub has_object : Names → Asts → Option Ast
has_object names End = None
has_object names (More t End) = member_of names t
has_object names (More t (More u ts)) = None

-- the variable of a comprehension or of `cel.bind`, its first argument: an identifier
abbrev pub first_variable : Asts → Option (List ℕ)
first_variable End = None
first_variable (More t ts) = variable_of t

-- a comprehension's bodies are one test, of `map` one item or a test and an item
abbrev pub has_bodies : Comprehension → Arguments → Bool
has_bodies Map (arguments.One item) = true
has_bodies Map (arguments.Two test item) = accepts scalar.Bool test
has_bodies c (arguments.One test) = accepts scalar.Bool test
has_bodies c bodies = false

-- the item of `map`
abbrev pub item_of : Arguments → Option CelType
item_of (arguments.One item) = Some item
item_of (arguments.Two test item) = Some item
item_of bodies = None

-- one body
abbrev pub is_one : Arguments → Bool
is_one (arguments.One k) = true
is_one given = false

-- a key of a map literal: a literal that may be one, of one type with the earlier keys and other than they
abbrev pub is_key : List Constant → Option Constant → Bool
is_key earlier (Some c) = is_some (key_type c) && list_all (beside c) earlier
is_key earlier None = false

-- an item of a list or a value of a map that is no scalar: lists and maps aren't supported there
pub data ItemFault : Span → CelType → Fault → Type 0 where
  list_inside : {span : Span} {s : Scalar} → ItemFault span (kind.List s) (NotSupported span)
  map_inside : {span : Span} {k : KeyType} {s : Scalar} → ItemFault span (kind.Map k s) (NotSupported span)
  domains_inside : {span : Span} {f : Facet} → ItemFault span (kind.Domains f) (NoOverload span)
  entries_inside : {span : Span} {f : Facet} → ItemFault span (kind.Entries f) (NoOverload span)

-- bodies that there is no row for, and items that are no scalars
pub data BodiesFault : Span → Comprehension → Arguments → Fault → Type 0 where
  no_bodies : {span : Span} {c : Comprehension} {bodies : Arguments} → has_bodies c bodies ≡ false → BodiesFault span c bodies (NoOverload span)
  no_scalar : {span : Span} {bodies : Arguments} {k : CelType} {f : Fault} →
      has_bodies Map bodies ≡ true → item_of bodies ≡ Some k → ItemFault span k f → BodiesFault span Map bodies f

mutual
  pub data HasFault : Names → Ast → Fault → Type 0 where
    -- a variable that isn't bound
    name : {names : Names} {span : Span} {x : List ℕ} →
        look_up x names ≡ None → bytes_eq x (codes "device") ≡ false → HasFault names (Node span (Ident x)) (NoSuchName span)
    -- `device` without a member
    device : {names : Names} {span : Span} {x : List ℕ} →
        look_up x names ≡ None → bytes_eq x (codes "device") ≡ true → HasFault names (Node span (Ident x)) (NoOverload span)
    unary_operand : {names : Names} {span : Span} {op : UnaryOp} {t : Ast} {f : Fault} → HasFault names t f → HasFault names (Node span (Unary op t)) f
    unary : {names : Names} {span : Span} {op : UnaryOp} {t : Ast} {k : CelType} →
        HasType names t k → unary_type op k ≡ None → HasFault names (Node span (Unary op t)) (NoOverload span)
    binary_left : {names : Names} {span : Span} {op : BinaryOp} {t u : Ast} {f : Fault} → HasFault names t f → HasFault names (Node span (Binary op t u)) f
    binary_right : {names : Names} {span : Span} {op : BinaryOp} {t u : Ast} {k : CelType} {f : Fault} →
        HasType names t k → HasFault names u f → HasFault names (Node span (Binary op t u)) f
    binary : {names : Names} {span : Span} {op : BinaryOp} {t u : Ast} {k l : CelType} →
        HasType names t k → HasType names u l → binary_type op k l ≡ None → HasFault names (Node span (Binary op t u)) (NoOverload span)
    test : {names : Names} {span : Span} {t u v : Ast} {f : Fault} → HasFault names t f → HasFault names (Node span (Conditional t u v)) f
    then_branch : {names : Names} {span : Span} {t u v : Ast} {k : CelType} {f : Fault} →
        HasType names t k → HasFault names u f → HasFault names (Node span (Conditional t u v)) f
    else_branch : {names : Names} {span : Span} {t u v : Ast} {k l : CelType} {f : Fault} →
        HasType names t k → HasType names u l → HasFault names v f → HasFault names (Node span (Conditional t u v)) f
    conditional : {names : Names} {span : Span} {t u v : Ast} {k l m : CelType} →
        HasType names t k → HasType names u l → HasType names v m → conditional_type k l m ≡ None → HasFault names (Node span (Conditional t u v)) (NoOverload span)
    -- a member that `device` doesn't have
    device_member : {names : Names} {span : Span} {t : Ast} {x : List ℕ} →
        is_device names t ≡ true → is_device_member x ≡ false → HasFault names (Node span (Member t x)) (NoSuchName span)
    member_object : {names : Names} {span : Span} {t : Ast} {x : List ℕ} {f : Fault} →
        is_device names t ≡ false → HasFault names t f → HasFault names (Node span (Member t x)) f
    member : {names : Names} {span : Span} {t : Ast} {x : List ℕ} {k : CelType} →
        is_device names t ≡ false → HasType names t k → member_type k ≡ None → HasFault names (Node span (Member t x)) (NoOverload span)
    index_object : {names : Names} {span : Span} {t u : Ast} {f : Fault} → HasFault names t f → HasFault names (Node span (Index t u)) f
    index_place : {names : Names} {span : Span} {t u : Ast} {k : CelType} {f : Fault} →
        HasType names t k → HasFault names u f → HasFault names (Node span (Index t u)) f
    index : {names : Names} {span : Span} {t u : Ast} {k l : CelType} →
        HasType names t k → HasType names u l → index_type k l ≡ None → HasFault names (Node span (Index t u)) (NoOverload span)
    -- `has` of another form than a member
    has_form : {names : Names} {span : Span} {word : List ℕ} {ts : Asts} →
        called_of word ≡ Some called.Has → has_object names ts ≡ None → HasFault names (Node span (Call word ts)) (NoOverload span)
    has_operand : {names : Names} {span : Span} {word : List ℕ} {ts : Asts} {t : Ast} {f : Fault} →
        called_of word ≡ Some called.Has → has_object names ts ≡ Some t → HasFault names t f → HasFault names (Node span (Call word ts)) f
    has : {names : Names} {span : Span} {word : List ℕ} {ts : Asts} {t : Ast} {k : CelType} →
        called_of word ≡ Some called.Has → has_object names ts ≡ Some t → HasType names t k → member_type k ≡ None → HasFault names (Node span (Call word ts)) (NoOverload span)
    call_argument : {names : Names} {span : Span} {word : List ℕ} {ts : Asts} {f : Fault} →
        is_has (called_of word) ≡ false → HaveFault names ts f → HasFault names (Node span (Call word ts)) f
    -- a function that the profile leaves out
    call_left_out : {names : Names} {span : Span} {word : List ℕ} {ts : Asts} {given : Arguments} →
        called_of word ≡ Some called.LeftOut → HaveTypes names ts given → HasFault names (Node span (Call word ts)) (NotSupported span)
    -- a function that there isn't
    call_name : {names : Names} {span : Span} {word : List ℕ} {ts : Asts} {given : Arguments} →
        called_of word ≡ None → HaveTypes names ts given → HasFault names (Node span (Call word ts)) (NoSuchName span)
    -- a comprehension without a range
    call_macro : {names : Names} {span : Span} {word : List ℕ} {c : Comprehension} {ts : Asts} {given : Arguments} →
        called_of word ≡ Some (called.Comprehension c) → HaveTypes names ts given → HasFault names (Node span (Call word ts)) (NoOverload span)
    call : {names : Names} {span : Span} {word : List ℕ} {g : Function} {ts : Asts} {given : Arguments} →
        called_of word ≡ Some (called.Function g) → HaveTypes names ts given → call_type g given ≡ None → HasFault names (Node span (Call word ts)) (NoOverload span)
    -- of a method, which is no `cel.bind`
    method_object : {names : Names} {span : Span} {t : Ast} {word : List ℕ} {ts : Asts} {f : Fault} →
        is_bind t word ≡ false → HasFault names t f → HasFault names (Node span (Method t word ts)) f
    method_argument : {names : Names} {span : Span} {t : Ast} {word : List ℕ} {ts : Asts} {k : CelType} {f : Fault} →
        is_bind t word ≡ false → comprehension_in (called_of word) ≡ None → HasType names t k → HaveFault names ts f → HasFault names (Node span (Method t word ts)) f
    method_left_out : {names : Names} {span : Span} {t : Ast} {word : List ℕ} {ts : Asts} {k : CelType} {given : Arguments} →
        is_bind t word ≡ false → called_of word ≡ Some called.LeftOut → HasType names t k → HaveTypes names ts given → HasFault names (Node span (Method t word ts)) (NotSupported span)
    method_name : {names : Names} {span : Span} {t : Ast} {word : List ℕ} {ts : Asts} {k : CelType} {given : Arguments} →
        is_bind t word ≡ false → called_of word ≡ None → HasType names t k → HaveTypes names ts given → HasFault names (Node span (Method t word ts)) (NoSuchName span)
    -- `has` as a method
    method_has : {names : Names} {span : Span} {t : Ast} {word : List ℕ} {ts : Asts} {k : CelType} {given : Arguments} →
        is_bind t word ≡ false → called_of word ≡ Some called.Has → HasType names t k → HaveTypes names ts given → HasFault names (Node span (Method t word ts)) (NoOverload span)
    method : {names : Names} {span : Span} {t : Ast} {word : List ℕ} {g : Function} {ts : Asts} {k : CelType} {given : Arguments} →
        is_bind t word ≡ false → called_of word ≡ Some (called.Function g) → HasType names t k → HaveTypes names ts given → method_type g k given ≡ None →
        HasFault names (Node span (Method t word ts)) (NoOverload span)
    -- of a comprehension: a range without elements, a variable that isn't an identifier, a body
    range : {names : Names} {span : Span} {t : Ast} {word : List ℕ} {c : Comprehension} {ts : Asts} {k : CelType} →
        is_bind t word ≡ false → called_of word ≡ Some (called.Comprehension c) → HasType names t k → element_type k ≡ None → HasFault names (Node span (Method t word ts)) (NoOverload span)
    variable : {names : Names} {span : Span} {t : Ast} {word : List ℕ} {c : Comprehension} {ts : Asts} {k : CelType} {e : Scalar} →
        is_bind t word ≡ false → called_of word ≡ Some (called.Comprehension c) → HasType names t k → element_type k ≡ Some e → first_variable ts ≡ None →
        HasFault names (Node span (Method t word ts)) (NoOverload span)
    body : {names : Names} {span place : Span} {t : Ast} {word x : List ℕ} {c : Comprehension} {ts : Asts} {k : CelType} {e : Scalar} {f : Fault} →
        is_bind t word ≡ false → called_of word ≡ Some (called.Comprehension c) → HasType names t k → element_type k ≡ Some e →
        HaveFault ((x, kind.Scalar e) ∷ names) ts f → HasFault names (Node span (Method t word (More (Node place (Ident x)) ts))) f
    bodies : {names : Names} {span place : Span} {t : Ast} {word x : List ℕ} {c : Comprehension} {ts : Asts} {k : CelType} {e : Scalar} {given : Arguments} {f : Fault} →
        is_bind t word ≡ false → called_of word ≡ Some (called.Comprehension c) → HasType names t k → element_type k ≡ Some e →
        HaveTypes ((x, kind.Scalar e) ∷ names) ts given → BodiesFault span c given f → HasFault names (Node span (Method t word (More (Node place (Ident x)) ts))) f
    -- of `cel.bind`: a variable that isn't an identifier, the value, and one body under the name
    bind_variable : {names : Names} {span : Span} {t : Ast} {word : List ℕ} {ts : Asts} →
        is_bind t word ≡ true → first_variable ts ≡ None → HasFault names (Node span (Method t word ts)) (NoOverload span)
    bind_alone : {names : Names} {span place : Span} {t : Ast} {word x : List ℕ} →
        is_bind t word ≡ true → HasFault names (Node span (Method t word (More (Node place (Ident x)) End))) (NoOverload span)
    bind_value : {names : Names} {span place : Span} {t u : Ast} {word x : List ℕ} {ts : Asts} {f : Fault} →
        is_bind t word ≡ true → HasFault names u f → HasFault names (Node span (Method t word (More (Node place (Ident x)) (More u ts)))) f
    bind_body : {names : Names} {span place : Span} {t u : Ast} {word x : List ℕ} {ts : Asts} {k : CelType} {f : Fault} →
        is_bind t word ≡ true → HasType names u k → HaveFault ((x, k) ∷ names) ts f → HasFault names (Node span (Method t word (More (Node place (Ident x)) (More u ts)))) f
    bind : {names : Names} {span place : Span} {t u : Ast} {word x : List ℕ} {ts : Asts} {k : CelType} {given : Arguments} →
        is_bind t word ≡ true → HasType names u k → HaveTypes ((x, k) ∷ names) ts given → is_one given ≡ false →
        HasFault names (Node span (Method t word (More (Node place (Ident x)) (More u ts)))) (NoOverload span)
    list : {names : Names} {span : Span} {ts : Asts} {f : Fault} → ItemsFault names ts f → HasFault names (Node span (ListOf ts)) f
    map : {names : Names} {span : Span} {es : Entries} {f : Fault} → ValuesFault names [] es f → HasFault names (Node span (MapOf es)) f

  -- arguments, one after another
  pub data HaveFault : Names → Asts → Fault → Type 0 where
    first_argument : {names : Names} {t : Ast} {ts : Asts} {f : Fault} → HasFault names t f → HaveFault names (More t ts) f
    later_argument : {names : Names} {t : Ast} {ts : Asts} {k : CelType} {f : Fault} → HasType names t k → HaveFault names ts f → HaveFault names (More t ts) f

  -- items of a list
  pub data ItemsFault : Names → Asts → Fault → Type 0 where
    first_item : {names : Names} {t : Ast} {ts : Asts} {f : Fault} → HasFault names t f → ItemsFault names (More t ts) f
    item : {names : Names} {t : Ast} {ts : Asts} {k : CelType} {f : Fault} → HasType names t k → ItemFault (span_of t) k f → ItemsFault names (More t ts) f
    later_item : {names : Names} {t : Ast} {ts : Asts} {s : Scalar} {f : Fault} →
        HasType names t (kind.Scalar s) → ItemsFault names ts f → ItemsFault names (More t ts) f

  -- entries of a map, each with its key before its value
  pub data ValuesFault : Names → List Constant → Entries → Fault → Type 0 where
    key : {names : Names} {earlier : List Constant} {k t : Ast} {es : Entries} →
        is_key earlier (literal_of k) ≡ false → ValuesFault names earlier (Pair k t es) (NoOverload (span_of k))
    first_value : {names : Names} {earlier : List Constant} {k t : Ast} {es : Entries} {f : Fault} →
        is_key earlier (literal_of k) ≡ true → HasFault names t f → ValuesFault names earlier (Pair k t es) f
    value : {names : Names} {earlier : List Constant} {k t : Ast} {es : Entries} {l : CelType} {f : Fault} →
        is_key earlier (literal_of k) ≡ true → HasType names t l → ItemFault (span_of t) l f → ValuesFault names earlier (Pair k t es) f
    later_value : {names : Names} {earlier : List Constant} {k t : Ast} {c : Constant} {es : Entries} {s : Scalar} {f : Fault} →
        literal_of k ≡ Some c → is_key earlier (Some c) ≡ true → HasType names t (kind.Scalar s) → ValuesFault names (earlier ++ c ∷ []) es f →
        ValuesFault names earlier (Pair k t es) f
