-- Which type a tree has, by rules: one for each form of the language.
use Rattle.std.specs.Prelude.{◌≡◌, ℕ, List, [], ◌∷◌, ◌++◌, true, false, Option, Some, None, Ok, is_some}
use Rattle.std.specs.List.{list_all}
use Rattle.cel_tree.specs.declared.tree.Span.{Span}
use Rattle.cel_tree.specs.declared.tree.UnaryOp.{UnaryOp}
use Rattle.cel_tree.specs.declared.tree.BinaryOp.{BinaryOp}
use Rattle.cel_tree.specs.declared.types.Scalar.{Scalar}
use Rattle.cel_tree.specs.declared.types.CelType.{CelType}
use Rattle.cel_tree.specs.declared.types.CelType.TheVariants as kind
use Rattle.cel_tree.specs.declared.calls.Comprehension.{Comprehension}
use Rattle.cel_tree.specs.declared.calls.Function.{Function}
use Rattle.cel_tree.specs.declared.calls.Called.TheVariants as called
use Rattle.cel_tree.specs.declared.calls.Arguments.{Arguments}
use Rattle.cel_tree.specs.declared.calls.Arguments.TheVariants as arguments
use Rattle.cel_tree.specs.Ast.{Constant, Ast, Node, Literal', Ident, Unary, Binary, Conditional, Member, Index, Call, Method, ListOf, MapOf, Asts, End, More, Entries, NoEntry, Pair}
use Rattle.cel_tree.specs.Types.{bool, unary_type, binary_type, conditional_type, index_type, member_type, element_type}
use Rattle.cel_tree.specs.Calls.{called_of, call_type, method_type}
use Rattle.cel_tree.specs.Faults.{comprehension_type, joined}
use Rattle.cel_tree.specs.Scopes.{look_up, is_device}
use Rattle.cel_tree.specs.Typing.{Names, constant_type, is_bind, device_type, with_first, key_type, beside, keys_type, list_type, map_type}

mutual
  pub data HasType : Names → Ast → CelType → Type 0 where
    literal : {names : Names} {span : Span} (c : Constant) → HasType names (Node span (Literal' c)) (constant_type c)
    name : {names : Names} {span : Span} {x : List ℕ} {k : CelType} → look_up x names ≡ Some k → HasType names (Node span (Ident x)) k
    unary : {names : Names} {span : Span} {op : UnaryOp} {t : Ast} {k l : CelType} →
        HasType names t k → unary_type op k ≡ Some l → HasType names (Node span (Unary op t)) l
    binary : {names : Names} {span : Span} {op : BinaryOp} {t u : Ast} {k l m : CelType} →
        HasType names t k → HasType names u l → binary_type op k l ≡ Some m → HasType names (Node span (Binary op t u)) m
    conditional : {names : Names} {span : Span} {t u v : Ast} {k l m n : CelType} →
        HasType names t k → HasType names u l → HasType names v m → conditional_type k l m ≡ Some n → HasType names (Node span (Conditional t u v)) n
    -- `device.driver` and the like
    of_device : {names : Names} {span : Span} {t : Ast} {f : List ℕ} {k : CelType} →
        is_device names t ≡ true → device_type span f ≡ Ok k → HasType names (Node span (Member t f)) k
    member : {names : Names} {span : Span} {t : Ast} {f : List ℕ} {k l : CelType} →
        is_device names t ≡ false → HasType names t k → member_type k ≡ Some l → HasType names (Node span (Member t f)) l
    index : {names : Names} {span : Span} {t u : Ast} {k l m : CelType} →
        HasType names t k → HasType names u l → index_type k l ≡ Some m → HasType names (Node span (Index t u)) m
    -- `has(t.f)`
    has : {names : Names} {span place : Span} {t : Ast} {word f : List ℕ} {k l : CelType} →
        called_of word ≡ Some called.Has → is_device names t ≡ false → HasType names t k → member_type k ≡ Some l →
        HasType names (Node span (Call word (More (Node place (Member t f)) End))) bool
    call : {names : Names} {span : Span} {word : List ℕ} {f : Function} {ts : Asts} {given : Arguments} {k : CelType} →
        called_of word ≡ Some (called.Function f) → HaveTypes names ts given → call_type f given ≡ Some k →
        HasType names (Node span (Call word ts)) k
    method : {names : Names} {span : Span} {t : Ast} {word : List ℕ} {f : Function} {ts : Asts} {given : Arguments} {k l : CelType} →
        is_bind t word ≡ false → called_of word ≡ Some (called.Function f) → HasType names t k → HaveTypes names ts given → method_type f k given ≡ Some l →
        HasType names (Node span (Method t word ts)) l
    -- `t.all(x, ..)` and the like: the bodies have their types where the variable has that of an element
    comprehension : {names : Names} {span place : Span} {t : Ast} {word x : List ℕ} {c : Comprehension} {e : Scalar} {ts : Asts} {bodies : Arguments} {k l : CelType} →
        is_bind t word ≡ false → called_of word ≡ Some (called.Comprehension c) → HasType names t k → element_type k ≡ Some e →
        HaveTypes ((x, kind.Scalar e) ∷ names) ts bodies → comprehension_type span c e bodies ≡ Ok l →
        HasType names (Node span (Method t word (More (Node place (Ident x)) ts))) l
    -- `cel.bind(x, u, v)`
    bind : {names : Names} {span place : Span} {t u v : Ast} {word x : List ℕ} {k l : CelType} →
        is_bind t word ≡ true → HasType names u k → HasType ((x, k) ∷ names) v l →
        HasType names (Node span (Method t word (More (Node place (Ident x)) (More u (More v End))))) l
    list : {names : Names} {span : Span} {ts : Asts} {items : Option Scalar} → HaveItems names ts items → HasType names (Node span (ListOf ts)) (list_type items)
    map : {names : Names} {span : Span} {es : Entries} {values : Option Scalar} →
        HaveValues names [] es values → HasType names (Node span (MapOf es)) (map_type (keys_type es) values)

  -- arguments, one after another
  pub data HaveTypes : Names → Asts → Arguments → Type 0 where
    no_argument : {names : Names} → HaveTypes names End arguments.None
    argument : {names : Names} {t : Ast} {ts : Asts} {k : CelType} {given : Arguments} →
        HasType names t k → HaveTypes names ts given → HaveTypes names (More t ts) (with_first k given)

  -- items of a list: scalars
  pub data HaveItems : Names → Asts → Option Scalar → Type 0 where
    no_item : {names : Names} → HaveItems names End None
    item : {names : Names} {t : Ast} {ts : Asts} {s : Scalar} {rest : Option Scalar} →
        HasType names t (kind.Scalar s) → HaveItems names ts rest → HaveItems names (More t ts) (Some (joined s rest))

  -- values of a map: scalars, each with a key of one type with the earlier keys and other than they
  pub data HaveValues : Names → List Constant → Entries → Option Scalar → Type 0 where
    no_value : {names : Names} {earlier : List Constant} → HaveValues names earlier NoEntry None
    value : {names : Names} {earlier : List Constant} {place : Span} {c : Constant} {t : Ast} {es : Entries} {s : Scalar} {rest : Option Scalar} →
        is_some (key_type c) ≡ true → list_all (beside c) earlier ≡ true → HasType names t (kind.Scalar s) → HaveValues names (earlier ++ c ∷ []) es rest →
        HaveValues names earlier (Pair (Node place (Literal' c)) t es) (Some (joined s rest))
