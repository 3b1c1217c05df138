-- An expression without where it lies in memory: nodes with their spans in the source.
use Rattle.std.specs.Prelude.{ℕ, ◌+◌, max, ℤ, List, [], ◌∷◌, Bool}
use Rattle.cel_tree.specs.declared.tree.Span.{Span}
use Rattle.cel_tree.specs.declared.tree.UnaryOp.{UnaryOp}
use Rattle.cel_tree.specs.declared.tree.BinaryOp.{BinaryOp}
use Rattle.cel_tree.specs.declared.tree.Literal.{Literal}
use Rattle.cel_tree.specs.declared.tree.Literal.TheVariants as literal
use Rattle.cel_tree.specs.declared.tree.Kind.{Kind, Row_of-Tree, end_of-Tree, more_of-Tree, Row_of-Entry, end_of-Entry, more_of-Entry}
use Rattle.cel_tree.specs.declared.tree.Kind as kind
use Rattle.cel_tree.specs.declared.tree.Tree.{Tree}
use Rattle.cel_tree.specs.declared.tree.Entry.{Entry}

-- the value of a literal
pub data Constant : Type 0 where
  Null : Constant
  Truth : Bool → Constant
  Whole : ℤ → Constant
  Bytes : List ℕ → Constant

mutual
  pub data Ast : Type 0 where
    Node : Span → Form → Ast

  pub data Form : Type 0 where
    Literal' : Constant → Form
    Ident : List ℕ → Form
    Unary : UnaryOp → Ast → Form
    Binary : BinaryOp → Ast → Ast → Form
    Conditional : Ast → Ast → Ast → Form
    Member : Ast → List ℕ → Form
    Index : Ast → Ast → Form
    Call : List ℕ → Asts → Form
    Method : Ast → List ℕ → Asts → Form
    ListOf : Asts → Form
    MapOf : Entries → Form

  pub data Asts : Type 0 where
    End : Asts
    More : Ast → Asts → Asts

  pub data Entries : Type 0 where
    NoEntry : Entries
    Pair : Ast → Ast → Entries → Entries

abbrev pub constant_view : Literal → Constant
constant_view literal.Null = Null
constant_view (literal.Bool b) = Truth b
constant_view (literal.Int n) = Whole n
constant_view (literal.Text t) = Bytes t

abbrev mutual
  pub kind_view : Kind → Form
  kind_view (kind.Literal l) = Literal' (constant_view l)
  kind_view (kind.Ident name) = Ident name
  kind_view (kind.Unary' op p s t) = Unary op (Node s (kind_view t))
  kind_view (kind.Binary' op p s t q v u) = Binary op (Node s (kind_view t)) (Node v (kind_view u))
  kind_view (kind.Conditional' p s t q v u r x w) = Conditional (Node s (kind_view t)) (Node v (kind_view u)) (Node x (kind_view w))
  kind_view (kind.Member' p s t name) = Member (Node s (kind_view t)) name
  kind_view (kind.Index' p s t q v u) = Index (Node s (kind_view t)) (Node v (kind_view u))
  kind_view (kind.Call' name shape row) = Call name (row_view row)
  kind_view (kind.Method' p s t name shape row) = Method (Node s (kind_view t)) name (row_view row)
  kind_view (kind.List' shape row) = ListOf (row_view row)
  kind_view (kind.Map' shape row) = MapOf (entries_view row)

  pub row_view : {m : _} → Row_of-Tree m → Asts
  row_view end_of-Tree = End
  row_view (more_of-Tree s t rest) = More (Node s (kind_view t)) (row_view rest)

  pub entries_view : {m : _} → Row_of-Entry m → Entries
  entries_view end_of-Entry = NoEntry
  entries_view (more_of-Entry s t v u rest) = Pair (Node s (kind_view t)) (Node v (kind_view u)) (entries_view rest)

abbrev pub tree_view : Tree → Ast
tree_view t = Node t.span (kind_view t.kind)

-- trees one after another, and pairs of key and value
abbrev pub asts_of : List Ast → Asts
asts_of [] = End
asts_of (t ∷ ts) = More t (asts_of ts)

abbrev pub entries_of : List (Ast × Ast) → Entries
entries_of [] = NoEntry
entries_of (e ∷ es) = Pair e.0 e.1 (entries_of es)

abbrev pub entry_view : Entry → Ast × Ast
entry_view e = (tree_view e.key, tree_view e.value)

abbrev pub span_of : Ast → Span
span_of (Node span form) = span

-- The depth of a tree, counted over its nodes. The keys and values of a map literal are below it,
-- and so are the arguments of a call and the object of a method.
abbrev mutual
  pub depth : Ast → ℕ
  depth (Node span form) = below form + 1

  pub below : Form → ℕ
  below (Literal' c) = 0
  below (Ident name) = 0
  below (Unary op t) = depth t
  below (Binary op t u) = max (depth t) (depth u)
  below (Conditional t u v) = max (depth t) (max (depth u) (depth v))
  below (Member t name) = depth t
  below (Index t u) = max (depth t) (depth u)
  below (Call name ts) = deepest ts
  below (Method t name ts) = max (depth t) (deepest ts)
  below (ListOf ts) = deepest ts
  below (MapOf es) = deepest_entry es

  pub deepest : Asts → ℕ
  deepest End = 0
  deepest (More t ts) = max (depth t) (deepest ts)

  pub deepest_entry : Entries → ℕ
  deepest_entry NoEntry = 0
  deepest_entry (Pair k v es) = max (max (depth k) (depth v)) (deepest_entry es)
