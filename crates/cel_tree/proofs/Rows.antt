-- What is seen of the trees in a vector of a node.
use Rattle.std.proofs.Common.{◌≡◌, ℕ, List, Vec, Global, Box, refl, ap, ◌∙◌, map}
use mathlib.Core.Former.{Count}
use Rattle.cel_tree.specs.declared.tree.Tree.{Tree}
use Rattle.cel_tree.specs.declared.tree.Entry.{Entry}
use Rattle.cel_tree.specs.declared.tree.Kind.{Kind, List', Map', Row_of-Tree, end_of-Tree, more_of-Tree, Row_of-Entry, end_of-Entry, more_of-Entry, items-the_row-Tree, items-the_row-Entry, items_hidden-the_row-Tree-0, items_hidden-the_row-Entry-1}
use Rattle.cel_tree.specs.declared.tree.Kind as kind
use Rattle.cel_tree.specs.Ast.{Node, More, Pair, Call, Method, ListOf, MapOf, tree_view, kind_view, row_view, entries_view, asts_of, entries_of, entry_view}

row_items : (n : _) (row : Row_of-Tree n) → row_view row ≡ asts_of (map tree_view (items-the_row-Tree n row))
row_items n end_of-Tree = refl
row_items n (more_of-Tree s t rest) = ap (More (Node s (kind_view t))) (row_items _ rest)

entries_items : (n : _) (row : Row_of-Entry n) → entries_view row ≡ entries_of (map entry_view (items-the_row-Entry n row))
entries_items n end_of-Entry = refl
entries_items n (more_of-Entry s t v u rest) = ap (Pair (Node s (kind_view t)) (Node v (kind_view u))) (entries_items _ rest)

abbrev row_of : Kind → (n : Count) × Row_of-Tree n
row_of (List' _ row) = (_, row)
row_of _ = (_, end_of-Tree)

abbrev entries_row_of : Kind → (n : Count) × Row_of-Entry n
entries_row_of (Map' _ row) = (_, row)
entries_row_of _ = (_, end_of-Entry)

pub list_of : (v : Vec Tree Global) → kind_view (kind.List v) ≡ ListOf (asts_of (map tree_view v.items))
list_of v =
    let row = row_of (kind.List v) in
    ap ListOf (row_items row.0 row.1 ∙ ap (λ (ts : List Tree). asts_of (map tree_view ts)) (items_hidden-the_row-Tree-0 v))

pub call_of : (name : List ℕ) (v : Vec Tree Global) → kind_view (kind.Call name v) ≡ Call name (asts_of (map tree_view v.items))
call_of name v =
    let row = row_of (kind.List v) in
    ap (Call name) (row_items row.0 row.1 ∙ ap (λ (ts : List Tree). asts_of (map tree_view ts)) (items_hidden-the_row-Tree-0 v))

pub method_of : (b : Box Tree Global) (name : List ℕ) (v : Vec Tree Global) → kind_view (kind.Method b name v) ≡ Method (tree_view b.value) name (asts_of (map tree_view v.items))
method_of b name v =
    let row = row_of (kind.List v) in
    ap (Method (tree_view b.value) name) (row_items row.0 row.1 ∙ ap (λ (ts : List Tree). asts_of (map tree_view ts)) (items_hidden-the_row-Tree-0 v))

pub map_of : (v : Vec Entry Global) → kind_view (kind.Map v) ≡ MapOf (entries_of (map entry_view v.items))
map_of v =
    let row = entries_row_of (kind.Map v) in
    ap MapOf (entries_items row.0 row.1 ∙ ap (λ (es : List Entry). entries_of (map entry_view es)) (items_hidden-the_row-Entry-1 v))

pub ruleset rows = (list_of, call_of, method_of, map_of)
