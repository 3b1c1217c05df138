-- What is kept of a tree: the tree and its depth, up to the greatest depth.
use Rattle.std.specs.Prelude.{ℕ, ◌+◌, max, nat_le, List, [], ◌∷◌, ◌++◌, if◌then◌else◌}
use Rattle.cel_tree.specs.declared.tree.Span.{Span}
use Rattle.cel_tree.specs.declared.tree.UnaryOp.{UnaryOp}
use Rattle.cel_tree.specs.declared.tree.BinaryOp.{BinaryOp}
use Rattle.cel_tree.specs.Ast.{Ast, Form, Node, Unary, Binary, Conditional, Member, Index, Call, Method, ListOf, MapOf, asts_of, entries_of, span_of}
use Rattle.cel_parse.specs.declared.part.Part.{Part}
use Rattle.cel_parse.specs.declared.part.Part.TheVariants.{Shallow, Deep}
use Rattle.cel_parse.specs.declared.part.Parts.{Parts}
use Rattle.cel_parse.specs.declared.part.Parts.TheVariants as parts
use Rattle.cel_parse.specs.declared.part.Entries.{Entries}
use Rattle.cel_parse.specs.declared.part.Entries.TheVariants as entries

abbrev pub joined : Span → Span → Span
joined a b = record { start = a.start; end = b.end }

module _ (most : ℕ) where
  -- a tree over others, of which the deepest has the depth d
  abbrev pub above : ℕ → Ast → Part
  above d t = if nat_le (d + 1) most then Shallow t (d + 1) else Deep

  abbrev pub leaf_part : Span → Form → Part
  leaf_part s form = above 0 (Node s form)

  abbrev pub unary_part : UnaryOp → Span → Part → Part
  unary_part op s (Shallow t d) = above d (Node (joined s (span_of t)) (Unary op t))
  unary_part op s Deep = Deep

  abbrev pub binary_part : BinaryOp → Part → Part → Part
  binary_part op (Shallow t d) (Shallow u e) = above (max d e) (Node (joined (span_of t) (span_of u)) (Binary op t u))
  binary_part op (Shallow t d) Deep = Deep
  binary_part op Deep q = Deep

  abbrev pub conditional_part : Part → Part → Part → Part
  conditional_part (Shallow t d) (Shallow u e) (Shallow v f) = above (max d (max e f)) (Node (joined (span_of t) (span_of v)) (Conditional t u v))
  conditional_part (Shallow t d) (Shallow u e) Deep = Deep
  conditional_part (Shallow t d) Deep r = Deep
  conditional_part Deep q r = Deep

  abbrev pub member_part : Part → Span → List ℕ → Part
  member_part (Shallow t d) s name = above d (Node (joined (span_of t) s) (Member t name))
  member_part Deep s name = Deep

  abbrev pub index_part : Part → Part → Span → Part
  index_part (Shallow t d) (Shallow u e) s = above (max d e) (Node (joined (span_of t) s) (Index t u))
  index_part (Shallow t d) Deep s = Deep
  index_part Deep q s = Deep

  abbrev pub call_part : Span → List ℕ → Parts → Part
  call_part s name (parts.Shallow ts d) = above d (Node s (Call name (asts_of ts)))
  call_part s name parts.Deep = Deep

  abbrev pub method_part : Part → List ℕ → Parts → Span → Part
  method_part (Shallow t d) name (parts.Shallow ts e) s = above (max d e) (Node (joined (span_of t) s) (Method t name (asts_of ts)))
  method_part (Shallow t d) name parts.Deep s = Deep
  method_part Deep name ps s = Deep

  abbrev pub list_part : Span → Parts → Part
  list_part s (parts.Shallow ts d) = above d (Node s (ListOf (asts_of ts)))
  list_part s parts.Deep = Deep

  abbrev pub map_part : Span → Entries → Part
  map_part s (entries.Shallow es d) = above d (Node s (MapOf (entries_of es)))
  map_part s entries.Deep = Deep

abbrev pub added_item : Parts → Part → Parts
added_item (parts.Shallow ts d) (Shallow t e) = parts.Shallow (ts ++ t ∷ []) (max d e)
added_item (parts.Shallow ts d) Deep = parts.Deep
added_item parts.Deep p = parts.Deep

abbrev pub added_pair : Entries → Part → Part → Entries
added_pair (entries.Shallow es d) (Shallow t e) (Shallow u f) = entries.Shallow (es ++ (t, u) ∷ []) (max d (max e f))
added_pair (entries.Shallow es d) (Shallow t e) Deep = entries.Deep
added_pair (entries.Shallow es d) Deep q = entries.Deep
added_pair entries.Deep p q = entries.Deep
