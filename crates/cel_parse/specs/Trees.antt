-- The tree of a text, as it is read from the left.
use Rattle.std.specs.Prelude.{◌≡◌, ℕ, nat_lt, length, ◌||◌, List, Option, Some, None, is_some, Result, Ok, Err, if◌then◌else◌}
use Rattle.cel_lex.specs.Tokens.{Lexeme, Lexed, lex_of}
use Rattle.cel_tree.specs.declared.tree.Span.{Span}
use Rattle.cel_tree.specs.declared.tree.Tree.{Tree}
use Rattle.cel_tree.specs.Ast.{Ast, tree_view}
use Rattle.cel_parse.specs.declared.part.Part.TheVariants as part
use Rattle.cel_parse.specs.declared.run.ParseError.{ParseError}
use Rattle.cel_parse.specs.declared.run.ParseError.TheVariants.{Memory}
use Rattle.cel_parse.specs.Steps as steps
use Rattle.cel_parse.specs.Text.{end_of, is_crowded, left_out}

-- the tree that was read, unless it is too deep
abbrev pub tree_read : steps.Reading → Option Ast
tree_read (steps.Read (part.Shallow t d)) = Some t
tree_read (steps.Read part.Deep) = None
tree_read (steps.Fault s) = None

-- the tree of tokens, where the text ends at e: nothing is left out, and at most 64 brackets are open
abbrev pub tree_in : Span → List Lexeme → Option Ast
tree_in e ts = if is_some (left_out None ts) || is_crowded 0 ts then None else tree_read (steps.reading 64 e ts steps.begun)

abbrev pub tree_lexed : Span → Lexed → Option Ast
tree_lexed e l = if is_some l.error then None else tree_in e l.tokens

-- the tree of a text that is an expression of at most 10,240 bytes and 64 levels
unfoldable pub tree_of : List ℕ → Option Ast
tree_of text = if nat_lt 10240 (length text) then None else tree_lexed (end_of text) (lex_of text)

-- The result is the tree, or an error if there is none, unless out of memory.
abbrev pub Tells : Option Ast → Result Tree ParseError → Type 0
Tells o (Ok t) = o ≡ Some (tree_view t)
Tells o (Err Memory) = Unit {0}
Tells o (Err e) = o ≡ None
