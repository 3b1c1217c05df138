-- What the parser returns.
use Rattle.std.specs.Prelude.{◌≡◌, ℕ, ◌≤◌, ◌<◌, List, [], ◌∷◌, ◌++◌, Result, Ok, Err}
use Rattle.cel_lex.specs.Tokens.{Lexeme}
use Rattle.cel_tree.specs.declared.tree.Span.{Span}
use Rattle.cel_tree.specs.declared.tree.Tree.{Tree}
use Rattle.cel_tree.specs.Ast.{Ast, depth, tree_view}
use Rattle.cel_parse.specs.declared.run.ParseError.{ParseError}
use Rattle.cel_parse.specs.declared.run.ParseError.TheVariants.{Lex, Unexpected, Deep, Long, Memory, NotSupported}
use Rattle.cel_parse.specs.Grammar.{place, Has}

-- an expression begins with the tokens
pub record Begins (ts : List Lexeme) : Type 0 where
  pub rest : List Lexeme
  pub tree : Ast
  pub has : Has 0 (ts ++ rest) tree

-- the span of the first token, or of the end of the text
abbrev pub first_place : Span → List Lexeme → Span
first_place e [] = e
first_place e (k ∷ ks) = place k

-- the prefix is no expression if nothing follows; else none begins with it and the token after it
abbrev pub GoesNot : List Lexeme → List Lexeme → Type 0
GoesNot prefix [] = (t : Ast) → Has 0 prefix t → ⊥
GoesNot prefix (k ∷ ks) = Begins (prefix ++ k ∷ []) → ⊥

-- The tokens are no expression, and this is the span of the first token such that none begins with the tokens up to and with it. The end of the text, at e, counts as a token.
pub record Unfit (e : Span) (ts : List Lexeme) (s : Span) : Type 0 where
  pub prefix : List Lexeme
  pub rest : List Lexeme
  pub split : ts ≡ prefix ++ rest
  pub begins : Begins prefix
  pub stops : GoesNot prefix rest
  pub here : s ≡ first_place e rest

-- the tokens have a tree, and it is this deep
pub record HasTree (ts : List Lexeme) (Fits : ℕ → Type 0) : Type 0 where
  pub tree : Ast
  pub has : Has 0 ts tree
  pub fits : Fits (depth tree)

-- what may be returned for the tokens of a text that ends at e; out of memory alone has no condition
abbrev pub Parsed : Span → List Lexeme → Result Tree ParseError → Type 0
Parsed e ts (Ok t) = Has 0 ts (tree_view t) × (depth (tree_view t) ≤ 64)
Parsed e ts (Err (Unexpected s)) = Unfit e ts s
Parsed e ts (Err Deep) = HasTree ts (λ d. 64 < d)
Parsed e ts (Err Memory) = Unit {0}
Parsed e ts (Err (Lex x)) = ⊥
Parsed e ts (Err Long) = ⊥
Parsed e ts (Err (NotSupported s)) = ⊥
