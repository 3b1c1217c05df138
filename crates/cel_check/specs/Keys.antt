-- The keys of entries.
use Rattle.std.specs.Prelude.{List, [], ◌∷◌, Option, Some, None}
use Rattle.cel_tree.specs.Ast.{Constant, Ast}
use Rattle.cel_tree.specs.Typing.{literal_of}

-- a literal before others
abbrev pub in_prefix : Option Constant → List Constant → List Constant
in_prefix (Some c) cs = c ∷ cs
in_prefix None cs = cs

-- the keys that are literals
abbrev pub literals : List (Ast × Ast) → List Constant
literals [] = []
literals (e ∷ es) = in_prefix (literal_of e.0) (literals es)
