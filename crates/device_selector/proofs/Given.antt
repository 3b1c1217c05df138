-- What is returned for a text by its tree, or if it has none.
use Rattle.std.proofs.Common.{rules, refl, ◌≡◌, ◌≢◌, ℕ, List, Some}
use Rattle.std.specs.Prelude.{Result, Ok, Err}
use Rattle.object_fields.specs.declared.kind.Stage.TheVariants as stage
use Rattle.cel_tree.specs.declared.tree.Tree.{Tree}
use Rattle.cel_tree.specs.Ast.{Ast, tree_view}
use Rattle.cel_tree.specs.Typed.{Typed}
use Rattle.cel_parse.specs.declared.run.ParseError.{ParseError}
use Rattle.cel_parse.specs.declared.run.ParseError.TheVariants as parse_error
use Rattle.cel_parse.specs.Text.{Parses}
use Rattle.cel_parse.specs.Trees.{Tells, tree_of}
use Rattle.device_selector.specs.declared.compiled.CompileError.{CompileError}
use Rattle.device_selector.specs.declared.compiled.CompileError.TheVariants.{Parse, Check, CostTooHigh, Memory}
use Rattle.device_selector.specs.Compiles.{Checks, Compiles}
use Rattle.device_selector.specs.Selectors.{Stands, selector_in, selector_of}

pub given : (text : List ℕ) (t : Tree) (r : Result Typed CompileError) → Parses text (Ok t) → Checks (tree_view t) r → Compiles text r
given text t (Ok c) p h = record { tree = t; parsed = p; checked = h }
given text t (Err (Parse e)) p h = absurd h
given text t (Err (Check e)) p h = record { tree = t; parsed = p; checked = h }
given text t (Err (CostTooHigh n)) p h = record { tree = t; parsed = p; checked = h }
given text t (Err Memory) p h = tt

pub stood : (text : List ℕ) (t : Ast) (r : Result Typed CompileError) → tree_of text ≡ Some t → Stands (selector_in (Some t)) r → Stands (selector_of text) r
unfolding selector_of
stood text t r is h = rw is h

pub refused : (text : List ℕ) (e : ParseError) → Tells (tree_of text) (Err e) → e ≢ parse_error.Memory → selector_of text ≡ Err stage.Parse
unfolding selector_of
refused text (parse_error.Lex x) h other = rw h (search rules)
refused text (parse_error.Unexpected x) h other = rw h (search rules)
refused text parse_error.Deep h other = rw h (search rules)
refused text parse_error.Long h other = rw h (search rules)
refused text parse_error.Memory h other = absurd (other refl)
refused text (parse_error.NotSupported x) h other = rw h (search rules)
