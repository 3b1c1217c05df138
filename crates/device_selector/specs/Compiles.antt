-- What a text is as a selector.
use Rattle.std.specs.Prelude.{◌≡◌, ℕ, nat_lt, List, Result, Ok, Err, if◌then◌else◌}
use Rattle.cel_tree.specs.declared.tree.Tree.{Tree}
use Rattle.cel_tree.specs.Ast.{Ast, tree_view}
use Rattle.cel_tree.specs.Typed.{Typed}
use Rattle.cel_tree.specs.Estimate.{Estimate}
use Rattle.cel_parse.specs.declared.run.ParseError.{ParseError}
use Rattle.cel_parse.specs.declared.run.ParseError.TheVariants as parse_error
use Rattle.cel_parse.specs.Text.{Parses}
use Rattle.cel_check.specs.declared.checks.CheckError.{CheckError}
use Rattle.cel_check.specs.declared.checks.CheckError.TheVariants as check_error
use Rattle.cel_check.specs.Checks.{checked_of}
use Rattle.device_selector.specs.declared.compiled.CompileError.{CompileError}
use Rattle.device_selector.specs.declared.compiled.CompileError.TheVariants.{Parse, Check, CostTooHigh, Memory}

-- a checked tree, unless its estimate is over 1,000,000 steps
abbrev pub priced_of : Typed → Result Typed CompileError
priced_of c = if nat_lt 1000000 (Estimate c.tree) then Err (CostTooHigh (Estimate c.tree)) else Ok c

abbrev pub priced_if : Result Typed CheckError → Result Typed CompileError
priced_if (Ok c) = priced_of c
priced_if (Err e) = Err (Check e)

-- what a tree is as a selector
abbrev pub compiled_of : Ast → Result Typed CompileError
compiled_of t = priced_if (checked_of t)

-- No error of the check that is passed on is out of memory.
abbrev pub NoMemory : CheckError → Type 0 → Type 0
NoMemory check_error.Memory fact = ⊥
NoMemory (check_error.NoSuchName span) fact = fact
NoMemory (check_error.NoOverload span) fact = fact
NoMemory (check_error.NotBool k) fact = fact
NoMemory (check_error.NotSupported span) fact = fact

-- the result for a tree, unless out of memory
abbrev pub Checks : Ast → Result Typed CompileError → Type 0
Checks t (Ok c) = compiled_of t ≡ Ok c
Checks t (Err (Parse e)) = ⊥
Checks t (Err (Check e)) = NoMemory e (compiled_of t ≡ Err (Check e))
Checks t (Err (CostTooHigh n)) = compiled_of t ≡ Err (CostTooHigh n)
Checks t (Err Memory) = Unit {0}

-- The text has a tree, for which this is returned as a selector.
pub record Gives (text : List ℕ) (answer : Result Typed CompileError) : Type 0 where
  pub tree : Tree
  pub parsed : Parses text (Ok tree)
  pub checked : Checks (tree_view tree) answer

-- No error of the parser that is passed on is out of memory.
abbrev pub Refuses : List ℕ → ParseError → Type 0
Refuses text (parse_error.Lex e) = Parses text (Err (parse_error.Lex e))
Refuses text (parse_error.Unexpected span) = Parses text (Err (parse_error.Unexpected span))
Refuses text parse_error.Deep = Parses text (Err parse_error.Deep)
Refuses text parse_error.Long = Parses text (Err parse_error.Long)
Refuses text parse_error.Memory = ⊥
Refuses text (parse_error.NotSupported span) = Parses text (Err (parse_error.NotSupported span))

-- What compiling a text returns: the checked tree, or why there is none, unless out of memory.
abbrev pub Compiles : List ℕ → Result Typed CompileError → Type 0
Compiles text (Ok c) = Gives text (Ok c)
Compiles text (Err (Parse e)) = Refuses text e
Compiles text (Err (Check e)) = Gives text (Err (Check e))
Compiles text (Err (CostTooHigh n)) = Gives text (Err (CostTooHigh n))
Compiles text (Err Memory) = Unit {0}
