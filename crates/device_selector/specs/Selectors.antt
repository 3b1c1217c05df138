-- What a text is as a selector: a checked tree whose estimate is at most 1,000,000 steps, or the stage
-- that refuses it.
use Rattle.std.specs.Prelude.{◌≡◌, ℕ, nat_lt, List, Option, Some, None, Result, Ok, Err, if◌then◌else◌}
use Rattle.object_fields.specs.declared.kind.Stage.{Stage}
use Rattle.object_fields.specs.declared.kind.Stage.TheVariants as stage
use Rattle.cel_tree.specs.Ast.{Ast}
use Rattle.cel_tree.specs.Typed.{Typed}
use Rattle.cel_tree.specs.Estimate.{Estimate}
use Rattle.cel_parse.specs.Trees.{tree_of}
use Rattle.cel_check.specs.declared.checks.CheckError.{CheckError}
use Rattle.cel_check.specs.Checks.{checked_of}
use Rattle.device_selector.specs.declared.compiled.CompileError.{CompileError}
use Rattle.device_selector.specs.declared.compiled.CompileError.TheVariants.{Parse, Check, CostTooHigh, Memory}

abbrev pub cheap : Typed → Result Typed Stage
cheap c = if nat_lt 1000000 (Estimate c.tree) then Err stage.Cost else Ok c

abbrev pub selector_by : Result Typed CheckError → Result Typed Stage
selector_by (Ok c) = cheap c
selector_by (Err e) = Err stage.Check

abbrev pub selector_in : Option Ast → Result Typed Stage
selector_in None = Err stage.Parse
selector_in (Some t) = selector_by (checked_of t)

-- the selector that a text is
unfoldable pub selector_of : List ℕ → Result Typed Stage
selector_of text = selector_in (tree_of text)

-- What compiling returns is the selector, or the stage that refuses it, unless out of memory.
abbrev pub Stands : Result Typed Stage → Result Typed CompileError → Type 0
Stands r (Ok c) = r ≡ Ok c
Stands r (Err (Parse e)) = r ≡ Err stage.Parse
Stands r (Err (Check e)) = r ≡ Err stage.Check
Stands r (Err (CostTooHigh n)) = r ≡ Err stage.Cost
Stands r (Err Memory) = Unit {0}

-- the text is a selector
pub record IsSelector (text : List ℕ) : Type 0 where
  pub compiled : Typed
  pub is : selector_of text ≡ Ok compiled

-- The same of a selector that is kept with its text, which is what contracts see of it.
abbrev pub Selects : List ℕ → Result (List ℕ) CompileError → Type 0
Selects text (Ok s) = (s ≡ text) × IsSelector text
Selects text (Err (Parse e)) = selector_of text ≡ Err stage.Parse
Selects text (Err (Check e)) = selector_of text ≡ Err stage.Check
Selects text (Err (CostTooHigh n)) = selector_of text ≡ Err stage.Cost
Selects text (Err Memory) = Unit {0}
