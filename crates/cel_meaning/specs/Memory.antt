-- Running out of memory stops the whole evaluation.
use Rattle.std.specs.Prelude.{Bool, true, false, Result, Err}
use Rattle.cel_value.specs.declared.error.EvalError.{EvalError}
use Rattle.cel_value.specs.declared.error.EvalError.TheVariants.{Memory}

abbrev pub is_memory : {A : Type 0} → Result A EvalError → Bool
is_memory (Err Memory) = true
is_memory r = false

-- out of memory before all else
abbrev pub with_memory : {A : Type 0} → Result A EvalError → Result A EvalError → Result A EvalError
with_memory (Err Memory) r = Err Memory
with_memory s r = r
