-- What clauses state of an evaluation that may run out of memory, and of names in a borrowed chain.
use Rattle.std.specs.Prelude.{◌≡◌, ◌≤◌, ℕ, ◌+◌, [], ◌∷◌, Result, Ok, Err}
use Rattle.std.specs.Borrow.{Bor}
use Rattle.cel_value.specs.declared.error.EvalError.{EvalError}
use Rattle.cel_value.specs.declared.error.EvalError.TheVariants.{NoKey, NoOverload, Overflow, DivByZero, OutOfRange, BadConversion, Memory}
use Rattle.cel_tree.specs.declared.scope.Scope.{Scope, Top, Bound'}
use Rattle.cel_value.specs.declared.value.Value.{Value}
use Rattle.cel_meaning.specs.Meaning.{Bindings}

-- the names of a chain with their values, the innermost first
abbrev pub bindings : Scope (Bor Value) → Bindings
bindings Top = []
bindings (Bound' name v p outer) = (name.now, v.now) ∷ bindings outer

-- the count rose by the steps, or, if out of memory, by at most the steps
abbrev pub RoseBy : EvalError → ℕ → ℕ → ℕ → Type 0
RoseBy NoKey old new steps = new ≡ old + steps
RoseBy NoOverload old new steps = new ≡ old + steps
RoseBy Overflow old new steps = new ≡ old + steps
RoseBy DivByZero old new steps = new ≡ old + steps
RoseBy OutOfRange old new steps = new ≡ old + steps
RoseBy BadConversion old new steps = new ≡ old + steps
RoseBy Memory old new steps = (old ≤ new) × (new ≤ old + steps)

-- The count rose by the steps. If out of memory it is at least what it was, and rose by at most the steps.
abbrev pub Counts : {A : Type 0} → Result A EvalError → ℕ → ℕ → ℕ → Type 0
Counts (Ok x) old new steps = new ≡ old + steps
Counts (Err e) old new steps = RoseBy e old new steps
