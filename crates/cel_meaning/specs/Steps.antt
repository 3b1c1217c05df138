-- The steps of what comes after a value, and of the elements of a range.
use Rattle.std.specs.Prelude.{ℕ, ◌+◌, sum_by, List, [], ◌∷◌, Bool, false, not, Result, Ok, Err, if◌then◌else◌}
use Rattle.cel_tree.specs.declared.tree.BinaryOp.{BinaryOp}
use Rattle.cel_tree.specs.declared.calls.Comprehension.{Comprehension}
use Rattle.cel_tree.specs.declared.calls.Comprehension.TheVariants.{All, Exists, ExistsOne, Filter, Map}
use Rattle.cel_tree.specs.Estimate.{weighing}
use Rattle.cel_value.specs.declared.value.Single.{Single}
use Rattle.cel_value.specs.declared.value.Value.{Value}
use Rattle.cel_value.specs.declared.error.EvalError.{EvalError}
use Rattle.cel_value.specs.Values.{weight_of}
use Rattle.cel_meaning.specs.declared.connective.Connective.{Connective}
use Rattle.cel_meaning.specs.declared.connective.Connective.TheVariants as connective
use Rattle.cel_meaning.specs.Folds.{Body, Maker, holds, by_filter, by_map, by_test_and_map}

-- what comes after a value; nothing comes after an error
abbrev pub behind : {A : Type 0} → Result A EvalError → (A → ℕ) → ℕ
behind (Ok x) f = f x
behind (Err e) f = 0

-- whether a side decides alone: a false one of `&&`, and a true one of `||`
abbrev pub decides : Connective → Result Bool EvalError → Bool
decides connective.And (Ok b) = not b
decides connective.Or (Ok b) = b
decides c (Err e) = false

-- what comes after a side of `&&` or `||`: nothing after one that decides alone
abbrev pub unless_decided : Connective → Result Bool EvalError → ℕ → ℕ
unless_decided c side n = if decides c side then 0 else n

-- the weights of arguments
abbrev pub weights : List Value → ℕ
weights xs = sum_by weight_of xs

-- the steps of an operation for the weights of both operands, if both have values
abbrev pub weighed : BinaryOp → Result Value EvalError → Result Value EvalError → ℕ
weighed o left right = behind left (λ x. behind right (λ y. weighing o (weight_of x + weight_of y)))

-- a body of a comprehension by the value of its variable: what it means, and its steps
pub record Turn : Type 0 where
  pub means : Body
  pub steps : Single → ℕ

-- Each element takes two steps, and those of the bodies as far as they are evaluated. No element is looked
-- at after one that decides an `all` or an `exists` alone.
abbrev pub folded_steps : Connective → Turn → List Single → ℕ
folded_steps c test [] = 0
folded_steps c test (x ∷ xs) = 2 + test.steps x + unless_decided c (holds test.means x) (folded_steps c test xs)

-- of `filter`, `map` and `exists_one`: none after an error
abbrev pub gathered_steps : Maker → (Single → ℕ) → List Single → ℕ
gathered_steps make steps [] = 0
gathered_steps make steps (x ∷ xs) = 2 + steps x + behind (make x) (λ y. gathered_steps make steps xs)

-- of `map` with two bodies at an element: the second where the first holds
abbrev pub both_steps : Turn → Turn → Single → ℕ
both_steps test body x = test.steps x + behind (holds test.means x) (λ b. if b then body.steps x else 0)

abbrev pub comprehended_steps : Comprehension → List Turn → List Single → ℕ
comprehended_steps All (test ∷ []) xs = folded_steps connective.And test xs
comprehended_steps Exists (test ∷ []) xs = folded_steps connective.Or test xs
comprehended_steps ExistsOne (test ∷ []) xs = gathered_steps (by_filter test.means) test.steps xs
comprehended_steps Filter (test ∷ []) xs = gathered_steps (by_filter test.means) test.steps xs
comprehended_steps Map (body ∷ []) xs = gathered_steps (by_map body.means) body.steps xs
comprehended_steps Map (test ∷ body ∷ []) xs = gathered_steps (by_test_and_map test.means body.means) (both_steps test body) xs
comprehended_steps c bodies xs = 0
