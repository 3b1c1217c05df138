-- Parts of the meaning and the steps of a tree, as functions of the evaluation compute them.
use Rattle.std.specs.Prelude.{ℕ, ◌+◌, List, [], ◌∷◌, map, drop, Bool, ◌||◌, None, Result, Ok, Err, if◌then◌else◌}
use Rattle.cel_tree.specs.declared.tree.BinaryOp.{BinaryOp}
use Rattle.cel_tree.specs.declared.tree.Tree.{Tree}
use Rattle.cel_tree.specs.Ast.{Ast, Asts, tree_view, asts_of}
use Rattle.cel_tree.specs.Calls.{called_of}
use Rattle.cel_tree.specs.Typing.{comprehension_in}
use Rattle.cel_tree.specs.Estimate.{weighing}
use Rattle.cel_value.specs.declared.value.Single.{Single}
use Rattle.cel_value.specs.declared.value.Value.{Value}
use Rattle.cel_value.specs.declared.error.EvalError.{EvalError}
use Rattle.cel_value.specs.declared.error.EvalError.TheVariants.{NoOverload}
use Rattle.cel_value.specs.Device.{Device}
use Rattle.cel_value.specs.Values.{◌>>=◌, weight_of}
use Rattle.cel_value.specs.Operators.{binary_of}
use Rattle.cel_value.specs.Lookups.{elements_of, index_of}
use Rattle.cel_eval.specs.declared.making.Making.{Making}
use Rattle.cel_eval.specs.declared.making.Making.TheVariants.{Filter, Map, TestAndMap}
use Rattle.cel_meaning.specs.declared.connective.Connective.{Connective}
use Rattle.cel_meaning.specs.Folds.{Body, Maker, holds, by_filter, by_map, tested, as_value, joined}
use Rattle.cel_meaning.specs.Steps.{Turn, behind, weights, decides}
use Rattle.cel_meaning.specs.Memory.{is_memory, with_memory}
use Rattle.cel_meaning.specs.Meaning.{Bindings, by_comprehension, bound_to, means, each, comprehension_means, bodies_of, method_on}
use Rattle.cel_meaning.specs.Cost.{cost, each_steps, comprehension_steps, turns}

-- `&&` or `||` after its left side. Where that one is out of memory, so is the whole.
abbrev pub connected_means : Device → Bindings → Connective → Result Bool EvalError → Ast → Result Value EvalError
connected_means device names c left t = as_value (with_memory left (joined c left (tested (means device names t))))

-- nothing is evaluated after a left side that decides alone, or is out of memory
abbrev pub connected_steps : Device → Bindings → Connective → Result Bool EvalError → Ast → ℕ
connected_steps device names c left t = if is_memory left || decides c left then 0 else cost device names t

-- another operation of two operands, after its left one
abbrev pub combined_means : Device → Bindings → BinaryOp → Value → Ast → Result Value EvalError
combined_means device names o x t = means device names t >>= λ y. binary_of device o x y

abbrev pub combined_steps : Device → Bindings → BinaryOp → Value → Ast → ℕ
combined_steps device names o x t = cost device names t + behind (means device names t) (λ y. weighing o (weight_of x + weight_of y))

-- `object[place]`, after its object
abbrev pub indexed_means : Device → Bindings → Value → Ast → Result Value EvalError
indexed_means device names x t = means device names t >>= λ y. index_of device x y

-- a method that isn't `cel.bind`, after its object
abbrev pub method_means : Device → Bindings → Value → List ℕ → Asts → Result Value EvalError
method_means device names x name ts = by_comprehension (comprehension_in (called_of name))
    (λ c. elements_of device x >>= λ xs. comprehension_means device names c xs ts)
    (each device names ts >>= λ given. method_on device (called_of name) x given)

abbrev pub method_steps : Device → Bindings → Value → List ℕ → Asts → ℕ
method_steps device names x name ts = by_comprehension (comprehension_in (called_of name))
    (λ c. behind (elements_of device x) (λ xs. comprehension_steps device names c xs ts))
    (each_steps device names ts + behind (each device names ts) (λ given. weight_of x + weights given))

-- what a body means at an element, and its steps
abbrev pub body : Device → Bindings → List ℕ → Ast → Body
body device names name t = λ x. means device (bound_to name x names) t

abbrev pub turn : Device → Bindings → List ℕ → Ast → Turn
turn device names name t = record { means = body device names name t; steps = λ x. cost device (bound_to name x names) t }

-- the bodies after the variable of a comprehension
abbrev pub bodies : Device → Bindings → List ℕ → List Tree → List Body
bodies device names name ts = bodies_of device names name (asts_of (map tree_view (drop 1 ts)))

abbrev pub all_turns : Device → Bindings → List ℕ → List Tree → List Turn
all_turns device names name ts = turns device names name (asts_of (map tree_view (drop 1 ts)))

-- how many bodies it takes
abbrev pub needed : Making → ℕ
needed Filter = 1
needed Map = 1
needed TestAndMap = 2

-- the element as the first body makes it
abbrev pub first_made : List Body → Maker
first_made (body ∷ rest) = by_map body
first_made [] = λ x. Err NoOverload

abbrev pub maker : Making → List Body → Maker
maker Filter (test ∷ rest) = by_filter test
maker Map (body ∷ rest) = by_map body
maker TestAndMap (test ∷ rest) = λ x. holds test x >>= λ b. if b then first_made rest x else Ok None
maker making bodies = λ x. Err NoOverload

abbrev pub first_steps : List Turn → Single → ℕ
first_steps (body ∷ rest) = body.steps
first_steps [] = λ x. 0

abbrev pub maker_steps : Making → List Turn → Single → ℕ
maker_steps Filter (test ∷ rest) = test.steps
maker_steps Map (body ∷ rest) = body.steps
maker_steps TestAndMap (test ∷ rest) = λ x. test.steps x + behind (holds test.means x) (λ b. if b then first_steps rest x else 0)
maker_steps making turns = λ x. 0
