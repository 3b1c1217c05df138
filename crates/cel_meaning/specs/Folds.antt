-- Truths joined by `&&` and `||`, and what comprehensions make of the elements of a range.
use Rattle.std.specs.Prelude.{◌==◌, length, List, [], ◌∷◌, Bool, true, false, Option, Some, None, Result, Ok, Err, if◌then◌else◌}
use Rattle.cel_tree.specs.declared.tree.BinaryOp.{BinaryOp}
use Rattle.cel_tree.specs.declared.tree.BinaryOp.TheVariants as op
use Rattle.cel_tree.specs.declared.calls.Comprehension.{Comprehension}
use Rattle.cel_tree.specs.declared.calls.Comprehension.TheVariants.{All, Exists, ExistsOne, Filter, Map}
use Rattle.cel_value.specs.declared.value.Single.{Single}
use Rattle.cel_value.specs.declared.value.Key.{Key}
use Rattle.cel_value.specs.declared.value.Value.{Value}
use Rattle.cel_value.specs.declared.value.Value.TheVariants as value
use Rattle.cel_value.specs.declared.error.EvalError.{EvalError}
use Rattle.cel_value.specs.declared.error.EvalError.TheVariants.{NoOverload}
use Rattle.cel_value.specs.Values.{◌>>=◌, truth, truth_of, single_in, key_in}
use Rattle.cel_value.specs.Operators.{and_of, or_of}
use Rattle.cel_meaning.specs.declared.connective.Connective.{Connective}
use Rattle.cel_meaning.specs.declared.connective.Connective.TheVariants as connective

-- the truth of a test, or of a side of `&&` or `||`
abbrev pub tested : Result Value EvalError → Result Bool EvalError
tested r = r >>= λ v. truth_of v

-- a value that a list or a map may hold
abbrev pub as_single : Result Value EvalError → Result Single EvalError
as_single r = r >>= λ v. single_in v

-- a value that may be a key
abbrev pub as_key : Result Value EvalError → Result Key EvalError
as_key r = r >>= λ v. key_in v

abbrev pub as_value : Result Bool EvalError → Result Value EvalError
as_value r = r >>= λ b. Ok (truth b)

abbrev pub as_list : Result (List Single) EvalError → Result Value EvalError
as_list r = r >>= λ xs. Ok (value.List xs)

abbrev pub as_map : Result (List (Key × Single)) EvalError → Result Value EvalError
as_map r = r >>= λ table. Ok (value.Map table)

abbrev pub are_one : Result (List Single) EvalError → Result Value EvalError
are_one r = r >>= λ xs. Ok (truth (length xs == 1))

-- ---- `&&` and `||`, and the comprehensions `all` and `exists`, which fold them

abbrev pub connective_of : BinaryOp → Option Connective
connective_of op.And = Some connective.And
connective_of op.Or = Some connective.Or
connective_of o = None

abbrev pub joined : Connective → Result Bool EvalError → Result Bool EvalError → Result Bool EvalError
joined connective.And left right = and_of left right
joined connective.Or left right = or_of left right

-- what there is before the first side
abbrev pub start_of : Connective → Bool
start_of connective.And = true
start_of connective.Or = false

-- ---- the elements of a range

-- what a body of a comprehension means by the value of its variable
abbrev pub Body : Type 0
Body = Single → Result Value EvalError

abbrev pub holds : Body → Single → Result Bool EvalError
holds test x = tested (test x)

-- `all` and `exists`
abbrev pub folded : Connective → (Single → Result Bool EvalError) → List Single → Result Bool EvalError
folded c test [] = Ok (start_of c)
folded c test (x ∷ xs) = joined c (test x) (folded c test xs)

-- what an element becomes, where it is kept: by `filter`, by `map` with one body, and by `map` with two
abbrev pub Maker : Type 0
Maker = Single → Result (Option Single) EvalError

abbrev pub kept : Single → Bool → Option Single
kept x b = if b then Some x else None

abbrev pub by_filter : Body → Maker
by_filter test x = holds test x >>= λ b. Ok (kept x b)

abbrev pub by_map : Body → Maker
by_map body x = as_single (body x) >>= λ y. Ok (Some y)

abbrev pub by_test_and_map : Body → Body → Maker
by_test_and_map test body x = holds test x >>= λ b. if b then by_map body x else Ok None

abbrev pub with_kept : Option Single → List Single → List Single
with_kept (Some x) xs = x ∷ xs
with_kept None xs = xs

-- what becomes of the elements, as far as they are kept
abbrev pub gathered : Maker → List Single → Result (List Single) EvalError
gathered make [] = Ok []
gathered make (x ∷ xs) = make x >>= λ y. gathered make xs >>= λ ys. Ok (with_kept y ys)

abbrev pub fold_value : Connective → Body → List Single → Result Value EvalError
fold_value c test xs = as_value (folded c (holds test) xs)

abbrev pub list_value : Maker → List Single → Result Value EvalError
list_value make xs = as_list (gathered make xs)

-- whether the test holds for one element exactly
abbrev pub one_value : Body → List Single → Result Value EvalError
one_value test xs = are_one (gathered (by_filter test) xs)

-- a comprehension with its bodies over the elements of its range
abbrev pub comprehended : Comprehension → List Body → List Single → Result Value EvalError
comprehended All (test ∷ []) xs = fold_value connective.And test xs
comprehended Exists (test ∷ []) xs = fold_value connective.Or test xs
comprehended ExistsOne (test ∷ []) xs = one_value test xs
comprehended Filter (test ∷ []) xs = list_value (by_filter test) xs
comprehended Map (body ∷ []) xs = list_value (by_map body) xs
comprehended Map (test ∷ body ∷ []) xs = list_value (by_test_and_map test body) xs
comprehended c bodies xs = Err NoOverload
