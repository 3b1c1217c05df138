-- What each form takes is within its bound of steps.
use Rattle.std.proofs.Common.{◌≡◌, ℕ, ◌+◌, ◌*◌, ◌≤◌, max, List, [], ◌∷◌, length, Bool, true, false, Option, Some, None, IfOk, Result, Ok, Err, refl, arith, subst, if◌then◌else◌}
use Rattle.std.proofs.lemmas.List.Sums.{sum_by-cons}
use Rattle.cel_tree.specs.declared.tree.BinaryOp.{BinaryOp}
use Rattle.cel_tree.specs.declared.tree.BinaryOp.TheVariants as op
use Rattle.cel_tree.specs.declared.calls.Comprehension.{Comprehension}
use Rattle.cel_tree.specs.declared.calls.Comprehension.TheVariants.{All, Exists, ExistsOne, Filter, Map}
use Rattle.cel_tree.specs.Estimate.{Bounds, weighing, steps_of, name_bounds}
use Rattle.cel_value.specs.declared.error.EvalError.{EvalError}
use Rattle.cel_value.specs.declared.value.Single.{Single}
use Rattle.cel_value.specs.declared.value.Value.{Value}
use Rattle.cel_value.specs.Device.{Device}
use Rattle.cel_value.specs.Values.{weight_of}
use Rattle.cel_meaning.specs.declared.connective.Connective.{Connective}
use Rattle.cel_meaning.specs.declared.connective.Connective.TheVariants as connective
use Rattle.cel_meaning.specs.Folds.{Maker, tested, holds, connective_of, by_filter, by_map, by_test_and_map}
use Rattle.cel_meaning.specs.Steps.{behind, decides, unless_decided, weighed, Turn, folded_steps, gathered_steps, both_steps, comprehended_steps}
use Rattle.cel_meaning.specs.Cost.{by_connective}
use Rattle.cel_meaning.specs.HasKind.{Every, no_more, first}
use Rattle.cel_meaning.proofs.AtMost.{AtMost}
use Rattle.cel_meaning.proofs.Gathered.{mul_le}

pub behind_most : {A : Type 0} (r : Result A EvalError) (f : A → ℕ) (n : ℕ) → IfOk r (λ x. f x ≤ n) → behind r f ≤ n
behind_most (Ok x) f n h = h
behind_most (Err e) f n h = omega arith

pub behind_all : {A : Type 0} (r : Result A EvalError) (f : A → ℕ) (n : ℕ) → ((x : A) → f x ≤ n) → behind r f ≤ n
behind_all (Ok x) f n h = h x
behind_all (Err e) f n h = omega arith

pub name_steps : (o : Option Bounds) → (name_bounds o).steps ≡ 1
unfolding name_bounds
name_steps None = refl
name_steps (Some b) = refl

-- ---- operations

or_none : (b : Bool) (n : ℕ) → (if b then 0 else n) ≤ n
or_none true n = omega arith
or_none false n = omega arith

pub undecided : (c : Connective) (side : Result Bool EvalError) (n : ℕ) → unless_decided c side n ≤ n
undecided c side n = or_none (decides c side) n

weighing_more : (o : BinaryOp) (m n : ℕ) → m ≤ n → weighing o m ≤ weighing o n
weighing_more op.Or m n h = omega arith
weighing_more op.And m n h = omega arith
weighing_more op.Less m n h = h
weighing_more op.LessEq m n h = h
weighing_more op.GreaterEq m n h = h
weighing_more op.Greater m n h = h
weighing_more op.Equal m n h = h
weighing_more op.NotEqual m n h = h
weighing_more op.In m n h = h
weighing_more op.Add m n h = h
weighing_more op.Subtract m n h = omega arith
weighing_more op.Multiply m n h = omega arith
weighing_more op.Divide m n h = omega arith
weighing_more op.Remainder m n h = omega arith

weighed_most : (d : Device) (o : BinaryOp) (r s : Result Value EvalError) (x y : Bounds) → IfOk r (AtMost d x.weight x.number) → IfOk s (AtMost d y.weight y.number) → weighed o r s ≤ weighing o (x.weight + y.weight)
weighed_most d o (Ok v) (Ok w) x y h i = weighing_more o (weight_of v + weight_of w) (x.weight + y.weight) (omega (arith, h.weight, i.weight))
weighed_most d o (Ok v) (Err e) x y h i = omega arith
weighed_most d o (Err e) s x y h i = omega arith

connected : (c : Option Connective) (f : Connective → ℕ) (other n : ℕ) → ((k : Connective) → f k ≤ n) → other ≤ n → by_connective c f other ≤ n
connected (Some k) f other n h i = h k
connected None f other n h i = i

pub binary_steps : (d : Device) (o : BinaryOp) (r s : Result Value EvalError) (a b : ℕ) (x y : Bounds) → a ≤ x.steps → b ≤ y.steps → IfOk r (AtMost d x.weight x.number) → IfOk s (AtMost d y.weight y.number) →
    1 + (a + by_connective (connective_of o) (λ c. unless_decided c (tested r) b) (behind r (λ v. b) + weighed o r s)) ≤ 1 + (x.steps + y.steps) + weighing o (x.weight + y.weight)
binary_steps d o r s a b x y p q h i =
    let side = behind_all r (λ v. b) b (λ v. omega arith) in
    let weights = weighed_most d o r s x y h i in
    let rest : by_connective (connective_of o) (λ c. unless_decided c (tested r) b) (behind r (λ v. b) + weighed o r s) ≤ b + weighing o (x.weight + y.weight) =
    connected (connective_of o) (λ c. unless_decided c (tested r) b) (behind r (λ v. b) + weighed o r s) (b + weighing o (x.weight + y.weight)) (λ c. omega (arith, undecided c (tested r) b)) (omega (arith, side, weights)) in
    omega (arith, p, q, rest)

dearer : (b : Bool) (m n : ℕ) → (if b then m else n) ≤ max m n
dearer true m n = omega arith
dearer false m n = omega arith

pub choice_steps : (q : Result Bool EvalError) (m n x y : ℕ) → m ≤ x → n ≤ y → behind q (λ b. if b then m else n) ≤ max x y
choice_steps q m n x y h i = behind_all q (λ b. if b then m else n) (max x y) (λ b. omega (arith, h, i, dearer b m n))

-- ---- comprehensions

folded_most : (c : Connective) (test : Turn) (n : ℕ) {xs : List Single} → Every (λ x. test.steps x ≤ n) xs → folded_steps c test xs ≤ length xs * (2 + n)
folded_most c test n no_more = omega arith
folded_most c test n (first {x = x} {xs = xs} p ps) =
    omega (arith, p, folded_most c test n ps, undecided c (holds test.means x) (folded_steps c test xs))

gathered_most : (make : Maker) (steps : Single → ℕ) (n : ℕ) {xs : List Single} → Every (λ x. steps x ≤ n) xs → gathered_steps make steps xs ≤ length xs * (2 + n)
gathered_most make steps n no_more = omega arith
gathered_most make steps n (first {x = x} {xs = xs} p ps) =
    omega (arith, p, gathered_most make steps n ps, behind_all (make x) (λ y. gathered_steps make steps xs) (gathered_steps make steps xs) (λ y. omega arith))

-- the bodies of a comprehension, if P holds for each element
pub data Turns (P : Single → Type 0) : List Turn → List Bounds → Type 0 where
  no_turn : Turns P [] []
  turn : {f : Turn} {fs : List Turn} {b : Bounds} {bs : List Bounds} → ((x : Single) → P x → f.steps x ≤ b.steps) → Turns P fs bs → Turns P (f ∷ fs) (b ∷ bs)

every_steps : (P : Single → Type 0) (f : Single → ℕ) (n : ℕ) → ((x : Single) → P x → f x ≤ n) → {xs : List Single} → Every P xs → Every (λ x. f x ≤ n) xs
every_steps P f n g no_more = no_more
every_steps P f n g (first p ps) = first (g _ p) (every_steps P f n g ps)

pub steps-more : (b : Bounds) (bs : List Bounds) → steps_of (b ∷ bs) ≡ b.steps + steps_of bs
steps-more b bs = sum_by-cons (λ (x : Bounds). x.steps) b bs

finish : (m l n s z : ℕ) → m ≤ l * (2 + s) → s ≡ z → l ≤ n → m ≤ n * (2 + z)
finish m l n s z h e p = subst (λ (y : ℕ). m ≤ n * (2 + y)) e (omega (arith, h, mul_le l n (2 + s) p))

one_body : (b : Bounds) → b.steps ≡ steps_of (b ∷ [])
one_body b = omega (arith, steps-more b [])

two_bodies : (a b : Bounds) → a.steps + b.steps ≡ steps_of (a ∷ b ∷ [])
two_bodies a b = omega (arith, steps-more a (b ∷ []), steps-more b [])

fold_most : (c : Connective) (P : Single → Type 0) (test : Turn) (b : Bounds) (xs : List Single) (n : ℕ) → ((x : Single) → P x → test.steps x ≤ b.steps) → Every P xs → length xs ≤ n → folded_steps c test xs ≤ n * (2 + steps_of (b ∷ []))
fold_most c P test b xs n g ps p =
    finish (folded_steps c test xs) (length xs) n b.steps (steps_of (b ∷ [])) (folded_most c test b.steps (every_steps P test.steps b.steps g ps)) (one_body b) p

gather_most : (make : Maker) (P : Single → Type 0) (steps : Single → ℕ) (b : Bounds) (xs : List Single) (n : ℕ) → ((x : Single) → P x → steps x ≤ b.steps) → Every P xs → length xs ≤ n → gathered_steps make steps xs ≤ n * (2 + steps_of (b ∷ []))
gather_most make P steps b xs n g ps p =
    finish (gathered_steps make steps xs) (length xs) n b.steps (steps_of (b ∷ [])) (gathered_most make steps b.steps (every_steps P steps b.steps g ps)) (one_body b) p

first_or_none : (t : Bool) (n : ℕ) → (if t then n else 0) ≤ n
first_or_none true n = omega arith
first_or_none false n = omega arith

both_most : (test f : Turn) (a b : ℕ) (x : Single) → test.steps x ≤ a → f.steps x ≤ b → both_steps test f x ≤ a + b
both_most test f a b x p q =
    omega (arith, p, q, behind_all (holds test.means x) (λ t. if t then f.steps x else 0) (f.steps x) (λ t. first_or_none t (f.steps x)))

gather_two : (make : Maker) (P : Single → Type 0) (test f : Turn) (a b : Bounds) (xs : List Single) (n : ℕ) → ((x : Single) → P x → test.steps x ≤ a.steps) → ((x : Single) → P x → f.steps x ≤ b.steps) →
    Every P xs → length xs ≤ n → gathered_steps make (both_steps test f) xs ≤ n * (2 + steps_of (a ∷ b ∷ []))
gather_two make P test f a b xs n g h ps p =
    finish (gathered_steps make (both_steps test f) xs) (length xs) n (a.steps + b.steps) (steps_of (a ∷ b ∷ []))
    (gathered_most make (both_steps test f) (a.steps + b.steps) (every_steps P (both_steps test f) (a.steps + b.steps) (λ x q. both_most test f a.steps b.steps x (g x q) (h x q)) ps)) (two_bodies a b) p

pub comprehended_most : (P : Single → Type 0) (c : Comprehension) {fs : List Turn} {bs : List Bounds} (xs : List Single) (n : ℕ) → Turns P fs bs → Every P xs → length xs ≤ n → comprehended_steps c fs xs ≤ n * (2 + steps_of bs)
comprehended_most P All xs n no_turn ps p = omega arith
comprehended_most P All xs n (turn {f = f} {b = b} g no_turn) ps p = fold_most connective.And P f b xs n g ps p
comprehended_most P All xs n (turn g (turn h gs)) ps p = omega arith
comprehended_most P Exists xs n no_turn ps p = omega arith
comprehended_most P Exists xs n (turn {f = f} {b = b} g no_turn) ps p = fold_most connective.Or P f b xs n g ps p
comprehended_most P Exists xs n (turn g (turn h gs)) ps p = omega arith
comprehended_most P ExistsOne xs n no_turn ps p = omega arith
comprehended_most P ExistsOne xs n (turn {f = f} {b = b} g no_turn) ps p = gather_most (by_filter f.means) P f.steps b xs n g ps p
comprehended_most P ExistsOne xs n (turn g (turn h gs)) ps p = omega arith
comprehended_most P Filter xs n no_turn ps p = omega arith
comprehended_most P Filter xs n (turn {f = f} {b = b} g no_turn) ps p = gather_most (by_filter f.means) P f.steps b xs n g ps p
comprehended_most P Filter xs n (turn g (turn h gs)) ps p = omega arith
comprehended_most P Map xs n no_turn ps p = omega arith
comprehended_most P Map xs n (turn {f = f} {b = b} g no_turn) ps p = gather_most (by_map f.means) P f.steps b xs n g ps p
comprehended_most P Map xs n (turn {f = test} {b = a} g (turn {f = f} {b = b} h no_turn)) ps p = gather_two (by_test_and_map test.means f.means) P test f a b xs n g h ps p
comprehended_most P Map xs n (turn g (turn h (turn i gs))) ps p = omega arith
