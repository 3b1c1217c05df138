-- Definitions on lists.
use Rattle.std.specs.Prelude.{ℕ, ◌<◌, ◌≡◌, List, [], ◌∷◌, ◌++◌, Bool, true, ◌&&◌, Option, None, Some, slice_get}

-- the test holds of each element, given those before it
abbrev pub each_after : {X : Type 0} → (List X → X → Bool) → List X → List X → Bool
each_after test before [] = true
each_after test before (x ∷ xs) = test before x && each_after test (before ++ x ∷ []) xs

abbrev pub Each : {X : Type 0} → (X → Type 0) → List X → Type 0
Each {X} P xs = (i : ℕ) (x : X) → slice_get xs i ≡ Some x → P x

-- an element and a later one
abbrev pub EachTwo : {X : Type 0} → (X → X → Type 0) → List X → Type 0
EachTwo {X} R xs = (i j : ℕ) (x y : X) → i < j → slice_get xs i ≡ Some x → slice_get xs j ≡ Some y → R x y

-- elements of two lists at the same index
abbrev pub EachBoth : {X Y : Type 0} → (X → Y → Type 0) → List X → List Y → Type 0
EachBoth {X} {Y} R xs ys = (i : ℕ) (x : X) (y : Y) → slice_get xs i ≡ Some x → slice_get ys i ≡ Some y → R x y

abbrev pub add_some : {X : Type 0} → Option X → List X → List X
add_some None xs = xs
add_some (Some x) xs = x ∷ xs

-- the first that there is
abbrev pub or_else : {X : Type 0} → Option X → Option X → Option X
or_else (Some x) later = Some x
or_else None later = later

abbrev pub first_some : {X Y : Type 0} → (X → Option Y) → List X → Option Y
first_some f [] = None
first_some f (x ∷ xs) = or_else (f x) (first_some f xs)
