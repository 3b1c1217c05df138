-- Choices one after another.
use Rattle.std.specs.Prelude.{ℕ, zero, suc, ◌<◌, ◌≡◌, ◌+◌, ◌-◌, List, [], ◌∷◌, ◌++◌, map, drop, length, get_or}
use Rattle.std.specs.List.{flat_map}
use Rattle.walk.specs.Lists.{numbers, fronted, choices}
use Rattle.walk.specs.Walk.{Problem, Item, items, IsChoice}

abbrev pub zeros : ℕ → List ℕ
zeros zero = []
zeros (suc n) = 0 ∷ zeros n

-- a choice and all that follow it
unfoldable pub choices_from : List ℕ → List ℕ → List (List ℕ)
choices_from [] c = [] ∷ []
choices_from (k ∷ ks) [] = []
choices_from (k ∷ ks) (x ∷ c) = map (λ d. x ∷ d) (choices_from ks c) ++ fronted (choices ks) (numbers (x + 1) (k - (x + 1)))

-- their items
unfoldable pub walk_from : Problem → List ℕ → List Item
walk_from p c = flat_map (items p) (choices_from p.options c)

pub record IsFirst (ks c : List ℕ) : Type 0 where
  pub choice : IsChoice ks c
  pub first : choices_from ks c ≡ choices ks

abbrev pub IsLast : List ℕ → List ℕ → Type 0
IsLast ks c = choices_from ks c ≡ c ∷ []

pub record IsNext (ks c d : List ℕ) : Type 0 where
  pub choice : IsChoice ks d
  pub next : choices_from ks c ≡ c ∷ choices_from ks d

-- at an index there is a further option, and none behind it
pub record Turns (ks c : List ℕ) (place : ℕ) : Type 0 where
  pub known : place < length ks
  pub further : get_or c place 0 + 1 < get_or ks place 0
  pub last : IsLast (drop (place + 1) ks) (drop (place + 1) c)
