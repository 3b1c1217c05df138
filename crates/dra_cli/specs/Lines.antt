-- Texts of lines, each of which ends with LF.
use Rattle.std.specs.Prelude.{ℕ, ◌≡◌, ◌==◌, ◌⊎◌, Bool, not, true, List, [], ◌++◌, codes}
use Rattle.std.specs.List.{list_all}

-- there is no line, or the last one is ended
abbrev pub EndsLine : List ℕ → Type 0
EndsLine text = (text ≡ []) ⊎ ((before : List ℕ) × (text ≡ before ++ codes "\n"))

abbrev pub is_inside : ℕ → Bool
is_inside b = not (b == 10)

-- one line
pub record IsLine (text : List ℕ) : Type 0 where
  pub prefix : List ℕ
  pub ends : text ≡ prefix ++ codes "\n"
  pub inside : list_all is_inside prefix ≡ true
