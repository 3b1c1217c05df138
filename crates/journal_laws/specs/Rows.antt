-- Texts of lines, some of which are of entries.
use Rattle.std.specs.Prelude.{ℕ, ◌≡◌, ◌==◌, ◌&&◌, nat_le, not, Bool, true, false, List, [], ◌∷◌, ◌++◌, codes, filter}
use Rattle.std.specs.List.{list_all}

-- lines, each with LF behind it
abbrev pub rows_text : List (List ℕ) → List ℕ
rows_text [] = []
rows_text (row ∷ rows) = row ++ codes "\n" ++ rows_text rows

-- without LF
abbrev pub is_row : List ℕ → Bool
is_row row = list_all (λ b. not (b == 10)) row

abbrev pub begins_with_digit : List ℕ → Bool
begins_with_digit [] = false
begins_with_digit (b ∷ bs) = nat_le 48 b && nat_le b 57

-- the text is lines, of which those that begin with a digit are the other text
pub record HasEntries (text own : List ℕ) : Type 0 where
  pub rows : List (List ℕ)
  pub are_rows : list_all is_row rows ≡ true
  pub is : text ≡ rows_text rows
  pub entries : own ≡ rows_text (filter begins_with_digit rows)
