-- What holds of lines.
use Rattle.std.specs.Prelude.{ℕ, ◌≡◌, ◌==◌, nat_lt, Bool, true, not, ◌&&◌, List, ◌++◌, codes}
use Rattle.std.specs.List.{list_all}

-- neither below 0x20 nor 0x7f
abbrev pub is_printed : ℕ → Bool
is_printed b = not (nat_lt b 32) && not (b == 127)

-- a text that ends with LF, with no control character before it
pub record IsOneLine (text : List ℕ) : Type 0 where
  pub prefix : List ℕ
  pub ends : text ≡ prefix ++ codes "\n"
  pub printed : list_all is_printed prefix ≡ true
