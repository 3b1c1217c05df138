-- What `clap` is given: a command with options alone, and the words that it reads.
use Rattle.std.specs.Prelude.{◌==◌, ◌||◌, Bool, not, true, List, [], ◌∷◌, Some, codes, map}
use Rattle.clap.specs.Simple.{App, new_rule, new_shape}
use Rattle.clap.specs.Walk.{Rule}
use Rattle.cli_words.specs.Given.{Bytes}

-- a word begins with no hyphen, or is `--` and a name
abbrev pub is_plain_word : Bytes → Bool
is_plain_word [] = true
is_plain_word (b ∷ []) = not (b == 45)
is_plain_word (b ∷ c ∷ []) = not (b == 45)
is_plain_word (b ∷ c ∷ d ∷ rest) = not (b == 45) || c == 45

-- an option of this name, which has one value
abbrev pub option_rule : Bytes → Rule
option_rule name = record (new_rule name) { long = Some name }

-- a command with options of these names, which has no help, and is given no name of a program
abbrev pub option_app : List Bytes → App
option_app names = record {
  top = record (new_shape (codes "dra")) { rules = map option_rule names; no_binary_name = true; disable_help_flag = true };
  subs = [];
}
