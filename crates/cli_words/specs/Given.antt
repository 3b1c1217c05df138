-- The options that words give: each as `--name value` or `--name=value`, at most once, and no other words.
use Rattle.std.specs.Prelude.{◌≡◌, ℕ, ◌==◌, ◌++◌, Bool, false, List, [], ◌∷◌, Option, None, Some, bytes_eq, find, if◌then◌else◌, option_map}
use Rattle.std.specs.List.{list_any}
use Rattle.std.specs.Option.{IsSomeAnd, option_and_then}
use Rattle.clap.specs.Lexer.{long_of}
use Rattle.clap.specs.Matches.{first_value, found_of}
use Rattle.clap.specs.declared.parser.matches.ArgMatches.{ArgMatches}

abbrev pub Bytes : Type 0
Bytes = List ℕ

-- options that were given, in order: the name and the value of each
abbrev pub Given : Type 0
Given = List (Bytes × Bytes)

abbrev pub is_given : Bytes → Given → Bool
is_given name given = list_any (λ (p : Bytes × Bytes). bytes_eq p.0 name) given

abbrev pub value_of : Bytes → Given → Option Bytes
value_of name given = option_map (λ (p : Bytes × Bytes). p.1) (find (λ (p : Bytes × Bytes). bytes_eq p.0 name) given)

-- with one more, which wasn't given before
abbrev pub with_option : Given → Bytes → Bytes → Option Given
with_option given name value = if is_given name given then None else Some (given ++ (name, value) ∷ [])

abbrev pub begins_with_hyphen : Bytes → Bool
begins_with_hyphen [] = false
begins_with_hyphen (b ∷ bs) = b == 45

abbrev pub is_among : List Bytes → Bytes → Bool
is_among names name = list_any (λ n. bytes_eq n name) names

-- a word that names an option, with its value or before it; `next` reads the words that follow, where an option
-- may await its value
abbrev pub by_value : Given → Bytes → Option Bytes → (Given → Option Bytes → Option Given) → Option Given
by_value given name None next = next given (Some name)
by_value given name (Some value) next = option_and_then (λ more. next more None) (with_option given name value)

-- `long_of` of a word is the name and value of `--name` or `--name=value`
abbrev pub by_name : List Bytes → Given → Option (Bytes × Option Bytes) → (Given → Option Bytes → Option Given) → Option Given
by_name names given None next = None
by_name names given (Some p) next = if is_among names p.0 then by_value given p.0 p.1 next else None

-- a word that is the value of the option before it
abbrev pub by_word : Given → Bytes → Bytes → (Given → Option Bytes → Option Given) → Option Given
by_word given name word next = if begins_with_hyphen word then None else by_value given name (Some word) next

-- the options that words give after those that are given, where the option `awaited` has its value in the next word
unfoldable pub options_from : List Bytes → Given → Option Bytes → List Bytes → Option Given
options_from names given None [] = Some given
options_from names given (Some name) [] = None
options_from names given None (word ∷ words) = by_name names given (long_of word) (λ more awaited. options_from names more awaited words)
options_from names given (Some name) (word ∷ words) = by_word given name word (λ more awaited. options_from names more awaited words)

-- the options that words give, where there are options of these names
abbrev pub options_in : List Bytes → List Bytes → Option Given
options_in names words = options_from names [] None words

-- what was read of words: nothing if they give no options, and else the value of each
abbrev pub HasRead : Option Given → Option ArgMatches → Type 0
HasRead None read = read ≡ None
HasRead (Some given) read = IsSomeAnd read (λ m. (name : Bytes) → first_value (found_of m) name ≡ value_of name given)
