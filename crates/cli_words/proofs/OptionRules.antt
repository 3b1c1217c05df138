-- The options that a command has once it is built, and the rows of options that were given.
use Rattle.std.proofs.Common.{◌≡◌, ◌∙◌, ◌++◌, ◌∷◌, [], Bool, true, false, cond, List, None, Some, append-nil, ap, inl, inr, map, refl, sym}
use Rattle.std.specs.Prelude.{◌||◌, bytes_eq, codes, count_by, find, is_some}
use Rattle.std.specs.List.{list_all, list_any}
use Rattle.std.proofs.lemmas.Bool.{cases_Bool, or_parts}
use Rattle.std.proofs.lemmas.List.{map_push}
use Rattle.std.proofs.lemmas.Slice.Eq.{bytes_eq-Decides}
use Rattle.clap.specs.Walk.{Row, Rule, arg_by_id, arg_by_long, at_row, first_of, has_row, is_early_multiple, more_values, reading_by, used, without}
use Rattle.clap.specs.Simple.{App, Shape, built, filled_from, is_simple, new_rule, new_shape}
use Rattle.clap.specs.Faults.{is_simple_and_free, use_fault}
use Rattle.clap.specs.declared.builder.action.ArgAction.TheVariants.{Set}
use Rattle.clap.specs.declared.builder.value_parser.ValueParser.TheVariants as vp
use Rattle.clap.specs.declared.error.kind.ErrorKind.TheVariants as kind
use Rattle.clap.specs.declared.parser.matches.ValueSource.TheVariants.{CommandLine}
use Rattle.cli_words.specs.Clap.{option_app, option_rule}
use Rattle.cli_words.specs.Given.{Bytes, Given, is_among, is_given, value_of}

abbrev pub plain : Bytes → Rule
plain name = record (new_rule name) { long = Some name; action = Some Set; range = Some (record { start_inclusive = 1; end_inclusive = 1 }); parser = Some vp.String }

abbrev pub shape : List Bytes → Shape
shape names = record (new_shape (codes "dra")) { rules = map plain names; no_binary_name = true; disable_help_flag = true; disable_help_subcommand = true; is_built = true }

abbrev pub shaped : List Rule → App
shaped rules = record { top = record (new_shape (codes "dra")) { rules = rules; no_binary_name = true; disable_help_flag = true; disable_help_subcommand = true; is_built = true }; subs = [] }

filled_all : (names : List Bytes) → filled_from 1 (map option_rule names) ≡ map plain names
filled_all [] = refl
filled_all (n ∷ ns) = ap (λ l. plain n ∷ l) (filled_all ns)

pub built_is : (names : List Bytes) → built (option_app names) ≡ shaped (map plain names)
built_is names = ap shaped (filled_all names)

-- ---- what holds of each of the options

all_of_plain : (p : Rule → Bool) → ((n : Bytes) → p (plain n) ≡ true) → (names : List Bytes) → list_all p (map plain names) ≡ true
all_of_plain p each [] = refl
all_of_plain p each (n ∷ ns) = rw (each n) (all_of_plain p each ns)

all_of_options : (p : Rule → Bool) → ((n : Bytes) → p (option_rule n) ≡ true) → (names : List Bytes) → list_all p (map option_rule names) ≡ true
all_of_options p each [] = refl
all_of_options p each (n ∷ ns) = rw (each n) (all_of_options p each ns)

pub none_of_plain : (p : Rule → Bool) → ((n : Bytes) → p (plain n) ≡ false) → (names : List Bytes) → list_any p (map plain names) ≡ false
none_of_plain p each [] = refl
none_of_plain p each (n ∷ ns) = rw (each n) (none_of_plain p each ns)

-- ---- the option of a name

pub find_plain : (p : Rule → Bool) (name : Bytes) → ((n : Bytes) → p (plain n) ≡ bytes_eq n name) → (names : List Bytes)
    → find p (map plain names) ≡ cond (is_among names name) (Some (plain name)) None
find_plain p name each [] = refl
find_plain p name each (n ∷ ns) = rw (each n) (elim (cases_Bool (bytes_eq n name)) [
  | inl e ↦ rw e (ap (λ m. Some (plain m)) ((bytes_eq-Decides n name).0 e))
  | inr e ↦ rw e (find_plain p name each ns)
])

pub long_is : (names : List Bytes) (name : Bytes) (known : Bool) → is_among names name ≡ known → arg_by_long (map plain names) name ≡ cond known (Some (plain name)) None
long_is names name known e = find_plain _ name (λ n. elim (cases_Bool (bytes_eq n name)) [
  | inl t ↦ rw t refl
  | inr f ↦ rw f refl
]) names ∙ ap (λ b. cond b (Some (plain name)) None) e

pub id_is : (names : List Bytes) (name : Bytes) → is_among names name ≡ true → arg_by_id (map plain names) name ≡ Some (plain name)
id_is names name known = find_plain _ name (λ n. refl) names ∙ ap (λ b. cond b (Some (plain name)) None) known

-- ---- rows

abbrev pub row : Bytes × Bytes → Row
row p = record { id = p.0; values = p.1 ∷ []; count = None; source = Some CommandLine; reading = reading_by (plain p.0) }

abbrev pub rows : Given → List Row
rows given = map row given

pub has_row_is : (id : Bytes) (given : Given) → has_row id (rows given) ≡ is_given id given
has_row_is id [] = refl
has_row_is id (p ∷ ps) = ap (λ b. bytes_eq p.0 id || b) (has_row_is id ps)

at_end : (id : Bytes) (change : Row → List Row) (missing : List Row) (given : Given) → is_given id given ≡ false → at_row id change missing (rows given) ≡ rows given ++ missing
at_end id change missing [] fresh = refl
at_end id change missing (p ∷ ps) fresh =
    let parts = or_parts (bytes_eq p.0 id) (is_given id ps) fresh in
    rw parts.0 (ap (λ l. row p ∷ l) (at_end id change missing ps parts.1))

pub used_is : (name value : Bytes) (given : Given) → is_given name given ≡ false → used (plain name) (value ∷ []) (rows given) ≡ rows (given ++ (name, value) ∷ [])
used_is name value given fresh =
    let left : without name (rows given) ≡ rows given = at_end name (λ _. []) [] given fresh ∙ append-nil (rows given) in
    rw left (at_end name (more_values CommandLine (value ∷ [])) (row (name, value) ∷ []) given fresh ∙ sym (map_push row given (name, value)))

pub use_fault_is : (name value : Bytes) (given : Given) (again : Bool) → is_given name given ≡ again → use_fault false (plain name) (value ∷ []) (rows given) ≡ cond again (kind.ArgumentConflict ∷ []) []
use_fault_is name value given true e = rw (has_row_is name given ∙ e) refl
use_fault_is name value given false e = rw (has_row_is name given ∙ e) refl

pub first_is : (name : Bytes) (given : Given) → first_of name (rows given) ≡ value_of name given
first_is name [] = refl
first_is name (p ∷ ps) = elim (cases_Bool (bytes_eq p.0 name)) [
  | inl e ↦ rw e refl
  | inr e ↦ rw e (first_is name ps)
]

-- ---- the command is one of which clap's clauses speak

pub simple_is : (names : List Bytes) → (is_simple (option_app names) ≡ true) × (is_simple_and_free (option_app names) ≡ true)
simple_is names =
    let options = all_of_options (λ a. a.is_simple) (λ n. refl) names in
    let simple = all_of_plain (λ a. a.is_simple) (λ n. refl) names in
    let free = all_of_plain (λ a. a.is_free) (λ n. refl) names in
    let late = none_of_plain (is_early_multiple (count_by (λ a. is_some a.index) (map plain names))) (λ n. refl) names in
    let one : is_simple (option_app names) ≡ true = rw (filled_all names, options, simple, late) refl in
    (one, rw (filled_all names, options, simple, late, free) refl)
