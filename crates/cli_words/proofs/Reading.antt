-- What clap makes of words, for a command with options alone, is what the words give.
use Rattle.std.proofs.Common.{◌≡◌, ◌∙◌, ◌++◌, ◌∷◌, [], Bool, true, false, List, None, Option, Some, ap, inl, inr, map, refl, subst, sym}
use Rattle.std.specs.Prelude.{◌&&◌, fold, is_some, not}
use Rattle.std.specs.List.{list_all}
use Rattle.std.proofs.lemmas.Bool.{and_parts, cases_Bool, false≢true}
use Rattle.clap.specs.Faults.{check_fault, default_fault, defaults_fault, entered_fault, fault_of, is_simple_and_free, settle_fault, turn_fault, walk_fault}
use Rattle.clap.specs.Faults.{built_fault}
use Rattle.clap.specs.Kinds.{HasKind, IsAmong, Kinds, or_else}
use Rattle.clap.specs.Lexer.{long_of}
use Rattle.clap.specs.Matches.{first_value, found_of}
use Rattle.clap.specs.Simple.{App, HasMatchesOf, entered, matches_of, names_of}
use Rattle.clap.specs.Takes.{is_given as is_row_given}
use Rattle.clap.specs.Values.{kind_of}
use Rattle.clap.specs.Walk.{Held, Row, Rule, Text, Walk, finished, first_of, has_row, idle, nothing_held, option, rows_after, settled, walk, walked, with_default}
use Rattle.clap.specs.declared.error.Error.{Error}
use Rattle.clap.specs.declared.error.kind.ErrorKind.{ErrorKind}
use Rattle.clap.specs.declared.error.kind.ErrorKind.TheVariants.{OutOfMemory}
use Rattle.clap.specs.declared.parser.matches.ArgMatches.{ArgMatches}
use Rattle.clap.proofs.WalkLemmas.{first_value-rows}
use Rattle.cli_words.specs.Clap.{is_plain_word, option_app}
use Rattle.cli_words.specs.Given.{Bytes, Given, HasRead, begins_with_hyphen, by_name, by_value, by_word, is_among, is_given, options_from, options_in, value_of}
use Rattle.cli_words.proofs.OptionRules.{built_is, first_is, none_of_plain, plain, rows, shape, shaped, simple_is}
use Rattle.cli_words.proofs.PlainWords.{IsBare, IsLong, IsStrange, View, bare, long, strange, view}
use Rattle.cli_words.proofs.Walks.{IsAt, again_turn, at_rest, bare_turn, bare_value_turn, bare_value_walked, has_some, hyphen_turn, name_turn, name_walked, named, or_else_none, or_else_some, repeated, rest_is_at, stuck_turn, unknown_turn, value_turn, value_walked, valued_is_at, valueless, walk_at}

-- ---- what a walk ends with

abbrev end_of : List Bytes → Walk → List Bytes → Held
end_of names w words = (fold (walked (map plain names) []) w words).held

abbrev walk_faults : List Bytes → Walk → List Bytes → Kinds
walk_faults names w words = or_else (walk_fault (shape names) [] w words) (settle_fault (map plain names) false (end_of names w words))

abbrev Ends : Kinds → List Row → Option Given → Type 0
Ends kinds found None = has_some kinds ≡ true
Ends kinds found (Some given) = (kinds ≡ []) × (found ≡ rows given)

abbrev Does : List Bytes → Walk → List Bytes → Option Given → Type 0
Does names w words read = Ends (walk_faults names w words) (settled (map plain names) (end_of names w words)).rows read

step : (names : List Bytes) (w w' : Walk) (word : Bytes) (words : List Bytes) (read : Option Given) → turn_fault (shape names) [] w word ≡ [] → walked (map plain names) [] w word ≡ w'
    → Does names w' words read → Does names w (word ∷ words) read
unfolding walk_fault
step names w w' word words read turn next does = rw turn (subst (λ (v : Walk). Does names v words read) (sym next) does)

blocked : (names : List Bytes) (w : Walk) (word : Bytes) (words : List Bytes) → has_some (turn_fault (shape names) [] w word) ≡ true → has_some (walk_faults names w (word ∷ words)) ≡ true
unfolding walk_fault
blocked names w word words e = or_else_some _ _ (or_else_some _ _ e)

stuck : (names : List Bytes) (h : Held) → has_some (settle_fault (map plain names) false h) ≡ true → (words : List Bytes) → list_all is_plain_word words ≡ true
    → has_some (walk_faults names (walk_at h idle) words) ≡ true
unfolding walk_fault
stuck names h e [] all = e
stuck names h e (word ∷ words) all = blocked names (walk_at h idle) word words (stuck_turn names h word e (view word (and_parts _ _ all).0))

-- ---- what words give, word by word

module _ (names : List Bytes) (given : Given) (word : Bytes) (words : List Bytes) where
  reads_bare : IsBare word → options_from names given None (word ∷ words) ≡ None
  unfolding options_from
  reads_bare b = rw b.long refl

  reads_unknown : (name : Bytes) (value : Option Bytes) → IsLong word name value → is_among names name ≡ false → options_from names given None (word ∷ words) ≡ None
  unfolding options_from
  reads_unknown name value l unknown = rw (l.long, unknown) refl

  reads_name : (name : Bytes) → IsLong word name None → is_among names name ≡ true → options_from names given None (word ∷ words) ≡ options_from names given (Some name) words
  unfolding options_from
  reads_name name l known = rw (l.long, known) refl

  reads_again : (name v : Bytes) → IsLong word name (Some v) → is_among names name ≡ true → is_given name given ≡ true → options_from names given None (word ∷ words) ≡ None
  unfolding options_from
  reads_again name v l known again = rw (l.long, known, again) refl

  reads_value : (name v : Bytes) → IsLong word name (Some v) → is_among names name ≡ true → is_given name given ≡ false
      → options_from names given None (word ∷ words) ≡ options_from names (given ++ (name, v) ∷ []) None words
  unfolding options_from
  reads_value name v l known fresh = rw (l.long, known, fresh) refl

  reads_hyphen : (name : Bytes) → begins_with_hyphen word ≡ true → options_from names given (Some name) (word ∷ words) ≡ None
  unfolding options_from
  reads_hyphen name e = rw e refl

  reads_value_again : (name : Bytes) → begins_with_hyphen word ≡ false → is_given name given ≡ true → options_from names given (Some name) (word ∷ words) ≡ None
  unfolding options_from
  reads_value_again name e again = rw (e, again) refl

  reads_next : (name : Bytes) → begins_with_hyphen word ≡ false → is_given name given ≡ false
      → options_from names given (Some name) (word ∷ words) ≡ options_from names (given ++ (name, word) ∷ []) None words
  unfolding options_from
  reads_next name e fresh = rw (e, fresh) refl

reads_end : (names : List Bytes) (given : Given) → options_from names given None [] ≡ Some given
unfolding options_from
reads_end names given = refl

reads_short : (names : List Bytes) (given : Given) (name : Bytes) → options_from names given (Some name) [] ≡ None
unfolding options_from
reads_short names given name = refl

does_end : (names : List Bytes) (h : Held) (given : Given) → IsAt names h given → Does names (walk_at h idle) [] (Some given)
unfolding walk_fault
does_end names h given at = (at.fault, at.left)

does_short : (names : List Bytes) (given : Given) (name : Bytes) → is_among names name ≡ true → Does names (walk_at (named given name []) (option name)) [] None
unfolding walk_fault
does_short names given name known = valueless names given name known

abbrev DoesAs : List Bytes → Walk → List Bytes → Option Given → Option Given → Type 0
DoesAs names w words read other = read ≡ other → Does names w words other → Does names w words read

reads_as : (names : List Bytes) (w : Walk) (words : List Bytes) (read other : Option Given) → DoesAs names w words read other
reads_as names w words read other e does = subst (λ r. Does names w words r) (sym e) does

-- the words that follow, where no option awaits its value, and where one does
abbrev AfterRest : List Bytes → List Bytes → Type 0
AfterRest names words = (h : Held) (given : Given) → IsAt names h given → Does names (walk_at h idle) words (options_from names given None words)

abbrev AfterName : List Bytes → List Bytes → Type 0
AfterName names words = (given : Given) (name : Bytes) → is_among names name ≡ true → Does names (walk_at (named given name []) (option name)) words (options_from names given (Some name) words)

module _ (names : List Bytes) (word : Bytes) (words : List Bytes) (after_rest : AfterRest names words) (after_name : AfterName names words) (all : list_all is_plain_word words ≡ true) where
  idle_long : (h : Held) (given : Given) → IsAt names h given → (name : Bytes) (value : Option Bytes) → IsLong word name value → is_among names name ≡ true
      → Does names (walk_at h idle) (word ∷ words) (options_from names given None (word ∷ words))
  idle_long h given at name None l known =
      reads_as names _ _ _ _ (reads_name names given word words name l known)
      (step names _ _ word words _ (name_turn names h word given at name known l) (name_walked names h word given at name known l) (after_name given name known))
  idle_long h given at name (Some v) l known = elim (cases_Bool (is_given name given)) [
    | inl again ↦ reads_as names _ _ _ None (reads_again names given word words name v l known again) (blocked names _ word words (again_turn names h word given at name known v l again))
    | inr fresh ↦ reads_as names _ _ _ _ (reads_value names given word words name v l known fresh)
        (step names _ _ word words _ (value_turn names h word given at name known v l fresh) (value_walked names h word given at name known v l fresh)
        (after_rest (at_rest (given ++ (name, v) ∷ [])) (given ++ (name, v) ∷ []) (rest_is_at names (given ++ (name, v) ∷ []))))
  ]

  idle_word : (h : Held) (given : Given) → IsAt names h given → View word → Does names (walk_at h idle) (word ∷ words) (options_from names given None (word ∷ words))
  idle_word h given at (bare b) = reads_as names _ _ _ None (reads_bare names given word words b) (blocked names _ word words (bare_turn names h word b))
  idle_word h given at (long name value l) = elim (cases_Bool (is_among names name)) [
    | inl known ↦ idle_long h given at name value l known
    | inr unknown ↦ reads_as names _ _ _ None (reads_unknown names given word words name value l unknown) (blocked names _ word words (unknown_turn names h word name value l unknown))
  ]

  option_word : (given : Given) (name : Bytes) → is_among names name ≡ true → View word
      → Does names (walk_at (named given name []) (option name)) (word ∷ words) (options_from names given (Some name) (word ∷ words))
  option_word given name known (long other value l) =
      reads_as names _ _ _ None (reads_hyphen names given word words name l.hyphen) (blocked names _ word words (hyphen_turn names given name known word other value l))
  option_word given name known (bare b) = elim (cases_Bool (is_given name given)) [
    | inl again ↦ reads_as names _ _ _ None (reads_value_again names given word words name b.hyphen again)
        (step names _ _ word words None (bare_value_turn names given name known word b) (bare_value_walked names given name known word b)
        (stuck names (named given name (word ∷ [])) (repeated names given name word known again) words all))
    | inr fresh ↦ reads_as names _ _ _ _ (reads_next names given word words name b.hyphen fresh)
        (step names _ _ word words _ (bare_value_turn names given name known word b) (bare_value_walked names given name known word b)
        (after_rest (named given name (word ∷ [])) (given ++ (name, word) ∷ []) (valued_is_at names given name word known fresh)))
  ]

after : (names : List Bytes) (words : List Bytes) → list_all is_plain_word words ≡ true → AfterRest names words × AfterName names words
after names [] all = (
  λ h given at. reads_as names (walk_at h idle) [] _ _ (reads_end names given) (does_end names h given at),
  λ given name known. reads_as names _ [] _ None (reads_short names given name) (does_short names given name known),
)
after names (word ∷ words) all =
    let parts = and_parts (is_plain_word word) (list_all is_plain_word words) all in
    let next : AfterRest names words × AfterName names words = after names words parts.1 in (
      λ h given at. idle_word names word words next.0 next.1 parts.1 h given at (view word parts.0),
      λ given name known. option_word names word words next.0 next.1 parts.1 given name known (view word parts.0),
    )

-- ---- the whole parse

below_none : (rules : List Rule) (stop : Option (Text × List Text)) → entered_fault (shaped rules) stop ≡ []
below_none rules None = refl
below_none rules (Some p) = refl

no_default_fault : (found : List Row) (name : Bytes) → default_fault found (plain name) ≡ []
no_default_fault found name = elim (cases_Bool (has_row name found)) [
  | inl e ↦ rw e refl
  | inr e ↦ rw e refl
]

no_defaults : (names : List Bytes) (found : List Row) → defaults_fault found (map plain names) ≡ []
unfolding defaults_fault
no_defaults [] found = refl
no_defaults (n ∷ ns) found = rw (no_default_fault found n) (no_defaults ns (with_default found (plain n)))

same_default : (found : List Row) (name : Bytes) → with_default found (plain name) ≡ found
same_default found name = elim (cases_Bool (has_row name found)) [
  | inl e ↦ rw e refl
  | inr e ↦ rw e refl
]

same_defaults : (names : List Bytes) (found : List Row) → fold with_default found (map plain names) ≡ found
same_defaults [] found = refl
same_defaults (n ∷ ns) found = ap (λ l. fold with_default l (map plain ns)) (same_default found n) ∙ same_defaults ns found

no_check : (names : List Bytes) (found : List Row) (has : Bool) → check_fault (shape names) found has ≡ []
no_check names found true = rw (none_of_plain (λ a. a.required && not (is_row_given a.id found)) (λ n. refl) names) refl
no_check names found false = rw (none_of_plain (λ a. a.required && not (is_row_given a.id found)) (λ n. refl) names) refl

joined_some : (w b s r : Kinds) → b ≡ [] → has_some (or_else w s) ≡ true → has_some (or_else w (or_else b (or_else s r))) ≡ true
joined_some [] b s r none some = rw none (or_else_some s r some)
joined_some (k ∷ ks) b s r none some = refl

joined_none : (w b s d c : Kinds) → b ≡ [] → d ≡ [] → c ≡ [] → or_else w s ≡ [] → or_else w (or_else b (or_else s (or_else d c))) ≡ []
joined_none w b s d c nb nd nc none = let parts = or_else_none w s none in rw (parts.0, nb, parts.1, nd, nc) refl

abbrev start : Walk
start = walk_at nothing_held idle

faults_as : (names : List Bytes) (words : List Bytes) → fault_of (option_app names) words ≡ built_fault (shaped (map plain names)) nothing_held words
faults_as names words = ap (λ (a : App). built_fault a nothing_held words) (built_is names)

some_faults : (names : List Bytes) (words : List Bytes) → has_some (walk_faults names start words) ≡ true → has_some (fault_of (option_app names) words) ≡ true
some_faults names words e = subst (λ k. has_some k ≡ true) (sym (faults_as names words)) (joined_some
    (walk_fault (shape names) [] start words) (entered_fault (shaped (map plain names)) (walk (map plain names) [] nothing_held words).stopped)
    (settle_fault (map plain names) false (end_of names start words))
    (or_else (defaults_fault (settled (map plain names) (end_of names start words)).rows (map plain names))
    (check_fault (shape names) (finished (map plain names) (end_of names start words)) (is_some (entered (shaped (map plain names)) (walk (map plain names) [] nothing_held words).stopped))))
    (below_none (map plain names) _) e)

no_faults : (names : List Bytes) (words : List Bytes) → walk_faults names start words ≡ [] → fault_of (option_app names) words ≡ []
no_faults names words e = faults_as names words ∙ joined_none _ _ _ _ _ (below_none (map plain names) _) (no_defaults names _) (no_check names _ _) e

found_as : (names : List Bytes) (words : List Bytes) → matches_of (option_app names) words ≡ (settled (map plain names) (end_of names start words)).rows
found_as names words = ap (λ (a : App). rows_after a.top.rules (names_of a) words) (built_is names) ∙ same_defaults names _

from_start : (names : List Bytes) (words : List Bytes) → list_all is_plain_word words ≡ true → Does names start words (options_in names words)
from_start names words all = (after names words all).0 nothing_held [] (rest_is_at names [])

values_as : (names : List Bytes) (words : List Bytes) (given : Given) (m : ArgMatches) → HasMatchesOf (option_app names) words m → Does names start words (Some given)
    → (name : Bytes) → first_value (found_of m) name ≡ value_of name given
values_as names words given m has does name =
    first_value-rows (found_of m) name ∙ ap (first_of name) ((has (simple_is names).0).0 ∙ found_as names words ∙ does.1) ∙ first_is name given

ok_by : (names : List Bytes) (words : List Bytes) (m : ArgMatches) → fault_of (option_app names) words ≡ [] → HasMatchesOf (option_app names) words m
    → (read : Option Given) → Does names start words read → HasRead read (Some m)
ok_by names words m none has None does = absurd (false≢true (ap has_some (sym none) ∙ some_faults names words does))
ok_by names words m none has (Some given) does = values_as names words given m has does

among_some : (e : ErrorKind) (kinds : Kinds) → kinds ≡ [] → IsAmong e kinds → ⊥
among_some e [] is among = among
among_some e (k ∷ ks) is among = absurd (cc)

err_by : (names : List Bytes) (words : List Bytes) (e : ErrorKind) → IsAmong e (fault_of (option_app names) words) → (read : Option Given) → Does names start words read → HasRead read None
err_by names words e among None does = refl
err_by names words e among (Some given) does = absurd (among_some e _ (no_faults names words does.0) among)

-- a parse that succeeds
pub parsed : (names : List Bytes) (words : List Bytes) (app : App) (m : ArgMatches) → app ≡ option_app names → list_all is_plain_word words ≡ true
    → (is_simple_and_free app ≡ true → fault_of app words ≡ []) → HasMatchesOf app words m → HasRead (options_in names words) (Some m)
parsed names words app m is all faults has =
    let none : fault_of (option_app names) words ≡ [] = subst (λ a. is_simple_and_free a ≡ true → fault_of a words ≡ []) is faults (simple_is names).1 in
    ok_by names words m none (subst (λ a. HasMatchesOf a words m) is has) (options_in names words) (from_start names words all)

-- a parse that fails, and not for want of memory
pub unparsed : (names : List Bytes) (words : List Bytes) (app : App) (e : Error) → app ≡ option_app names → list_all is_plain_word words ≡ true
    → (is_simple_and_free app ≡ true → HasKind (fault_of app words) e) → (kind_of e ≡ OutOfMemory → ⊥) → HasRead (options_in names words) None
unparsed names words app e is all faults other =
    elim (subst (λ a. is_simple_and_free a ≡ true → HasKind (fault_of a words) e) is faults (simple_is names).1) [
      | inl memory ↦ absurd (other memory)
      | inr among ↦ err_by names words (kind_of e) among (options_in names words) (from_start names words all)
    ]

-- ---- words that aren't all plain

module _ (names : List Bytes) where
  no_word : (given : Given) (awaited : Option Bytes) (word : Bytes) (words : List Bytes) → IsStrange word → options_from names given awaited (word ∷ words) ≡ None
  unfolding options_from
  no_word given None word words s = rw s.long refl
  no_word given (Some name) word words s = rw s.hyphen refl

  none_after_value : (given : Given) (name : Bytes) (value : Option Bytes) (next : Given → Option Bytes → Option Given) → ((g : Given) (a : Option Bytes) → next g a ≡ None) → by_value given name value next ≡ None
  none_after_value given name None next none = none given (Some name)
  none_after_value given name (Some v) next none = elim (cases_Bool (is_given name given)) [
    | inl e ↦ rw e refl
    | inr e ↦ rw e (none _ None)
  ]

  none_after_name : (given : Given) (l : Option (Bytes × Option Bytes)) (next : Given → Option Bytes → Option Given) → ((g : Given) (a : Option Bytes) → next g a ≡ None) → by_name names given l next ≡ None
  none_after_name given None next none = refl
  none_after_name given (Some p) next none = elim (cases_Bool (is_among names p.0)) [
    | inl e ↦ rw e (none_after_value given p.0 p.1 next none)
    | inr e ↦ rw e refl
  ]

  none_after_word : (given : Given) (name word : Bytes) (next : Given → Option Bytes → Option Given) → ((g : Given) (a : Option Bytes) → next g a ≡ None) → by_word given name word next ≡ None
  none_after_word given name word next none = elim (cases_Bool (begins_with_hyphen word)) [
    | inl e ↦ rw e refl
    | inr e ↦ rw e (none_after_value given name (Some word) next none)
  ]

  none_behind : (given : Given) (awaited : Option Bytes) (word : Bytes) (words : List Bytes) → ((g : Given) (a : Option Bytes) → options_from names g a words ≡ None) → options_from names given awaited (word ∷ words) ≡ None
  unfolding options_from
  none_behind given None word words none = none_after_name given (long_of word) _ none
  none_behind given (Some name) word words none = none_after_word given name word _ none

  not_all : (words : List Bytes) → list_all is_plain_word words ≡ false → (given : Given) (awaited : Option Bytes) → options_from names given awaited words ≡ None
  not_all [] e given awaited = absurd (false≢true (sym e))
  not_all (word ∷ words) e given awaited = elim (cases_Bool (is_plain_word word)) [
    | inl plain_here ↦ none_behind given awaited word words (not_all words (rw plain_here at e))
    | inr other ↦ no_word given awaited word words (strange word other)
  ]

  pub unread : (words : List Bytes) → list_all is_plain_word words ≡ false → HasRead (options_in names words) None
  unread words e = subst (λ (r : Option Given). HasRead r None) (sym (not_all words e [] None)) refl
