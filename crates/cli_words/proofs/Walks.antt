-- The walk of clap over words, for a command with options alone: what it finds is what the words give.
use Rattle.std.proofs.Common.{◌≡◌, ◌++◌, ◌∷◌, [], Bool, true, false, List, None, Option, Some, inl, inr, map, refl}
use Rattle.std.proofs.lemmas.Bool.{cases_Bool, false≢true}
use Rattle.std.proofs.lemmas.Slice.Eq.{bytes_eq-Decides}
use Rattle.clap.specs.Faults.{settle_fault, turn_fault}
use Rattle.clap.specs.Kinds.{Kinds, or_else}
use Rattle.clap.specs.Walk.{Held, Waiting, Walk, arg_by_index, idle, option, settled_rows, walked}
use Rattle.cli_words.specs.Given.{Bytes, Given, is_among, is_given}
use Rattle.cli_words.proofs.OptionRules.{id_is, long_is, plain, rows, shape, use_fault_is, used_is}
use Rattle.cli_words.proofs.PlainWords.{IsBare, IsLong, View, bare, long}

-- ---- kinds of errors

-- there is one
abbrev pub has_some : Kinds → Bool
has_some [] = false
has_some (k ∷ ks) = true

pub or_else_some : (k l : Kinds) → has_some k ≡ true → has_some (or_else k l) ≡ true
or_else_some [] l e = absurd (false≢true e)
or_else_some (x ∷ xs) l e = refl

pub or_else_none : (k l : Kinds) → or_else k l ≡ [] → (k ≡ []) × (l ≡ [])
or_else_none [] l e = (refl, e)
or_else_none (x ∷ xs) l e = absurd (cc)

-- ---- what is held between two words

abbrev pub at_rest : Given → Held
at_rest given = record { rows = rows given; pending = None; skip = 0 }

-- an option was named, and these are its values so far
abbrev pub named : Given → Bytes → List Bytes → Held
named given name values = record { rows = rows given; pending = Some (name, values); skip = 0 }

abbrev pub walk_at : Held → Waiting → Walk
walk_at h waiting = record { held = h; waiting = waiting; position = 1; is_trailing = false; stopped = None }

-- once what is pending is used, these options were given
pub record IsAt (names : List Bytes) (h : Held) (given : Given) : Type 0 where
  pub fault : settle_fault (map plain names) false h ≡ []
  pub left : settled_rows (map plain names) h.pending h.rows ≡ rows given
  pub skip : h.skip ≡ 0

pub rest_is_at : (names : List Bytes) (given : Given) → IsAt names (at_rest given) given
rest_is_at names given = record { fault = refl; left = refl; skip = refl }

pub valued_is_at : (names : List Bytes) (given : Given) (name value : Bytes) → is_among names name ≡ true → is_given name given ≡ false
    → IsAt names (named given name (value ∷ [])) (given ++ (name, value) ∷ [])
valued_is_at names given name value known fresh = record {
  fault = rw (id_is names name known) (use_fault_is name value given false fresh);
  left = rw (id_is names name known) (used_is name value given fresh);
  skip = refl;
}

pub repeated : (names : List Bytes) (given : Given) (name value : Bytes) → is_among names name ≡ true → is_given name given ≡ true
    → has_some (settle_fault (map plain names) false (named given name (value ∷ []))) ≡ true
repeated names given name value known again = rw (id_is names name known, use_fault_is name value given true again) refl

pub valueless : (names : List Bytes) (given : Given) (name : Bytes) → is_among names name ≡ true
    → has_some (settle_fault (map plain names) false (named given name [])) ≡ true
valueless names given name known = rw (id_is names name known) refl

-- ---- words where no option awaits its value

no_positional : (names : List Bytes) → arg_by_index (map plain names) 1 ≡ None
no_positional [] = refl
no_positional (n ∷ ns) = no_positional ns

module _ (names : List Bytes) (h : Held) (word : Bytes) where
  pub bare_turn : IsBare word → has_some (turn_fault (shape names) [] (walk_at h idle) word) ≡ true
  bare_turn b = rw (b.dashes, b.long, b.short, no_positional names) refl

  pub unknown_turn : (name : Bytes) (value : Option Bytes) → IsLong word name value → is_among names name ≡ false
      → has_some (turn_fault (shape names) [] (walk_at h idle) word) ≡ true
  unknown_turn name value l unknown = rw (l.dashes, l.long, long_is names name false unknown) refl

  -- what is pending is used by the next option
  stuck_long : (name : Bytes) (value : Option Bytes) → IsLong word name value → is_among names name ≡ true → has_some (settle_fault (map plain names) false h) ≡ true
      → has_some (turn_fault (shape names) [] (walk_at h idle) word) ≡ true
  stuck_long name None l known e = rw (l.dashes, l.long, long_is names name true known) (or_else_some _ _ e)
  stuck_long name (Some v) l known e = rw (l.dashes, l.long, long_is names name true known) (or_else_some _ _ (or_else_some _ _ e))

  pub stuck_turn : has_some (settle_fault (map plain names) false h) ≡ true → View word → has_some (turn_fault (shape names) [] (walk_at h idle) word) ≡ true
  stuck_turn e (bare b) = bare_turn b
  stuck_turn e (long name value l) = elim (cases_Bool (is_among names name)) [
    | inl known ↦ stuck_long name value l known e
    | inr unknown ↦ unknown_turn name value l unknown
  ]

  module _ (given : Given) (at : IsAt names h given) (name : Bytes) (known : is_among names name ≡ true) where
    pub name_turn : IsLong word name None → turn_fault (shape names) [] (walk_at h idle) word ≡ []
    name_turn l = rw (l.dashes, l.long, long_is names name true known, at.fault) refl

    pub name_walked : IsLong word name None → walked (map plain names) [] (walk_at h idle) word ≡ walk_at (named given name []) (option name)
    unfolding walked
    name_walked l = rw (l.dashes, l.long, long_is names name true known, at.left, at.skip) refl

    pub again_turn : (v : Bytes) → IsLong word name (Some v) → is_given name given ≡ true → has_some (turn_fault (shape names) [] (walk_at h idle) word) ≡ true
    again_turn v l again = rw (l.dashes, l.long, long_is names name true known, at.fault, at.left, use_fault_is name v given true again) refl

    pub value_turn : (v : Bytes) → IsLong word name (Some v) → is_given name given ≡ false → turn_fault (shape names) [] (walk_at h idle) word ≡ []
    value_turn v l fresh = rw (l.dashes, l.long, long_is names name true known, at.fault, at.left, use_fault_is name v given false fresh) refl

    pub value_walked : (v : Bytes) → IsLong word name (Some v) → is_given name given ≡ false
        → walked (map plain names) [] (walk_at h idle) word ≡ walk_at (at_rest (given ++ (name, v) ∷ [])) idle
    unfolding walked
    value_walked v l fresh = rw (l.dashes, l.long, long_is names name true known, at.left, at.skip, used_is name v given fresh) refl

-- ---- words where an option awaits its value

module _ (names : List Bytes) (given : Given) (name : Bytes) (known : is_among names name ≡ true) (word : Bytes) where
  pub hyphen_turn : (other : Bytes) (value : Option Bytes) → IsLong word other value → has_some (turn_fault (shape names) [] (walk_at (named given name []) (option name)) word) ≡ true
  hyphen_turn other value l = elim (cases_Bool (is_among names other)) [
    | inl found ↦ by value found l
    | inr missing ↦ rw (l.dashes, l.long, long_is names other false missing) refl
  ]
    where
      by : (v : Option Bytes) → is_among names other ≡ true → IsLong word other v → has_some (turn_fault (shape names) [] (walk_at (named given name []) (option name)) word) ≡ true
      by None found k = rw (k.dashes, k.long, long_is names other true found) (or_else_some _ _ (valueless names given name known))
      by (Some v) found k = rw (k.dashes, k.long, long_is names other true found) (or_else_some _ _ (or_else_some _ _ (valueless names given name known)))

  pub bare_value_turn : IsBare word → turn_fault (shape names) [] (walk_at (named given name []) (option name)) word ≡ []
  bare_value_turn b = rw (b.dashes, b.long, b.short) refl

  pub bare_value_walked : IsBare word → walked (map plain names) [] (walk_at (named given name []) (option name)) word ≡ walk_at (named given name (word ∷ [])) idle
  unfolding walked
  bare_value_walked b = rw (b.dashes, b.long, b.short, id_is names name known, (bytes_eq-Decides name name).1 refl) refl
