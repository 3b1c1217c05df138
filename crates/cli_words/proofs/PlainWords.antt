-- What the words that clap is given look like.
use Rattle.std.proofs.Common.{◌≡◌, ◌∷◌, [], ℕ, true, false, None, Option, Some, inl, inr, refl, sym}
use Rattle.std.specs.Prelude.{◌==◌, bytes_eq}
use Rattle.std.proofs.lemmas.Bool.{cases_Bool, false≢true}
use Rattle.clap.specs.Lexer.{long_of, name_and_value, short_of}
use Rattle.cli_words.specs.Clap.{is_plain_word}
use Rattle.cli_words.specs.Given.{Bytes, begins_with_hyphen}

pub record IsLong (word name : Bytes) (value : Option Bytes) : Type 0 where
  pub long : long_of word ≡ Some (name, value)
  pub dashes : bytes_eq word (45 ∷ 45 ∷ []) ≡ false
  pub hyphen : begins_with_hyphen word ≡ true

pub record IsBare (word : Bytes) : Type 0 where
  pub long : long_of word ≡ None
  pub dashes : bytes_eq word (45 ∷ 45 ∷ []) ≡ false
  pub short : short_of word ≡ None
  pub hyphen : begins_with_hyphen word ≡ false

pub data View (word : Bytes) : Type 0 where
  long : (name : Bytes) (value : Option Bytes) → IsLong word name value → View word
  bare : IsBare word → View word

bare_by : (b : ℕ) (rest : Bytes) → (b == 45) ≡ false → IsBare (b ∷ rest)
bare_by b rest e = record { long = rw e refl; dashes = rw e refl; short = rw e refl; hyphen = e }

pub view : (word : Bytes) → is_plain_word word ≡ true → View word
view [] plain = bare (record { long = refl; dashes = refl; short = refl; hyphen = refl })
view (b ∷ []) plain = elim (cases_Bool (b == 45)) [
  | inl e ↦ absurd (false≢true (rw e at plain))
  | inr e ↦ bare (bare_by b [] e)
]
view (b ∷ c ∷ []) plain = elim (cases_Bool (b == 45)) [
  | inl e ↦ absurd (false≢true (rw e at plain))
  | inr e ↦ bare (bare_by b (c ∷ []) e)
]
view (b ∷ c ∷ d ∷ rest) plain = elim (cases_Bool (b == 45)) [
  | inl e ↦ (let second : (c == 45) ≡ true = rw e at plain in
      long (name_and_value (d ∷ rest)).0 (name_and_value (d ∷ rest)).1 (record { long = rw (e, second) refl; dashes = rw (e, second) refl; hyphen = e }))
  | inr e ↦ bare (bare_by b (c ∷ d ∷ rest) e)
]

-- a word that clap isn't given
pub record IsStrange (word : Bytes) : Type 0 where
  pub long : long_of word ≡ None
  pub hyphen : begins_with_hyphen word ≡ true

pub strange : (word : Bytes) → is_plain_word word ≡ false → IsStrange word
strange [] plain = absurd (false≢true (sym plain))
strange (b ∷ []) plain = elim (cases_Bool (b == 45)) [
  | inl e ↦ record { long = rw e refl; hyphen = e }
  | inr e ↦ absurd (false≢true (sym (rw e at plain)))
]
strange (b ∷ c ∷ []) plain = elim (cases_Bool (b == 45)) [
  | inl e ↦ elim (cases_Bool (c == 45)) [
    | inl second ↦ record { long = rw (e, second) refl; hyphen = e }
    | inr other ↦ record { long = rw (e, other) refl; hyphen = e }
  ]
  | inr e ↦ absurd (false≢true (sym (rw e at plain)))
]
strange (b ∷ c ∷ d ∷ rest) plain = elim (cases_Bool (b == 45)) [
  | inl e ↦ (let other : (c == 45) ≡ false = rw e at plain in record { long = rw (e, other) refl; hyphen = e })
  | inr e ↦ absurd (false≢true (sym (rw e at plain)))
]
